use Rattle.text.proofs.number.number_at.Goals as goal
use Rattle.text.proofs.Behind.{behind}

pub returns-clause-rest : goal.returns-clause-rest
returns-clause-rest c = behind (λ n. n.1.now) c.digits.result 1 _ c.in_ok-strip_prefix.ensures.cases.1 c.digits.ensures.rest
