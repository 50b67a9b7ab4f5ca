-- `parser::Parser::expect` meets its contract. Assumes nothing.
use Rattle.runtime.specs.Acts.{expect}
use Rattle.runtime.proofs.Laws.{then, so, not, ends}
use Rattle.runtime.proofs.parser.Parser.expect.Goals as goal

pub returns-then-eaten : goal.returns-then-eaten
unfolding expect
returns-then-eaten c = then _ _ _ _ c.eat-p.ensures (so _ _ _ _ c.if-eaten.true (ends _ _ _))

pub returns : goal.returns
unfolding expect
returns c = then _ _ _ _ c.eat-p.ensures (not _ _ _ _ c.if-eaten.false (then _ _ _ _ c.error_expected.ensures (ends _ _ _)))
