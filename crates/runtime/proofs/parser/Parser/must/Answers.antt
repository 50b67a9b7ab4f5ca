-- `parser::Parser::must` meets its contract. Assumes nothing.
use Rattle.runtime.specs.Acts.{must}
use Rattle.runtime.proofs.Laws.{see, so, not, any, ends}
use Rattle.runtime.proofs.parser.Parser.must.Goals as goal

pub returns-then-nth_at : goal.returns-then-nth_at
unfolding must
returns-then-nth_at c = see _ _ _ _ c.nth_at.ensures (so _ _ _ _ c.if-nth_at.true (ends _ _ _))

pub returns : goal.returns
unfolding must
returns c = see _ _ _ _ c.nth_at.ensures (not _ _ _ _ c.if-nth_at.false (any _ _ _ c.stop.ensures))
