-- `parser::Parser::bump` meets its contract. Assumes nothing.
use Rattle.runtime.specs.Acts.{bump}
use Rattle.runtime.proofs.Laws.{then, so, not, any, ends}
use Rattle.runtime.proofs.parser.Parser.bump.Goals as goal

pub returns-then-eaten : goal.returns-then-eaten
unfolding bump
returns-then-eaten c = then _ _ _ _ c.eat-p.ensures (so _ _ _ _ c.if-eaten.true (ends _ _ _))

pub returns : goal.returns
unfolding bump
returns c = then _ _ _ _ c.eat-p.ensures (not _ _ _ _ c.if-eaten.false (any _ _ _ c.stop.ensures))
