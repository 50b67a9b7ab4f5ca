-- `parser::Parser::bump_any` meets its contract. Assumes nothing.
use Rattle.runtime.specs.Acts.{bump_any}
use Rattle.runtime.proofs.Laws.{peek, so-eq, not-eq, ends, told}
use Rattle.runtime.proofs.Cases.{take_done}
use Rattle.runtime.proofs.parser.Parser.bump_any.Goals as goal

pub returns-then-kind-eq-EOF : goal.returns-then-kind-eq-EOF
unfolding bump_any
returns-then-kind-eq-EOF c = peek _ _ _ _ _ c.nth-p.ensures (so-eq _ _ _ _ c.if-kind-eq-EOF.true (ends _ _ _))

pub returns : goal.returns
unfolding bump_any
returns c = peek _ _ _ _ _ c.nth-p.ensures (not-eq _ _ _ _ c.if-kind-eq-EOF.false (take_done _ _ _ (told _ _ _ c.nth-p.ensures) c.do_bump.ensures))
