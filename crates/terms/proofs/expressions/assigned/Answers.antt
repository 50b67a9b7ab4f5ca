-- Written by tools/proofs from the code, the definitions and hints.py: docs/PRODUCTIONS.md says how to change it.
-- `expressions::assigned` meets its contract. Assumes nothing.
use Rattle.runtime.proofs.Laws.{then, ends}
use Rattle.grammar.specs.Expressions as E
use Rattle.terms.proofs.expressions.assigned.Goals as goal

pub returns-then-prefer : goal.returns-then-prefer
unfolding E.assigned
returns-then-prefer c =
    rw c.if-prefer.true
    (then _ _ _ _ c.expect-p.ensures
    (ends _ _ _))

pub returns : goal.returns
unfolding E.assigned
returns c =
    rw c.if-prefer.false
    (ends _ _ _)
