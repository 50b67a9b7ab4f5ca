-- Written by tools/proofs from the code, the definitions and hints.py: docs/PRODUCTIONS.md says how to change it.
-- `expressions::close_op` meets its contract. Assumes nothing.
use Rattle.runtime.proofs.Laws.{then, step, any}
use borrow.Author.Tests.{ne_eqb, eq-eqb}
use mathlib.Core.Path.{sym, ◌∙◌}
use Rattle.grammar.specs.Expressions as E
use Rattle.terms.proofs.expressions.close_op.Goals as goal

pub returns-then-has : goal.returns-then-has
unfolding E.close_op
returns-then-has c =
    rw (eq-eqb _ _ c.if-op-eq-EQ.true)
    (step _ _ _ _ c.no_assignment-p.ensures
    (rw (sym c.has.ensures ∙ c.if-has.true)
    (then _ _ _ _ c.assigned-p.ensures
    (any _ _ _ c.complete.ensures))))

pub returns-then-op-eq-EQ : goal.returns-then-op-eq-EQ
unfolding E.close_op
returns-then-op-eq-EQ c =
    rw (eq-eqb _ _ c.if-op-eq-EQ.true)
    (step _ _ _ _ c.no_assignment-p.ensures
    (rw (sym c.has.ensures ∙ c.if-has.false)
    (step _ _ _ _ c.error-p.ensures
    (any _ _ _ c.complete-then-op-eq-EQ.ensures))))

pub returns : goal.returns
unfolding E.close_op
returns c =
    rw (ne_eqb _ _ c.if-op-eq-EQ.false)
    (any _ _ _ c.complete-2.ensures)
