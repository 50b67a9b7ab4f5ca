-- Written by tools/proofs from the code, the definitions and hints.py: docs/PRODUCTIONS.md says how to change it.
-- `expressions::literal_designator` meets its contract. Assumes nothing.
use Rattle.runtime.proofs.Laws.{peek, any, ends}
use borrow.Author.Tests.{ne_eqb, eq-eqb}
use mathlib.Core.Path.{sym, ◌∙◌}
use Rattle.grammar.specs.Expressions as E
use Rattle.terms.proofs.expressions.literal_designator.Goals as goal

pub returns-then-next-eq-R_BRACK : goal.returns-then-next-eq-R_BRACK
unfolding E.literal_designator
returns-then-next-eq-R_BRACK c =
    peek _ _ _ _ _ c.current-p.ensures
    (rw (sym c.has.ensures ∙ c.if-has.true)
    (peek _ _ _ _ _ c.nth-p.ensures
    (rw (eq-eqb _ _ c.if-next-eq-R_BRACK.true)
    (any _ _ _ c.error.ensures))))

pub returns-then-has : goal.returns-then-has
unfolding E.literal_designator
returns-then-has c =
    peek _ _ _ _ _ c.current-p.ensures
    (rw (sym c.has.ensures ∙ c.if-has.true)
    (peek _ _ _ _ _ c.nth-p.ensures
    (rw (ne_eqb _ _ c.if-next-eq-R_BRACK.false)
    (ends _ _ _))))

pub returns : goal.returns
unfolding E.literal_designator
returns c =
    peek _ _ _ _ _ c.current-p.ensures
    (rw (sym c.has.ensures ∙ c.if-has.false)
    (ends _ _ _))
