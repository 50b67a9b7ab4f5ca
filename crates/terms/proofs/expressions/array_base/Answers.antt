-- Written by tools/proofs from the code, the definitions and hints.py: docs/PRODUCTIONS.md says how to change it.
-- `expressions::array_base` meets its contract. Assumes nothing.
use Rattle.runtime.proofs.Laws.{peek, any, ends}
use mathlib.Core.Path.{sym, ◌∙◌}
use Rattle.grammar.specs.Expressions as E
use Rattle.terms.proofs.expressions.array_base.Goals as goal

pub returns-then-has : goal.returns-then-has
unfolding E.array_base
returns-then-has c =
    peek _ _ _ _ _ c.current-p.ensures
    (rw (sym c.has.ensures ∙ c.if-has.true)
    (ends _ _ _))

pub returns : goal.returns
unfolding E.array_base
returns c =
    peek _ _ _ _ _ c.current-p.ensures
    (rw (sym c.has.ensures ∙ c.if-has.false)
    (any _ _ _ c.error.ensures))
