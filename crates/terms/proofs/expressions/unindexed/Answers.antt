-- Written by tools/proofs from the code, the definitions and hints.py: docs/PRODUCTIONS.md says how to change it.
-- `expressions::unindexed` meets its contract. Assumes nothing.
use Rattle.runtime.proofs.Laws.{any, all, ends}
use mathlib.Core.Path.{sym, ◌∙◌}
use Rattle.grammar.specs.Expressions as E
use Rattle.terms.proofs.expressions.unindexed.Goals as goal

pub returns-then-has : goal.returns-then-has
unfolding E.unindexed
returns-then-has c =
    all _ _ (λ e. rw (sym c.has.ensures ∙ c.if-has.true)
    (any _ _ _ c.error.ensures))

pub returns : goal.returns
unfolding E.unindexed
returns c =
    all _ _ (λ e. rw (sym c.has.ensures ∙ c.if-has.false)
    (ends _ _ _))
