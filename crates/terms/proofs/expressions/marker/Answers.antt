-- Written by tools/proofs from the code, the definitions and hints.py: docs/PRODUCTIONS.md says how to change it.
-- `expressions::marker` meets its contract. Assumes nothing.
use Rattle.runtime.proofs.Laws.{any, all, ends}
use Rattle.grammar.specs.Expressions as E
use Rattle.terms.proofs.expressions.marker.Goals as goal

pub returns-in-Some : goal.returns-in-Some
unfolding E.marker
returns-in-Some c =
    all _ _ (λ e. rw c.in-Some.is
    (ends _ _ _))

pub returns-in-None : goal.returns-in-None
unfolding E.marker
returns-in-None c =
    all _ _ (λ e. rw c.in-None.is
    (any _ _ _ c.start.ensures))
