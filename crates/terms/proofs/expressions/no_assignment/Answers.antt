-- Written by tools/proofs from the code, the definitions and hints.py: docs/PRODUCTIONS.md says how to change it.
-- `expressions::no_assignment` meets its contract. Assumes nothing.
use Rattle.runtime.proofs.Laws.{any, all, ends}
use Rattle.grammar.specs.Expressions as E
use Rattle.terms.proofs.expressions.no_assignment.Goals as goal

pub returns-then-prefer : goal.returns-then-prefer
unfolding E.no_assignment
returns-then-prefer c =
    all _ _ (λ e. rw c.if-prefer.true
    (ends _ _ _))

pub returns : goal.returns
unfolding E.no_assignment
returns c =
    all _ _ (λ e. rw c.if-prefer.false
    (any _ _ _ c.error.ensures))
