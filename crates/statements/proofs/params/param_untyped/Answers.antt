-- Written by tools/proofs from the code, the definitions and hints.py: docs/PRODUCTIONS.md says how to change it.
-- `params::param_untyped` meets its contract. Assumes nothing.
use Rattle.runtime.proofs.Laws.{then, step, see, ends}
use Rattle.grammar.specs.Params as P
use Rattle.statements.proofs.params.param_untyped.Goals as goal

pub returns-then-at : goal.returns-then-at
unfolding P.param_untyped
returns-then-at c =
    see _ _ _ _ c.at.ensures
    (rw c.if-at.true
    (then _ _ _ _ c.bump-p.ensures
    (step _ _ _ _ c.complete-p.ensures
    (ends _ _ _))))

pub returns : goal.returns
unfolding P.param_untyped
returns c =
    see _ _ _ _ c.at.ensures
    (rw c.if-at.false
    (step _ _ _ _ c.error-p.ensures
    (step _ _ _ _ c.abandon-p.ensures
    (ends _ _ _))))
