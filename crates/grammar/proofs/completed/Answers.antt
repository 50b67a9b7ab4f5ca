-- Written by tools/proofs from the code, the definitions and hints.py: docs/PRODUCTIONS.md says how to change it.
-- `completed` meets its contract. Assumes nothing.
use Rattle.runtime.proofs.Laws.{step, all, ends}
use Rattle.grammar.proofs.completed.Goals as goal

pub returns : goal.returns
returns c =
    all _ _ (λ e. step _ _ _ _ c.complete-p.ensures
    (ends _ _ _))
