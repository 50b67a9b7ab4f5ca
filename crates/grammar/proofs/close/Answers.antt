-- Written by tools/proofs from the code, the definitions and hints.py: docs/PRODUCTIONS.md says how to change it.
-- `close` meets its contract. Assumes nothing.
use Rattle.runtime.proofs.Laws.{then, step, ends}
use Rattle.grammar.proofs.close.Goals as goal

pub returns : goal.returns
returns c =
    then _ _ _ _ c.expect-p.ensures
    (step _ _ _ _ c.complete-p.ensures
    (ends _ _ _))
