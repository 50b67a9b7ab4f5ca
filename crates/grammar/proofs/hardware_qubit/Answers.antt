-- Written by tools/proofs from the code, the definitions and hints.py: docs/PRODUCTIONS.md says how to change it.
-- `hardware_qubit` meets its contract. Assumes nothing.
use Rattle.runtime.proofs.Laws.{then, step, any}
use Rattle.grammar.specs.Atom as A
use Rattle.grammar.proofs.hardware_qubit.Goals as goal

pub returns : goal.returns
unfolding A.hardware_qubit
returns c =
    step _ _ _ _ c.start-p.ensures
    (then _ _ _ _ c.bump-p.ensures
    (any _ _ _ c.complete.ensures))
