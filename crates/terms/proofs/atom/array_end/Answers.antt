-- Written by tools/proofs from the code, the definitions and hints.py: docs/PRODUCTIONS.md says how to change it.
-- `atom::array_end` meets its contract. Assumes nothing.
use Rattle.runtime.proofs.Laws.{then, any}
use Rattle.grammar.specs.Atom as A
use Rattle.terms.proofs.atom.array_end.Goals as goal

pub returns : goal.returns
unfolding A.array_end
returns c =
    then _ _ _ _ c.expect-p.ensures
    (any _ _ _ c.complete.ensures)
