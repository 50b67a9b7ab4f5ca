-- Written by tools/proofs from the code, the definitions and hints.py: docs/PRODUCTIONS.md says how to change it.
-- `atom::tuple_end` meets its contract. Assumes nothing.
use Rattle.runtime.proofs.Laws.{then, any}
use mathlib.Core.Path.{sym}
use Rattle.grammar.specs.Atom as A
use Rattle.terms.proofs.atom.tuple_end.Goals as goal

pub returns : goal.returns
unfolding A.tuple_end
returns c =
    then _ _ _ _ c.expect-p.ensures
    (rw (sym c.tuple_kind.ensures)
    (any _ _ _ c.complete.ensures))
