-- Written by tools/proofs from the code, the definitions and hints.py: docs/PRODUCTIONS.md says how to change it.
-- `atom::tuple_kind` meets its contract. Assumes nothing.
use mathlib.Core.Path.{refl}
use Rattle.grammar.specs.Atom as A
use Rattle.terms.proofs.atom.tuple_kind.Goals as goal

pub returns-then-comma : goal.returns-then-comma
unfolding A.tuple_kind
returns-then-comma c =
    rw c.if-saw.true
    (rw c.if-comma.true
    (refl))

pub returns-then-saw : goal.returns-then-saw
unfolding A.tuple_kind
returns-then-saw c =
    rw c.if-saw.true
    (rw c.if-comma.false
    (refl))

pub returns : goal.returns
unfolding A.tuple_kind
returns c =
    rw c.if-saw.false
    (refl)
