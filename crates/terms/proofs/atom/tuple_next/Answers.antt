-- Written by tools/proofs from the code, the definitions and hints.py: docs/PRODUCTIONS.md says how to change it.
-- `atom::tuple_next` meets its contract. Assumes nothing.
use Rattle.runtime.proofs.Laws.{then, see, ends}
use Rattle.grammar.specs.Atom as A
use Rattle.terms.proofs.atom.tuple_next.Goals as goal

pub returns-then-at : goal.returns-then-at
unfolding A.tuple_next
returns-then-at c =
    see _ _ _ _ c.at.ensures
    (rw c.if-at.true
    (ends _ _ _))

pub returns : goal.returns
unfolding A.tuple_next
returns c =
    see _ _ _ _ c.at.ensures
    (rw c.if-at.false
    (then _ _ _ _ c.expect-p.ensures
    (ends _ _ _)))
