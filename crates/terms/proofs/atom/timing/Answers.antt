-- Written by tools/proofs from the code, the definitions and hints.py: docs/PRODUCTIONS.md says how to change it.
-- `atom::timing` meets its contract. Assumes nothing.
use Rattle.runtime.proofs.Laws.{peek, any, ends}
use Rattle.grammar.specs.Atom as A
use Rattle.terms.proofs.atom.timing.Goals as goal

pub returns-then-begins : goal.returns-then-begins
unfolding A.timing
returns-then-begins c =
    peek _ _ _ _ _ c.at_ts-p.ensures
    (rw c.if-begins.true
    (ends _ _ _))

pub returns : goal.returns
unfolding A.timing
returns c =
    peek _ _ _ _ _ c.at_ts-p.ensures
    (rw c.if-begins.false
    (any _ _ _ c.error.ensures))
