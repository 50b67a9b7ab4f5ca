-- Written by tools/proofs from the code, the definitions and hints.py: docs/PRODUCTIONS.md says how to change it.
-- `atom::first_semicolon` meets its contract. Assumes nothing.
use Rattle.runtime.proofs.Laws.{ends}
use Rattle.grammar.specs.Atom as A
use Rattle.terms.proofs.atom.first_semicolon.Goals as goal

pub returns-then-first : goal.returns-then-first
unfolding A.first_semicolon
returns-then-first c =
    rw c.if-first.true
    c.eat.ensures

pub returns : goal.returns
unfolding A.first_semicolon
returns c =
    rw c.if-first.false
    (ends _ _ _)
