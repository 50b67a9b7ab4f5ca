-- Written by tools/proofs from the code, the definitions and hints.py: docs/PRODUCTIONS.md says how to change it.
-- `atom::array_next` meets its contract. Assumes nothing.
use Rattle.runtime.proofs.Laws.{then, see, ends}
use Rattle.grammar.specs.Atom as A
use Rattle.terms.proofs.atom.array_next.Goals as goal

pub returns-then-yes : goal.returns-then-yes
unfolding A.array_next
returns-then-yes c =
    then _ _ _ _ c.first_semicolon-p.ensures
    (rw c.if-yes.true
    (ends _ _ _))

pub returns-then-semi : goal.returns-then-semi
unfolding A.array_next
returns-then-semi c =
    then _ _ _ _ c.first_semicolon-p.ensures
    (rw c.if-yes.false
    (rw c.if-semi.true
    (ends _ _ _)))

pub returns-then-at : goal.returns-then-at
unfolding A.array_next
returns-then-at c =
    then _ _ _ _ c.first_semicolon-p.ensures
    (rw c.if-yes.false
    (rw c.if-semi.false
    (see _ _ _ _ c.at.ensures
    (rw c.if-at.true
    (ends _ _ _)))))

pub returns-then-met : goal.returns-then-met
unfolding A.array_next
returns-then-met c =
    then _ _ _ _ c.first_semicolon-p.ensures
    (rw c.if-yes.false
    (rw c.if-semi.false
    (see _ _ _ _ c.at.ensures
    (rw c.if-at.false
    (then _ _ _ _ c.expect-p.ensures
    (rw c.if-met.true
    (ends _ _ _)))))))

pub returns : goal.returns
unfolding A.array_next
returns c =
    then _ _ _ _ c.first_semicolon-p.ensures
    (rw c.if-yes.false
    (rw c.if-semi.false
    (see _ _ _ _ c.at.ensures
    (rw c.if-at.false
    (then _ _ _ _ c.expect-p.ensures
    (rw c.if-met.false
    (ends _ _ _)))))))
