-- Written by tools/proofs from the code, the definitions and hints.py: docs/PRODUCTIONS.md says how to change it.
-- `atom::inv_modifier` meets its contract. Assumes nothing.
use Rattle.runtime.proofs.Laws.{then, step, see, ends}
use Rattle.grammar.proofs.Laws.{assoc, cond-bind, done-bind}
use Rattle.grammar.specs.Atom as A
use Rattle.terms.proofs.atom.inv_modifier.Goals as goal

pub returns-then-at : goal.returns-then-at
unfolding A.inv_modifier
returns-then-at c =
    simp (assoc, cond-bind, done-bind)
    (step _ _ _ _ c.start-p.ensures
    (then _ _ _ _ c.bump-p.ensures
    (see _ _ _ _ c.at.ensures
    (rw c.if-at.true
    (then _ _ _ _ c.bump-p-then-at.ensures
    (step _ _ _ _ c.complete-p.ensures
    (ends _ _ _)))))))

pub returns-then-at-2 : goal.returns-then-at-2
unfolding A.inv_modifier
returns-then-at-2 c =
    simp (assoc, cond-bind, done-bind)
    (step _ _ _ _ c.start-p.ensures
    (then _ _ _ _ c.bump-p.ensures
    (see _ _ _ _ c.at.ensures
    (rw c.if-at.false
    (see _ _ _ _ c.at-2.ensures
    (rw c.if-at-2.true
    (step _ _ _ _ c.error-p.ensures
    (step _ _ _ _ c.complete-p-then-at-2.ensures
    (ends _ _ _)))))))))

pub returns : goal.returns
unfolding A.inv_modifier
returns c =
    simp (assoc, cond-bind, done-bind)
    (step _ _ _ _ c.start-p.ensures
    (then _ _ _ _ c.bump-p.ensures
    (see _ _ _ _ c.at.ensures
    (rw c.if-at.false
    (see _ _ _ _ c.at-2.ensures
    (rw c.if-at-2.false
    (step _ _ _ _ c.error-p-2.ensures
    (step _ _ _ _ c.complete-p-2.ensures
    (ends _ _ _)))))))))
