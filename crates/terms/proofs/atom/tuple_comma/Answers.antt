-- Written by tools/proofs from the code, the definitions and hints.py: docs/PRODUCTIONS.md says how to change it.
-- `atom::tuple_comma` meets its contract. Assumes nothing.
use Rattle.runtime.proofs.Laws.{then, step, ends}
use Rattle.grammar.proofs.Laws.{assoc, cond-bind, done-bind}
use Rattle.grammar.specs.Atom as A
use Rattle.terms.proofs.atom.tuple_comma.Goals as goal

pub returns-then-eaten : goal.returns-then-eaten
unfolding A.tuple_comma
returns-then-eaten c =
    simp (assoc, cond-bind, done-bind)
    (then _ _ _ _ c.eat-p.ensures
    (rw c.if-eaten.true
    (step _ _ _ _ c.error-p.ensures
    (ends _ _ _))))

pub returns : goal.returns
unfolding A.tuple_comma
returns c =
    simp (assoc, cond-bind, done-bind)
    (then _ _ _ _ c.eat-p.ensures
    (rw c.if-eaten.false
    (ends _ _ _)))
