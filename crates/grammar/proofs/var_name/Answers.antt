-- Written by tools/proofs from the code, the definitions and hints.py: docs/PRODUCTIONS.md says how to change it.
-- `var_name` meets its contract. Assumes nothing.
use Rattle.runtime.proofs.Laws.{then, step, see, ends}
use Rattle.grammar.proofs.Laws.{assoc, cond-bind, done-bind}
use Rattle.grammar.specs.Expressions as E
use Rattle.grammar.proofs.var_name.Goals as goal

pub returns-then-at : goal.returns-then-at
unfolding E.var_name
returns-then-at c =
    simp (assoc, cond-bind, done-bind)
    (step _ _ _ _ c.start-p.ensures
    (see _ _ _ _ c.at.ensures
    (rw c.if-at.true
    (then _ _ _ _ c.bump_any-p.ensures
    (step _ _ _ _ c.complete-p.ensures
    (ends _ _ _))))))

pub returns : goal.returns
unfolding E.var_name
returns c =
    simp (assoc, cond-bind, done-bind)
    (step _ _ _ _ c.start-p.ensures
    (see _ _ _ _ c.at.ensures
    (rw c.if-at.false
    (step _ _ _ _ c.error-p.ensures
    (step _ _ _ _ c.complete-p-2.ensures
    (ends _ _ _))))))
