-- Written by tools/proofs from the code, the definitions and hints.py: docs/PRODUCTIONS.md says how to change it.
-- `items::qubit_end` meets its contract. Assumes nothing.
use Rattle.runtime.proofs.Laws.{then, step, see, ends}
use Rattle.grammar.proofs.Laws.{assoc, cond-bind, done-bind}
use Rattle.grammar.specs.Items as I
use Rattle.statements.proofs.items.qubit_end.Goals as goal

pub returns-then-at : goal.returns-then-at
unfolding I.qubit_end
returns-then-at c =
    simp (assoc, cond-bind, done-bind)
    (see _ _ _ _ c.at.ensures
    (rw c.if-at.true
    (then _ _ _ _ c.hardware_qubit-p.ensures
    (then _ _ _ _ c.expect-p.ensures
    (step _ _ _ _ c.complete-p.ensures
    (ends _ _ _))))))

pub returns : goal.returns
unfolding I.qubit_end
returns c =
    simp (assoc, cond-bind, done-bind)
    (see _ _ _ _ c.at.ensures
    (rw c.if-at.false
    (then _ _ _ _ c.var_name-p.ensures
    (then _ _ _ _ c.expect-p-2.ensures
    (step _ _ _ _ c.complete-p-2.ensures
    (ends _ _ _))))))
