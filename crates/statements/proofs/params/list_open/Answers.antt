-- Written by tools/proofs from the code, the definitions and hints.py: docs/PRODUCTIONS.md says how to change it.
-- `params::list_open` meets its contract. Assumes nothing.
use Rattle.runtime.proofs.Laws.{then, step, ends}
use Rattle.grammar.proofs.Laws.{assoc, cond-bind, done-bind}
use Rattle.grammar.specs.Params as P
use Rattle.statements.proofs.params.list_open.Goals as goal

pub returns-then-shape : goal.returns-then-shape
unfolding P.list_open
returns-then-shape c =
    simp (assoc, cond-bind, done-bind)
    (step _ _ _ _ c.start-p.ensures
    (rw c.if-shape.true
    (then _ _ _ _ c.bump-p.ensures
    (ends _ _ _))))

pub returns : goal.returns
unfolding P.list_open
returns c =
    simp (assoc, cond-bind, done-bind)
    (step _ _ _ _ c.start-p.ensures
    (rw c.if-shape.false
    (ends _ _ _)))
