-- Written by tools/proofs from the code, the definitions and hints.py: docs/PRODUCTIONS.md says how to change it.
-- `params::list_next` meets its contract. Assumes nothing.
use Rattle.runtime.proofs.Laws.{then, step, peek, see, ends}
use Rattle.grammar.proofs.Laws.{list-end}
use Rattle.grammar.specs.Params as P
use Rattle.statements.proofs.params.list_next.Goals as goal

pub returns-then-at_list_end : goal.returns-then-at_list_end
unfolding P.list_next
returns-then-at_list_end c =
    list-end _ _ _ _ c.at_list_end.ensures
    (rw c.if-at_list_end.true
    (ends _ _ _))

pub returns-then-at : goal.returns-then-at
unfolding P.list_next
returns-then-at c =
    list-end _ _ _ _ c.at_list_end.ensures
    (rw c.if-at_list_end.false
    (see _ _ _ _ c.at.ensures
    (rw c.if-at.true
    (then _ _ _ _ c.bump-p.ensures
    (ends _ _ _)))))

pub returns-then-begins : goal.returns-then-begins
unfolding P.list_next
returns-then-begins c =
    list-end _ _ _ _ c.at_list_end.ensures
    (rw c.if-at_list_end.false
    (see _ _ _ _ c.at.ensures
    (rw c.if-at.false
    (peek _ _ _ _ _ c.at_ts-p.ensures
    (rw c.if-begins.true
    (step _ _ _ _ c.error-p.ensures
    (ends _ _ _)))))))

pub returns : goal.returns
unfolding P.list_next
returns c =
    list-end _ _ _ _ c.at_list_end.ensures
    (rw c.if-at_list_end.false
    (see _ _ _ _ c.at.ensures
    (rw c.if-at.false
    (peek _ _ _ _ _ c.at_ts-p.ensures
    (rw c.if-begins.false
    (ends _ _ _))))))
