-- Written by tools/proofs from the code, the definitions and hints.py: docs/PRODUCTIONS.md says how to change it.
-- `expressions::stmt_lacks_expr` meets its contract. Assumes nothing.
use Rattle.runtime.proofs.Laws.{peek, only, ends}
use Rattle.grammar.specs.Expressions as E
use Rattle.terms.proofs.expressions.stmt_lacks_expr.Goals as goal

pub returns-then-cast : goal.returns-then-cast
unfolding E.stmt_lacks_expr
returns-then-cast c =
    only _ _ _ (λ room. peek _ _ _ _ _ c.cast_ahead-p.ensures
    (rw c.if-cast.true
    (ends _ _ _)))

pub returns-then-begins : goal.returns-then-begins
unfolding E.stmt_lacks_expr
returns-then-begins c =
    only _ _ _ (λ room. peek _ _ _ _ _ c.cast_ahead-p.ensures
    (rw c.if-cast.false
    (peek _ _ _ _ _ c.at_ts-p.ensures
    (rw c.if-begins.true
    (ends _ _ _)))))

pub returns : goal.returns
unfolding E.stmt_lacks_expr
returns c =
    only _ _ _ (λ room. peek _ _ _ _ _ c.cast_ahead-p.ensures
    (rw c.if-cast.false
    (peek _ _ _ _ _ c.at_ts-p.ensures
    (rw c.if-begins.false
    (ends _ _ _)))))
