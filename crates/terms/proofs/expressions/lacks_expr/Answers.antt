-- Written by tools/proofs from the code, the definitions and hints.py: docs/PRODUCTIONS.md says how to change it.
-- `expressions::lacks_expr` meets its contract. Assumes nothing.
use Rattle.runtime.proofs.Laws.{peek, only, ends}
use mathlib.Core.Path.{sym, ◌∙◌}
use Rattle.grammar.specs.Expressions as E
use Rattle.terms.proofs.expressions.lacks_expr.Goals as goal

pub returns-then-begins : goal.returns-then-begins
unfolding E.lacks_expr
returns-then-begins c =
    only _ _ _ (λ room. peek _ _ _ _ _ c.at_ts-p.ensures
    (rw c.if-begins.true
    (ends _ _ _)))

pub returns-then-has : goal.returns-then-has
unfolding E.lacks_expr
returns-then-has c =
    only _ _ _ (λ room. peek _ _ _ _ _ c.at_ts-p.ensures
    (rw c.if-begins.false
    (peek _ _ _ _ _ c.current-p.ensures
    (rw (sym c.is_classical_type.ensures ∙ c.if-is_classical_type.true)
    (peek _ _ _ _ _ c.nth-p.ensures
    (rw (sym c.has.ensures ∙ c.if-has.true)
    (ends _ _ _)))))))

pub returns-then-is_classical_type : goal.returns-then-is_classical_type
unfolding E.lacks_expr
returns-then-is_classical_type c =
    only _ _ _ (λ room. peek _ _ _ _ _ c.at_ts-p.ensures
    (rw c.if-begins.false
    (peek _ _ _ _ _ c.current-p.ensures
    (rw (sym c.is_classical_type.ensures ∙ c.if-is_classical_type.true)
    (peek _ _ _ _ _ c.nth-p.ensures
    (rw (sym c.has.ensures ∙ c.if-has.false)
    (ends _ _ _)))))))

pub returns : goal.returns
unfolding E.lacks_expr
returns c =
    only _ _ _ (λ room. peek _ _ _ _ _ c.at_ts-p.ensures
    (rw c.if-begins.false
    (peek _ _ _ _ _ c.current-p.ensures
    (rw (sym c.is_classical_type.ensures ∙ c.if-is_classical_type.false)
    (ends _ _ _)))))
