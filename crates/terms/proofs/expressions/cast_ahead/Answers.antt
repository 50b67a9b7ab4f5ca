-- Written by tools/proofs from the code, the definitions and hints.py: docs/PRODUCTIONS.md says how to change it.
-- `expressions::cast_ahead` meets its contract. Assumes nothing.
use Rattle.runtime.proofs.Laws.{peek, only, ends}
use borrow.Author.Tests.{ne_eqb, eq-eqb}
use mathlib.Core.Path.{sym, ◌∙◌}
use Rattle.grammar.specs.Expressions as E
use Rattle.terms.proofs.expressions.cast_ahead.Goals as goal

pub returns-then-next-eq-L_PAREN : goal.returns-then-next-eq-L_PAREN
unfolding E.cast_ahead
returns-then-next-eq-L_PAREN c =
    only _ _ _ (λ room. peek _ _ _ _ _ c.current-p.ensures
    (rw (sym c.is_classical_type.ensures ∙ c.if-is_classical_type.true)
    (peek _ _ _ _ _ c.nth-p.ensures
    (rw (eq-eqb _ _ c.if-next-eq-L_PAREN.true)
    (ends _ _ _)))))

pub returns-then-next1-eq-L_BRACK : goal.returns-then-next1-eq-L_BRACK
unfolding E.cast_ahead
returns-then-next1-eq-L_BRACK c =
    only _ _ _ (λ room. peek _ _ _ _ _ c.current-p.ensures
    (rw (sym c.is_classical_type.ensures ∙ c.if-is_classical_type.true)
    (peek _ _ _ _ _ c.nth-p.ensures
    (rw (ne_eqb _ _ c.if-next-eq-L_PAREN.false)
    (peek _ _ _ _ _ c.nth-p-then-is_classical_type.ensures
    (rw (eq-eqb _ _ c.if-next1-eq-L_BRACK.true)
    (ends _ _ _)))))))

pub returns-then-is_classical_type : goal.returns-then-is_classical_type
unfolding E.cast_ahead
returns-then-is_classical_type c =
    only _ _ _ (λ room. peek _ _ _ _ _ c.current-p.ensures
    (rw (sym c.is_classical_type.ensures ∙ c.if-is_classical_type.true)
    (peek _ _ _ _ _ c.nth-p.ensures
    (rw (ne_eqb _ _ c.if-next-eq-L_PAREN.false)
    (peek _ _ _ _ _ c.nth-p-then-is_classical_type.ensures
    (rw (ne_eqb _ _ c.if-next1-eq-L_BRACK.false)
    (ends _ _ _)))))))

pub returns : goal.returns
unfolding E.cast_ahead
returns c =
    only _ _ _ (λ room. peek _ _ _ _ _ c.current-p.ensures
    (rw (sym c.is_classical_type.ensures ∙ c.if-is_classical_type.false)
    (ends _ _ _)))
