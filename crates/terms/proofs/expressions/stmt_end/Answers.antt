-- Written by tools/proofs from the code, the definitions and hints.py: docs/PRODUCTIONS.md says how to change it.
-- `expressions::stmt_end` meets its contract. Assumes nothing.
use Rattle.runtime.proofs.Laws.{then, step, see, ends}
use borrow.Author.Tests.{ne_eqb, eq-eqb}
use Rattle.grammar.specs.Expressions as E
use Rattle.terms.proofs.expressions.stmt_end.Goals as goal

pub returns-then-cm-eq-ASSIGNMENT_STMT : goal.returns-then-cm-eq-ASSIGNMENT_STMT
unfolding E.stmt_end
returns-then-cm-eq-ASSIGNMENT_STMT c =
    rw (eq-eqb _ _ c.if-cm-eq-ASSIGNMENT_STMT.true)
    (ends _ _ _)

pub returns-then-at : goal.returns-then-at
unfolding E.stmt_end
returns-then-at c =
    rw (ne_eqb _ _ c.if-cm-eq-ASSIGNMENT_STMT.false)
    (see _ _ _ _ c.at.ensures
    (rw c.if-at.true
    (ends _ _ _)))

pub returns : goal.returns
unfolding E.stmt_end
returns c =
    rw (ne_eqb _ _ c.if-cm-eq-ASSIGNMENT_STMT.false)
    (see _ _ _ _ c.at.ensures
    (rw c.if-at.false
    (step _ _ _ _ c.precede-p.ensures
    (then _ _ _ _ c.eat-p.ensures
    (step _ _ _ _ c.no_semicolon-p.ensures
    (step _ _ _ _ c.complete-p.ensures
    (ends _ _ _)))))))
