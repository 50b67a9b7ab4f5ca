-- Written by tools/proofs from the code, the definitions and hints.py: docs/PRODUCTIONS.md says how to change it.
-- `expressions::no_semicolon` meets its contract. Assumes nothing.
use Rattle.runtime.proofs.Laws.{any, all, ends}
use Rattle.grammar.specs.Expressions as E
use Rattle.terms.proofs.expressions.no_semicolon.Goals as goal

pub returns-then-block : goal.returns-then-block
unfolding E.no_semicolon
returns-then-block c =
    all _ _ (λ e. rw c.if-block.true
    (ends _ _ _))

pub returns-then-semi : goal.returns-then-semi
unfolding E.no_semicolon
returns-then-semi c =
    all _ _ (λ e. rw c.if-block.false
    (rw c.if-semi.true
    (ends _ _ _)))

pub returns : goal.returns
unfolding E.no_semicolon
returns c =
    all _ _ (λ e. rw c.if-block.false
    (rw c.if-semi.false
    (any _ _ _ c.error.ensures)))
