-- Written by tools/proofs from the code, the definitions and hints.py: docs/PRODUCTIONS.md says how to change it.
-- `params::list_empty` meets its contract. Assumes nothing.
use Rattle.runtime.proofs.Laws.{any, all, ends}
use borrow.Author.Tests.{lt-ltb, le-ltb}
use Rattle.grammar.specs.Params as P
use Rattle.statements.proofs.params.list_empty.Goals as goal

pub returns-then-n-lt1 : goal.returns-then-n-lt1
unfolding P.list_empty
returns-then-n-lt1 c =
    all _ _ (λ e. rw c.if-one.true
    (rw (lt-ltb _ _ c.if-n-lt1.true)
    (any _ _ _ c.error.ensures)))

pub returns-else-n-lt1 : goal.returns-else-n-lt1
unfolding P.list_empty
returns-else-n-lt1 c =
    all _ _ (λ e. rw c.if-one.true
    (rw (le-ltb _ _ c.if-n-lt1.false)
    (ends _ _ _)))

pub returns-else-one : goal.returns-else-one
unfolding P.list_empty
returns-else-one c =
    all _ _ (λ e. rw c.if-one.false
    (ends _ _ _))
