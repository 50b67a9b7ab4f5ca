-- Written by tools/proofs from the code, the definitions and hints.py: docs/PRODUCTIONS.md says how to change it.
-- `items::skip_to_semicolon` meets its contract. Assumes nothing.
use Rattle.runtime.proofs.Laws.{see, ends}
use Rattle.grammar.specs.Items as I
use Rattle.statements.proofs.items.skip_to_semicolon.Goals as goal

pub returns-then-number : goal.returns-then-number
unfolding I.skip_to_semicolon
returns-then-number c =
    rw c.if-number.true
    (ends _ _ _)

pub returns-then-at : goal.returns-then-at
unfolding I.skip_to_semicolon
returns-then-at c =
    rw c.if-number.false
    (see _ _ _ _ c.at.ensures
    (rw c.if-at.true
    (ends _ _ _)))

pub returns : goal.returns
unfolding I.skip_to_semicolon
returns c =
    rw c.if-number.false
    (see _ _ _ _ c.at.ensures
    (rw c.if-at.false
    c.bump_any.ensures))
