-- Written by tools/proofs from the code, the definitions and hints.py: docs/PRODUCTIONS.md says how to change it.
-- `fail_unless_at` meets its contract. Assumes nothing.
use Rattle.runtime.proofs.Laws.{see, any, ends}
use Rattle.grammar.specs.Grammar as G
use Rattle.grammar.proofs.fail_unless_at.Goals as goal

pub returns-then-at : goal.returns-then-at
unfolding G.fail_unless_at
returns-then-at c =
    see _ _ _ _ c.at.ensures
    (rw c.if-at.true
    (ends _ _ _))

pub returns : goal.returns
unfolding G.fail_unless_at
returns c =
    see _ _ _ _ c.at.ensures
    (rw c.if-at.false
    (any _ _ _ c.error.ensures))
