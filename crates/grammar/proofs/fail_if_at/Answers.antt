-- Written by tools/proofs from the code, the definitions and hints.py: docs/PRODUCTIONS.md says how to change it.
-- `fail_if_at` meets its contract. Assumes nothing.
use Rattle.runtime.proofs.Laws.{see, any, ends}
use Rattle.grammar.specs.Grammar as G
use Rattle.grammar.proofs.fail_if_at.Goals as goal

pub returns-then-at : goal.returns-then-at
unfolding G.fail_if_at
returns-then-at c =
    see _ _ _ _ c.at.ensures
    (rw c.if-at.true
    (any _ _ _ c.error.ensures))

pub returns : goal.returns
unfolding G.fail_if_at
returns c =
    see _ _ _ _ c.at.ensures
    (rw c.if-at.false
    (ends _ _ _))
