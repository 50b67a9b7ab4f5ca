-- Written by tools/proofs from the code, the definitions and hints.py: docs/PRODUCTIONS.md says how to change it.
-- `separator` meets its contract. Assumes nothing.
use Rattle.runtime.proofs.Laws.{then, peek, see, ends}
use Rattle.grammar.specs.Grammar as G
use Rattle.grammar.proofs.separator.Goals as goal

pub returns-then-at : goal.returns-then-at
unfolding G.separator
returns-then-at c =
    see _ _ _ _ c.at.ensures
    (rw c.if-at.true
    (then _ _ _ _ c.bump-p.ensures
    (ends _ _ _)))

pub returns-then-begins : goal.returns-then-begins
unfolding G.separator
returns-then-begins c =
    see _ _ _ _ c.at.ensures
    (rw c.if-at.false
    (peek _ _ _ _ _ c.at_ts-p.ensures
    (rw c.if-begins.true
    (then _ _ _ _ c.error_expected-p.ensures
    (ends _ _ _)))))

pub returns : goal.returns
unfolding G.separator
returns c =
    see _ _ _ _ c.at.ensures
    (rw c.if-at.false
    (peek _ _ _ _ _ c.at_ts-p.ensures
    (rw c.if-begins.false
    (ends _ _ _))))
