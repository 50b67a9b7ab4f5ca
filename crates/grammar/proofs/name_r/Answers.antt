-- Written by tools/proofs from the code, the definitions and hints.py: docs/PRODUCTIONS.md says how to change it.
-- `name_r` meets its contract. Assumes nothing.
use Rattle.runtime.proofs.Laws.{then, step, see, ends}
use Rattle.grammar.specs.Grammar as G
use Rattle.grammar.proofs.name_r.Goals as goal

pub returns-then-at : goal.returns-then-at
unfolding G.name_r
returns-then-at c =
    see _ _ _ _ c.at.ensures
    (rw c.if-at.true
    (step _ _ _ _ c.start-p.ensures
    (then _ _ _ _ c.bump-p.ensures
    (step _ _ _ _ c.complete-p.ensures
    (ends _ _ _)))))

pub returns-then-at-2 : goal.returns-then-at-2
unfolding G.name_r
returns-then-at-2 c =
    see _ _ _ _ c.at.ensures
    (rw c.if-at.false
    (see _ _ _ _ c.at-2.ensures
    (rw c.if-at-2.true
    (step _ _ _ _ c.start-p-then-at-2.ensures
    (then _ _ _ _ c.bump-p-then-at-2.ensures
    (step _ _ _ _ c.complete-p-then-at-2.ensures
    (ends _ _ _)))))))

pub returns : goal.returns
unfolding G.name_r
returns c =
    see _ _ _ _ c.at.ensures
    (rw c.if-at.false
    (see _ _ _ _ c.at-2.ensures
    (rw c.if-at-2.false
    c.err_recover.ensures)))
