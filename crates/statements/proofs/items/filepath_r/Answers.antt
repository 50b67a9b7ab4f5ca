-- Written by tools/proofs from the code, the definitions and hints.py: docs/PRODUCTIONS.md says how to change it.
-- `items::filepath_r` meets its contract. Assumes nothing.
use Rattle.runtime.proofs.Laws.{then, step, see, ends}
use Rattle.grammar.specs.Items as I
use Rattle.statements.proofs.items.filepath_r.Goals as goal

pub returns-then-at : goal.returns-then-at
unfolding I.filepath_r
returns-then-at c =
    see _ _ _ _ c.at.ensures
    (rw c.if-at.true
    (step _ _ _ _ c.start-p.ensures
    (then _ _ _ _ c.bump-p.ensures
    (step _ _ _ _ c.complete-p.ensures
    (ends _ _ _)))))

pub returns : goal.returns
unfolding I.filepath_r
returns c =
    see _ _ _ _ c.at.ensures
    (rw c.if-at.false
    c.err_recover.ensures)
