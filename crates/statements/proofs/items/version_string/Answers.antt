-- Written by tools/proofs from the code, the definitions and hints.py: docs/PRODUCTIONS.md says how to change it.
-- `items::version_string` meets its contract. Assumes nothing.
use Rattle.runtime.proofs.Laws.{then, step, ends}
use Rattle.grammar.specs.Items as I
use Rattle.statements.proofs.items.version_string.Goals as goal

pub returns : goal.returns
unfolding I.version_string
returns c =
    then _ _ _ _ c.bump-p.ensures
    (then _ _ _ _ c.version_-p.ensures
    (step _ _ _ _ c.complete-p.ensures
    (ends _ _ _)))
