-- Written by tools/proofs from the code, the definitions and hints.py: docs/PRODUCTIONS.md says how to change it.
-- `items::continue_` meets its contract. Assumes nothing.
use Rattle.runtime.proofs.Laws.{then, step, ends}
use Rattle.grammar.specs.Items as I
use Rattle.statements.proofs.items.continue_.Goals as goal

pub returns : goal.returns
unfolding I.continue
returns c =
    then _ _ _ _ c.must-p.ensures
    (then _ _ _ _ c.bump-p.ensures
    (then _ _ _ _ c.expect-p.ensures
    (step _ _ _ _ c.complete-p.ensures
    (ends _ _ _))))
