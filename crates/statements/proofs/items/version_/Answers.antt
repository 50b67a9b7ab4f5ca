-- Written by tools/proofs from the code, the definitions and hints.py: docs/PRODUCTIONS.md says how to change it.
-- `items::version_` meets its contract. Assumes nothing.
use Rattle.runtime.proofs.Laws.{then, step, ends}
use Rattle.grammar.specs.Items as I
use Rattle.statements.proofs.items.version_.Goals as goal

pub returns : goal.returns
unfolding I.version
returns c =
    step _ _ _ _ c.start-p.ensures
    (then _ _ _ _ c.expect-p.ensures
    (then _ _ _ _ c.skip_to_semicolon-p.ensures
    (then _ _ _ _ c.expect-p-2.ensures
    (step _ _ _ _ c.complete-p.ensures
    (ends _ _ _)))))
