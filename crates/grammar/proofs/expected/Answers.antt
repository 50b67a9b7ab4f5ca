-- Written by tools/proofs from the code, the definitions and hints.py: docs/PRODUCTIONS.md says how to change it.
-- `expected` meets its contract. Assumes nothing.
use Rattle.runtime.proofs.Laws.{then, ends}
use Rattle.grammar.proofs.expected.Goals as goal

pub returns : goal.returns
returns c =
    then _ _ _ _ c.expect-p.ensures
    (ends _ _ _)
