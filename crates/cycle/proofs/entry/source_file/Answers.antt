-- Written by tools/proofs from the code, the definitions and hints.py: docs/PRODUCTIONS.md says how to change it.
-- `entry::source_file` meets its contract. Assumes nothing.
use Rattle.runtime.proofs.Laws.{then, step, ends}
use Rattle.grammar.specs.Entry as T
use Rattle.cycle.proofs.entry.source_file.Goals as goal

pub returns : goal.returns
unfolding T.source_file
returns c =
    step _ _ _ _ c.start-p.ensures
    (then _ _ _ _ c.source_file_contents-p.ensures
    (step _ _ _ _ c.complete-p.ensures
    (ends _ _ _)))
