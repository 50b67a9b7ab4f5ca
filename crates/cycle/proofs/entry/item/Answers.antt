-- Written by tools/proofs from the code, the definitions and hints.py: docs/PRODUCTIONS.md says how to change it.
-- `entry::item` meets its contract. Assumes nothing.
use Rattle.grammar.specs.Entry as T
use Rattle.cycle.proofs.entry.item.Goals as goal

pub returns : goal.returns
unfolding T.one_item
returns c = c.item_at.ensures
