-- `kind_ahead` meets its contract: a run that is not refused sees the kind, and beyond the last token the end. Assumes nothing.
use Rattle.input.specs.Input.{seen}
use Rattle.lookahead.proofs.kind_ahead.Goals as goal

pub returns-then-n-kinds : goal.returns-then-n-kinds
unfolding seen
returns-then-n-kinds c = c.kind.ensures
