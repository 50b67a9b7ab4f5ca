-- `stepfile::passed` meets its contract: by the nodes open past the step. Assumes nothing.
use mathlib.Core.Path.{sym, ◌∙◌}
use Rattle.stepfile.specs.Inside.{passed}
use Rattle.stepfile.proofs.passed.Goals as goal

pub returns-in_default : goal.returns-in_default
unfolding passed
returns-in_default c = rw (sym c.nest.ensures ∙ c.in_default.is)

pub returns : goal.returns
unfolding passed
returns c = rw (sym c.nest.ensures ∙ c.in-Some.is, c.size.ensures)
