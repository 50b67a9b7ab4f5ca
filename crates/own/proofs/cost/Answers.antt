-- `own::cost` meets its contract: the bytes of the event's own step.
-- Assumes nothing.
use mathlib.Core.Path.{sym, ◌∙◌}
use Rattle.records.specs.Record.{bytes}
use Rattle.own.proofs.Writes.{cost-one}
use Rattle.own.proofs.cost.Goals as goal

pub returns-in-Some : goal.returns-in-Some
returns-in-Some c = c.size.ensures ∙ sym (cost-one c.args.e _ c.in-Some.ensures)

pub returns-in-None : goal.returns-in-None
unfolding bytes
returns-in-None c = rw c.in-None.ensures
