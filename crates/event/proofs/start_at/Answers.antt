-- `event::start_at` meets its contract. Assumes nothing.
use mathlib.Core.Path.{ap, ◌∙◌}
use Rattle.event.specs.Event.{is_start}
use Rattle.event.proofs.Encoding.{starts-at}
use Rattle.event.proofs.Rooms.{event-index}
use Rattle.event.proofs.start_at.Goals as goal

pub returns : goal.returns
returns c = let w = c.args.words.now in let i = c.args.i in starts-at _ _ ∙ ap is_start (event-index w i c.requires)
