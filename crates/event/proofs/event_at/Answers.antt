-- `event::event_at` meets its contract: event i stands at its words. Assumes nothing.
use mathlib.Core.Path.{◌∙◌}
use Rattle.event.proofs.Rooms.{event-index}
use Rattle.event.proofs.event_at.Goals as goal

pub returns : goal.returns
returns c = c.decode.ensures ∙ event-index c.args.words.now c.args.i c.requires
