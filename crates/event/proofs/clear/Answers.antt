-- `event::clear` meets its contract: a tombstone is sound. Assumes nothing.
use native.Mathlib.Omega.{arith}
use mathlib.Core.Path.{ap, ◌∙◌}
use lib.ListN.{set}
use Rattle.event.specs.Event.{events_of, tombstone}
use Rattle.event.proofs.Encoding.{decode-encode}
use Rattle.event.proofs.Rooms.{events-stored}
use Rattle.event.proofs.clear.Goals as goal

pub returns : goal.returns
returns c = ap events_of c.store.ensures ∙ events-stored c.args.words.now c.args.i tombstone c.requires ∙ ap (set (events_of c.args.words.now) c.args.i) (decode-encode tombstone (omega arith))
