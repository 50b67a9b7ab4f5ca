-- `events::process` meets its contract. The invariant is `Running`, which a turn keeps.
-- Assumes nothing.
use mathlib.Core.Path.{◌≡◌}
use lib.ListN.{length}
use Rattle.event.specs.Event.{events_of}
use Rattle.events.proofs.Running.{Running}
use Rattle.events.proofs.process.Given as goal

abbrev pub invariant-loop-i : goal.invariant-loop-i
invariant-loop-i l =
    (length l.words ≡ length l.initial.words) × Running (events_of l.initial.words) l.initial.out l.n l.size (events_of l.words) l.out l.i l.at
