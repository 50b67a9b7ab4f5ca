-- `turns::put_chain` meets its contract. The invariant is `Writing`, which a hop keeps.
-- Assumes nothing.
use Prim.Native.Nat.{◌-◌}
use mathlib.Core.Path.{◌≡◌}
use lib.ListN.{length}
use Rattle.event.specs.Event.{events_of}
use Rattle.turns.proofs.Following.{Writing}
use Rattle.turns.proofs.put_chain.Given as goal

abbrev pub invariant-loop-q : goal.invariant-loop-q
invariant-loop-q l =
    (length l.words ≡ length l.initial.words) × Writing (events_of l.initial.words) l.initial.out l.i l.d l.at (events_of l.words) l.out l.p l.q l.end

abbrev pub decreases-loop-q : goal.decreases-loop-q
decreases-loop-q l =
    length l.initial.words - l.p
