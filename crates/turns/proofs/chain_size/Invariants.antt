-- `turns::chain_size` meets its contract. The invariant is `Sizing`, which a hop keeps.
-- Assumes nothing.
use Prim.Native.Nat.{◌-◌}
use lib.ListN.{length}
use Rattle.event.specs.Event.{events_of}
use Rattle.turns.proofs.Following.{Sizing}
use Rattle.turns.proofs.chain_size.Given as goal

abbrev pub invariant-loop-q : goal.invariant-loop-q
invariant-loop-q l =
    Sizing (events_of l.words) l.i l.d l.p l.q l.size

abbrev pub decreases-loop-q : goal.decreases-loop-q
decreases-loop-q l =
    length l.words - l.p
