-- `lists::measure` meets its contract. The invariant: what is left to scan decides the answer, no more nodes are open than events
-- passed, and the bytes, with the need of what is left, are the need of the list.
-- Assumes nothing.
use Prim.Native.Nat.{◌+◌, ◌*◌, ◌≤◌}
use mathlib.Core.Path.{◌≡◌}
use lib.ListN.{drop}
use Rattle.event.specs.Event.{events_of}
use Rattle.records.specs.Record.{step_bytes}
use Rattle.lists.specs.Check.{scan, checked}
use Rattle.own.specs.Own.{need}
use Rattle.lists.proofs.measure.Given as goal

abbrev pub invariant-loop-i : goal.invariant-loop-i
invariant-loop-i l =
    (l.held ≤ l.i) × (l.bytes ≤ step_bytes * l.i)
    × (scan (drop l.i (events_of l.words)) l.i l.held ≡ checked l.words)
    × (l.bytes + need (drop l.i (events_of l.words)) ≡ need (events_of l.words))
