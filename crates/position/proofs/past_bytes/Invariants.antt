-- `position::past_bytes` meets its contract. Assumes nothing.
use Prim.Native.Nat.{◌-◌, ◌≤◌}
use mathlib.Core.Path.{◌≡◌}
use Rattle.position.specs.Inside.{spot}
use Rattle.position.proofs.past_bytes.Given as goal

abbrev pub invariant-loop-s : goal.invariant-loop-s
invariant-loop-s l =
    (l.s ≡ spot l.text l.s.at) × (l.s.at ≤ l.end)

abbrev pub decreases-loop-s : goal.decreases-loop-s
decreases-loop-s l =
    l.end - l.s.at
