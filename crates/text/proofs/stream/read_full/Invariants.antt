use Rattle.std.specs.Prelude.{◌-◌, ◌≤◌, length}
use Rattle.text.proofs.stream.read_full.Given as goal

abbrev pub invariant-loop-done : goal.invariant-loop-done
invariant-loop-done _ l =
    l.done ≤ length l.room

abbrev pub decreases-loop-done : goal.decreases-loop-done
decreases-loop-done _ l =
    length l.room - l.done
