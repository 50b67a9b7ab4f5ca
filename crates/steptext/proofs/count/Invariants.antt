use Rattle.std.specs.Prelude.{◌≤◌, ◌-◌, length}
use Rattle.steptext.proofs.count.Given as goal

abbrev pub invariant-loop-s : goal.invariant-loop-s
invariant-loop-s l =
    (l.at ≤ length l.file) × (l.n ≤ l.at)

abbrev pub decreases-loop-s : goal.decreases-loop-s
decreases-loop-s l =
    length l.file - l.at
