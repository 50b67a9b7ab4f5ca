use Rattle.std.specs.Prelude.{◌≤◌, ◌-◌, length}
use Rattle.steptext.proofs.put_all.Given as goal

abbrev pub invariant-loop-s : goal.invariant-loop-s
invariant-loop-s _ l =
    l.at ≤ length l.file

abbrev pub decreases-loop-s : goal.decreases-loop-s
decreases-loop-s _ l =
    length l.file - l.at
