-- `stepfile::read_file` meets its contract: each round is a round of the definition, and there are enough of them. Assumes nothing.
use Prim.Native.Nat.{suc, ◌-◌}
use mathlib.Core.Path.{◌≡◌}
use lib.ListN.{length}
use Rattle.stepfile.specs.File.{file_read}
use Rattle.stepfile.specs.Inside.{Fits, from}
use Rattle.stepfile.proofs.read_file.Given as goal

abbrev pub invariant-loop-s : goal.invariant-loop-s
invariant-loop-s l =
    Fits l.file l.w × (from (suc (length l.file)) l.file l.w ≡ file_read l.file)

abbrev pub decreases-loop-s : goal.decreases-loop-s
decreases-loop-s l =
    length l.file - l.w.at
