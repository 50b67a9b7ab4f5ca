-- `first_fault` meets its contract: what is left to pass decides the place. Assumes nothing.
use mathlib.Core.Path.{◌≡◌}
use Prim.Native.Nat.{◌+◌}
use lib.ListN.{drop}
use Rattle.parse.specs.Parse.{first_fault}
use Rattle.parse.proofs.first_fault.Given as goal

abbrev pub invariant-loop-i : goal.invariant-loop-i
invariant-loop-i l =
    l.i + first_fault (drop l.i l.kinds) ≡ first_fault l.kinds
