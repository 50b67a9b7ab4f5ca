use Rattle.std.specs.Prelude.{◌≡◌, true}
use Rattle.sets.proofs.show_all.Given as goal

abbrev pub invariant-loop-name : goal.invariant-loop-name
invariant-loop-name _ l = l.agree ≡ true
