use Rattle.std.specs.Prelude.{◌≡◌, true}
use Rattle.kinds.specs.Membership.{one_of, count}
use Rattle.kinds.specs.Sets.{kinds_of}
use Rattle.sets.proofs.show.ask.Given as goal

abbrev pub invariant-loop-n : goal.invariant-loop-n
invariant-loop-n l =
    (l.listed ≡ count l.n (one_of (kinds_of l.set))) × (l.same ≡ true)
