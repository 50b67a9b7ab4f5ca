-- The first token that is not permitted, from a place on. Assumes nothing.
use mathlib.Core.Path.{◌≡◌}
use mathlib.Core.Bool.{true, false}
use mathlib.Core.List.{List}
use Prim.Native.Nat.{ℕ, suc, ◌≤◌, ◌<◌}
use lib.ListN.{length, get_or, drop, drop_of_length-le}
use lib.Seq.{drop-cons}
use Rattle.kinds.specs.Membership.{one_of}
use Rattle.kinds.specs.Sets.{PERMITTED}
use Rattle.parse.specs.Parse.{first_fault}

module _ (ks : List ℕ) (i : ℕ) where
  pub fault-here : i < length ks → one_of PERMITTED (get_or ks i 0) ≡ false → first_fault (drop i ks) ≡ 0
  unfolding first_fault
  fault-here h e = rw (drop-cons ks i 0 h, e)

  pub fault-later : i < length ks → one_of PERMITTED (get_or ks i 0) ≡ true → first_fault (drop i ks) ≡ suc (first_fault (drop (suc i) ks))
  unfolding first_fault
  fault-later h e = rw (drop-cons ks i 0 h, e)

  pub fault-none : length ks ≤ i → first_fault (drop i ks) ≡ 0
  unfolding first_fault
  fault-none h = rw (drop_of_length-le ks h)
