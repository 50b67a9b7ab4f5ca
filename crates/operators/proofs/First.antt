-- The first of some kinds that stands here, from a place of their list on. Assumes nothing.
use Rattle.std.proofs.Common.{◌≡◌, ℕ, suc, ◌+◌, ◌<◌, ◌≤◌, Bool, true, false, List, length, get_or, drop}
use native.Mathlib.Numerals.{add-one}
use lib.ListN.{drop_of_length-le}
use lib.Seq.{drop-cons}
use Rattle.input.specs.Input.{Env}
use Rattle.runtime.specs.State.{Parser}
use Rattle.runtime.specs.Acts.{Peeks, sees}
use Rattle.runtime.proofs.Laws.{see, only, peeks, ends}
use Rattle.operators.specs.Operators.{first_at}

module _ (e : Env) (p : Parser) (plain : ℕ) (ks : List ℕ) (i : ℕ) where
  pub first-here : {b : Bool} → i < length ks → b ≡ sees e p (get_or ks i 0) → b ≡ true → Peeks e (first_at (drop i ks) plain) p (get_or ks i 0) p
  first-here h q t = rw (drop-cons ks i 0 h) (only _ _ _ (λ room. see _ _ _ _ q (rw t (ends _ _ _))))

  pub first-later : {b : Bool} {a : ℕ} → i < length ks → b ≡ sees e p (get_or ks i 0) → b ≡ false → Peeks e (first_at (drop (i + 1) ks) plain) p a p → Peeks e (first_at (drop i ks) plain) p a p
  first-later h q t d = rw (drop-cons ks i 0 h) (only _ _ _ (λ room. see _ _ _ _ q (rw t (peeks _ _ _ room (rw add-one at d)))))

  pub first-none : length ks ≤ i → Peeks e (first_at (drop i ks) plain) p plain p
  first-none h = rw (drop_of_length-le ks h) (only _ _ _ (λ room. ends _ _ _))
