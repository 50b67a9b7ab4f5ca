-- What holds of a choice, by its test. Assumes nothing.
use mathlib.Core.Path.{◌≡◌, refl, sym, ◌∙◌}
use mathlib.Core.Bool.{Bool, true, false, cond}
use Prim.Native.Nat.{ℕ}
use native.Mathlib.Omega.{arith}
use lib.Dec.{eqb}
use borrow.Author.Tests.{eq-eqb, ne_eqb}

-- a choice keeps what both its arms have
pub by-test : {A : Type 0} (P : A → Type 0) (t : Bool) (x y : A) → (t ≡ true → P x) → (t ≡ false → P y) → P (cond t x y)
by-test P true x y f g = f refl
by-test P false x y f g = g refl

-- no test tells both
pub apart : {A : Type 0} → ◌≡◌ {A = Bool} false true → A
apart q = absurd (let z : ◌≡◌ {A = ℕ} 0 1 = cc in omega arith)

-- a branch, from the test's outcome
pub on : {A : Type 0} {b : Bool} (x y : A) → b ≡ true → x ≡ cond b x y
on x y e = rw e refl

pub off : {A : Type 0} {b : Bool} (x y : A) → b ≡ false → y ≡ cond b x y
off x y e = rw e refl

-- what the code's test of a result says of what the result is
pub is-so : {k s : ℕ} (a : ℕ) → k ≡ s → k ≡ a → eqb s a ≡ true
is-so {k} {s} a q e = eq-eqb s a (sym q ∙ e)

pub is-not : {k s : ℕ} (a : ℕ) → k ≡ s → (k ≡ a → ⊥) → eqb s a ≡ false
is-not {k} {s} a q h = ne_eqb s a (λ e. h (q ∙ e))
