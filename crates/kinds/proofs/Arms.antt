-- A `match` on a kind with an arm for each kind of a listing. Assumes nothing.
use mathlib.Core.Path.{◌≡◌, refl, sym, ap, ◌∙◌}
use mathlib.Core.List.{List, [], ◌∷◌, ◌++◌}
use mathlib.Core.Bool.{Bool, true, false, cond, ◌||◌}
use Prim.Native.Nat.{ℕ, ◌≤◌, ◌<◌}
use native.Mathlib.Omega.{arith}
use lib.Dec.{T, eqb, leb, leb→le}
use borrow.Author.Tests.{eqb-true, ne_eqb}
use Rattle.laws.proofs.Tests.{apart}
use Rattle.kinds.specs.Membership.{both, one_of}
use Rattle.kinds.proofs.Laws.{both-parts, below, unlisted}

is_true : (b : Bool) → T b → b ≡ true
is_true true t = refl
is_true false t = absurd t

-- in an arm the kind is one that is listed
pub arm : (ks : List ℕ) (x : ℕ) {k : ℕ} → T (one_of ks x) → k ≡ x → true ≡ one_of ks k
arm ks x t e = sym (ap (one_of ks) e ∙ is_true _ t)

-- what is known where no arm was taken: the kind is none of the arms', the last one's said last
abbrev None : List ℕ → ℕ → Type 0
None [] k = Unit
None (x ∷ xs) k = None xs k × (k ≡ x → ⊥)

-- and so it is not listed; the arms' kinds are given from the last to the first
pub none : (xs : List ℕ) (k : ℕ) → None xs k → false ≡ one_of xs k
unfolding one_of
none [] k h = refl
none (x ∷ xs) k h = rw (ne_eqb k x h.1) (none xs k h.0)

-- ---- two listings of the same kinds

-- every kind of the first is one of the second
unfoldable pub within : List ℕ → List ℕ → Bool
within [] ys = true
within (x ∷ xs) ys = both (one_of ys x) (within xs ys)

-- each has the other's kinds
abbrev pub alike : List ℕ → List ℕ → Bool
alike xs ys = both (within xs ys) (within ys xs)

held-within : (xs ys : List ℕ) → T (within xs ys) → (k : ℕ) → one_of xs k ≡ true → one_of ys k ≡ true
unfolding within one_of
held-within [] ys t k h = apart h
held-within (x ∷ xs) ys t k h = by (eqb k x) refl (held-within xs ys (both-parts (one_of ys x) (within xs ys) t).1 k)
  where
    by : (b : Bool) → eqb k x ≡ b → (one_of xs k ≡ true → one_of ys k ≡ true) → one_of ys k ≡ true
    by true e rest = ap (one_of ys) (eqb-true k x e) ∙ is_true _ (both-parts (one_of ys x) (within xs ys) t).0
    by false e rest = rest (sym (ap (λ (b : Bool). cond b true (one_of xs k)) e) ∙ h)

alike-eq : (a b : Bool) → (a ≡ true → b ≡ true) → (b ≡ true → a ≡ true) → a ≡ b
alike-eq true b f g = sym (f refl)
alike-eq false true f g = g refl
alike-eq false false f g = refl

same-kinds : (xs ys : List ℕ) → T (alike xs ys) → (k : ℕ) → one_of xs k ≡ one_of ys k
same-kinds xs ys t k =
    let parts : T (within xs ys) × T (within ys xs) = both-parts (within xs ys) (within ys xs) t in
    alike-eq _ _ (held-within xs ys parts.0 k) (held-within ys xs parts.1 k)

or-false : (a : Bool) → (a || false) ≡ a
or-false true = refl
or-false false = refl

-- where no arm was taken, of arms that have just the kinds of a listing
pub no_arm : (xs ks : List ℕ) → T (alike xs ks) → (k : ℕ) → None xs k → false ≡ one_of ks k
no_arm xs ks t k h = none xs k h ∙ same-kinds xs ks t k

one-of-either : (xs ys : List ℕ) (k : ℕ) → (one_of xs k || one_of ys k) ≡ one_of (xs ++ ys) k
unfolding one_of
one-of-either [] ys k = refl
one-of-either (x ∷ xs) ys k = by (eqb k x) (one-of-either xs ys k)
  where
    by : (b : Bool) → (one_of xs k || one_of ys k) ≡ one_of (xs ++ ys) k → (cond b true (one_of xs k) || one_of ys k) ≡ cond b true (one_of (xs ++ ys) k)
    by true rest = refl
    by false rest = rest

-- two matches that are joined by `|` have the kinds of both
pub joined : (xs ys ks : List ℕ) → T (alike (xs ++ ys) ks) → (k : ℕ) {a b : Bool} → a ≡ one_of xs k → b ≡ one_of ys k → (a || b) ≡ one_of ks k
joined xs ys ks t k e f = rw (e, f) (one-of-either xs ys k ∙ same-kinds (xs ++ ys) ks t k)

-- ---- two matches of which one is chosen, by whether the kind lies below n

-- every listed kind is n or more
unfoldable pub from : ℕ → List ℕ → Bool
from n [] = true
from n (x ∷ xs) = both (leb n x) (from n xs)

unlisted-below : (n : ℕ) (ks : List ℕ) → T (from n ks) → (k : ℕ) → k < n → one_of ks k ≡ false
unfolding from one_of
unlisted-below n [] t k h = refl
unlisted-below n (x ∷ ks) t k h =
    let parts : T (leb n x) × T (from n ks) = both-parts (leb n x) (from n ks) t in
    rw (ne_eqb k x (λ e. omega (arith, leb→le n x parts.0))) (unlisted-below n ks parts.1 k h)

pub chosen-low : (xs ys ks : List ℕ) → T (alike (xs ++ ys) ks) → T (both (below 64 xs) (from 64 ys)) → (k : ℕ) {a : Bool} → k < 64 → a ≡ one_of xs k → a ≡ one_of ks k
chosen-low xs ys ks t u k h e =
    let none : false ≡ one_of ys k = sym (unlisted-below 64 ys (both-parts (below 64 xs) (from 64 ys) u).1 k h) in
    sym (or-false _) ∙ joined xs ys ks t k e none

pub chosen-high : (xs ys ks : List ℕ) → T (alike (xs ++ ys) ks) → T (both (below 64 xs) (from 64 ys)) → (k : ℕ) {a : Bool} → 64 ≤ k → a ≡ one_of ys k → a ≡ one_of ks k
chosen-high xs ys ks t u k h e =
    let none : false ≡ one_of xs k = sym (unlisted 64 xs (both-parts (below 64 xs) (from 64 ys) u).0 k h) in
    joined xs ys ks t k none e
