-- What is seen at a position of the lent tokens, told from the code's tests, and what a kind is glued of. Assumes nothing.
use mathlib.Core.Path.{◌≡◌, refl, sym, ◌∙◌}
use mathlib.Core.List.{List, [], ◌∷◌}
use mathlib.Core.Bool.{Bool, true, false, not as opposite}
use Prim.Native.Nat.{ℕ, zero, suc, ◌≤◌, ◌<◌, min}
use native.Mathlib.Omega.{arith}
use lib.ListN.{length, get_or, get_or-eq_default}
use lib.Dec.{eqb, leb}
use borrow.Author.Tests.{eq-eqb, ne_eqb, eqb-true, le-leb, lt-leb, leb-true, leb-false, not-true}
use Rattle.kinds.specs.Kinds.{EOF}
use Rattle.kinds.specs.Membership.{both}
use Rattle.laws.proofs.Tests.{by-test, apart, on, off}
use Rattle.input.specs.declared.Parts.{Parts}
use Rattle.input.specs.declared.Parts.TheVariants.{One, Two, Three}
use Rattle.input.specs.Input.{Env, seen}
use Rattle.input.specs.Glue.{glued_kinds, parts_in, parts_of, raw_count, stands_at}

-- A kind that is none of the glued ones is its own part. NoneOf says it as the code's last arm knows it.
abbrev NoneOf : ℕ → List (ℕ × Parts) → Type 0 → Type 0
NoneOf k [] known = known
NoneOf k (g ∷ gs) known = NoneOf k gs (known × (k ≡ g.0 → ⊥))

left-known : (k : ℕ) (gs : List (ℕ × Parts)) (K : Type 0) → NoneOf k gs K → K
left-known k [] K h = h
left-known k (g ∷ gs) K h = (left-known k gs (K × (k ≡ g.0 → ⊥)) h).0

pub plain : (k : ℕ) (gs : List (ℕ × Parts)) (K : Type 0) → NoneOf k gs K → One k ≡ parts_in k gs
plain k [] K h = refl
plain k (g ∷ gs) K h = plain k gs (K × (k ≡ g.0 → ⊥)) h ∙ off g.1 (parts_in k gs) (ne_eqb k g.0 (left-known k gs (K × (k ≡ g.0 → ⊥)) h).1)

-- Reading a kind.
within : (l : List ℕ) (i a b : ℕ) → i < length l → get_or l i a ≡ get_or l i b
within [] i a b h = absurd (omega arith)
within (x ∷ l) zero a b h = refl
within (x ∷ l) (suc i) a b h = within l i a b (omega arith)

pub kind-there : (ks : List ℕ) (r i : ℕ) → r ≡ 0 → i < length ks → get_or ks i 0 ≡ seen ks r i
unfolding seen
kind-there ks r i z h = within ks i 0 EOF h ∙ on (get_or ks i EOF) EOF (eq-eqb r 0 z)

pub kind-beyond : (ks : List ℕ) (r i : ℕ) → r ≡ 0 → length ks ≤ i → EOF ≡ seen ks r i
unfolding seen
kind-beyond ks r i z h = sym (get_or-eq_default ks EOF h) ∙ on (get_or ks i EOF) EOF (eq-eqb r 0 z)

pub is-enough : (n l : ℕ) → n ≤ 8192 → leb n l ≡ leb n (min l 8192)
is-enough n l h = by (leb n l) refl
  where
    by : (b : Bool) → leb n l ≡ b → leb n l ≡ leb n (min l 8192)
    by true q = q ∙ sym (le-leb n (min l 8192) (omega (arith, leb-true n l q)))
    by false q = q ∙ sym (lt-leb n (min l 8192) (omega (arith, leb-false n l q)))

pub not-enough : (n l : ℕ) → 8192 < n → false ≡ leb n (min l 8192)
not-enough n l h = sym (lt-leb n (min l 8192) (omega arith))

-- a refused run sees the end everywhere
pub unseen : (kinds : List ℕ) (r i : ℕ) → eqb r 0 ≡ false → seen kinds r i ≡ EOF
unfolding seen
unseen kinds r i q = rw q

pub refused_end : (e : Env) (r i : ℕ) → eqb r 0 ≡ false → stands_at e r i (parts_of EOF) ≡ true
unfolding stands_at parts_of
refused_end e r i q = eq-eqb _ EOF (unseen e.kinds r i q)

-- a token is made of one, two or three
pub few-parts : (g : Parts) → (1 ≤ raw_count g) × (raw_count g ≤ 3)
few-parts (One a) = omega arith
few-parts (Two a b) = omega arith
few-parts (Three a b c) = omega arith

-- the first part of a kind and the last: no part of a glued kind is the end's
unfoldable pub first : Parts → ℕ
first (One a) = a
first (Two a b) = a
first (Three a b c) = a

unfoldable pub final : Parts → ℕ
final (One a) = a
final (Two a b) = b
final (Three a b c) = c

open-ended : (Parts → ℕ) → List (ℕ × Parts) → Bool
open-ended f [] = true
open-ended f (g ∷ gs) = both (opposite (eqb (f g.1) EOF)) (open-ended f gs)

pub both_true : (a b : Bool) → both a b ≡ true → (a ≡ true) × (b ≡ true)
both_true true b q = (refl, q)
both_true false b q = apart q

part-not-end : (f : Parts → ℕ) (k : ℕ) (gs : List (ℕ × Parts)) → f (One k) ≡ k → open-ended f gs ≡ true → f (parts_in k gs) ≡ EOF → k ≡ EOF
unfolding open-ended
part-not-end f k [] w t q = sym w ∙ q
part-not-end f k (g ∷ gs) w t q =
    let u : (opposite (eqb (f g.1) EOF) ≡ true) × (open-ended f gs ≡ true) = both_true (opposite (eqb (f g.1) EOF)) (open-ended f gs) t in
    by-test (λ (x : Parts). f x ≡ EOF → k ≡ EOF) (eqb k g.0) g.1 (parts_in k gs)
    (λ b z. apart (sym (not-true _ u.0) ∙ eq-eqb _ _ z))
    (λ b z. part-not-end f k gs w u.1 z)
    q

pub first-not-end : (k : ℕ) → first (parts_of k) ≡ EOF → k ≡ EOF
unfolding first open-ended parts_of
first-not-end k q = part-not-end first k glued_kinds refl refl q

pub final-not-end : (k : ℕ) → final (parts_of k) ≡ EOF → k ≡ EOF
unfolding final open-ended parts_of
final-not-end k q = part-not-end final k glued_kinds refl refl q

-- a refused run sees the end alone
pub refused-first : (e : Env) (r i : ℕ) (g : Parts) → eqb r 0 ≡ false → stands_at e r i g ≡ true → first g ≡ EOF
unfolding stands_at first
refused-first e r i (One a) q h = sym (eqb-true (seen e.kinds r i) a h) ∙ unseen e.kinds r i q
refused-first e r i (Two a b) q h = sym (eqb-true (seen e.kinds r i) a (both_true (eqb (seen e.kinds r i) a) _ h).0) ∙ unseen e.kinds r i q
refused-first e r i (Three a b c) q h = sym (eqb-true (seen e.kinds r i) a (both_true (eqb (seen e.kinds r i) a) _ h).0) ∙ unseen e.kinds r i q
