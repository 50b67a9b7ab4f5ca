-- Kinds that are one token: the bits of the code's constant against the glued kinds, by one test that antt computes. Assumes nothing.
use mathlib.Core.Path.{◌≡◌, refl, sym, ◌∙◌}
use mathlib.Core.List.{List, [], ◌∷◌}
use mathlib.Core.Bool.{Bool, true, false, cond}
use Prim.Native.Nat.{ℕ, ◌+◌, ◌/◌, ◌%◌, ◌^◌, ◌≤◌, ◌<◌}
use native.Mathlib.Omega.{arith}
use lib.Dec.{T, eqb, ltb, ltb→lt}
use borrow.Author.Tests.{ne_eqb, eqb-true, eqb-false}
use Rattle.kinds.specs.Kinds.{DOT3, DOT2EQ, SHLEQ, SHREQ}
use Rattle.kinds.specs.Membership.{bit, both, one_of}
use Rattle.kinds.proofs.Laws.{both-parts, agree, agreed, bit_in}
use Rattle.input.specs.declared.Parts.{Parts}
use Rattle.input.specs.declared.Parts.TheVariants.{One}
use Rattle.input.specs.Input.{Env, seen}
use Rattle.input.specs.Glue.{glued_kinds, parts_in, parts_of, is_one, raw_count, stands_at}
use Rattle.laws.proofs.Tests.{apart}

-- the code's constant
abbrev pub plain_bits : ℕ
plain_bits = 18410715453992206331

-- below 64 its bits say which kinds are one token
pub bits-plain : (k : ℕ) {b : Bool} → k ≤ 63 → b ≡ eqb (plain_bits / 2 ^ k % 2) 1 → b ≡ is_one (parts_of k)
unfolding agree parts_of bit
bits-plain k h e =
    let m : k % 64 ≡ k = omega arith in
    bit_in (plain_bits ∷ []) 0 k (omega arith) (rw m e) ∙ agreed 64 (plain_bits ∷ []) (λ k. is_one (parts_of k)) tt k (omega arith)

-- no glued kind lies above
unfoldable below : ℕ → List (ℕ × Parts) → Bool
below n [] = true
below n (g ∷ gs) = both (ltb g.0 n) (below n gs)

alone : (n k : ℕ) (gs : List (ℕ × Parts)) → T (below n gs) → n ≤ k → parts_in k gs ≡ One k
unfolding below
alone n k [] t h = refl
alone n k (g ∷ gs) t h =
    let parts : T (ltb g.0 n) × T (below n gs) = both-parts (ltb g.0 n) (below n gs) t in
    rw (ne_eqb k g.0 (λ e. omega (arith, ltb→lt g.0 n parts.0))) (alone n k gs parts.1 h)

pub above-plain : (k : ℕ) → 63 < k → true ≡ is_one (parts_of k)
unfolding parts_of below
above-plain k h = rw (alone 64 k glued_kinds tt (omega arith))

-- a kind of one token is its own part: no glued kind has one
unfoldable none_one : List (ℕ × Parts) → Bool
none_one [] = true
none_one (g ∷ gs) = both (cond (is_one g.1) false true) (none_one gs)

own : (k : ℕ) (gs : List (ℕ × Parts)) → T (none_one gs) → is_one (parts_in k gs) ≡ true → parts_in k gs ≡ One k
unfolding none_one
own k [] t h = refl
own k (g ∷ gs) t h =
    by (eqb k g.0) (is_one g.1) refl (both-parts (cond (is_one g.1) false true) (none_one gs) t).0 (own k gs (both-parts (cond (is_one g.1) false true) (none_one gs) t).1) h
  where
    by : (b o : Bool) → is_one g.1 ≡ o → T (cond o false true) → (is_one (parts_in k gs) ≡ true → parts_in k gs ≡ One k) → is_one (cond b g.1 (parts_in k gs)) ≡ true → cond b g.1 (parts_in k gs) ≡ One k
    by true true q t r z = absurd t
    by true false q t r z = apart (sym q ∙ z)
    by false o q t r z = r z

pub plain-one : (k : ℕ) → is_one (parts_of k) ≡ true → parts_of k ≡ One k
unfolding parts_of none_one
plain-one k h = own k glued_kinds tt h

-- Every other kind is of two tokens, but for four, which are of three.
abbrev pub threes : List ℕ
threes = DOT3 ∷ DOT2EQ ∷ SHLEQ ∷ SHREQ ∷ []

unfoldable pairs : List (ℕ × Parts) → Bool
pairs [] = true
pairs (g ∷ gs) = both (cond (eqb (raw_count g.1) 2) true (one_of threes g.0)) (pairs gs)

paired : (k : ℕ) (gs : List (ℕ × Parts)) → T (pairs gs) → is_one (parts_in k gs) ≡ false → one_of threes k ≡ false → raw_count (parts_in k gs) ≡ 2
unfolding pairs
paired k [] t o n = apart (sym o)
paired k (g ∷ gs) t o n =
    let u = both-parts (cond (eqb (raw_count g.1) 2) true (one_of threes g.0)) (pairs gs) t in
    by (eqb k g.0) refl u.0 (paired k gs u.1) o
  where
    two : (b : Bool) → eqb (raw_count g.1) 2 ≡ b → T (cond b true (one_of threes k)) → raw_count g.1 ≡ 2
    two true q t = eqb-true _ _ q
    two false q t = absurd (rw n at t)

    by : (b : Bool) → eqb k g.0 ≡ b → T (cond (eqb (raw_count g.1) 2) true (one_of threes g.0)) → (is_one (parts_in k gs) ≡ false → one_of threes k ≡ false → raw_count (parts_in k gs) ≡ 2) → is_one (cond b g.1 (parts_in k gs)) ≡ false → raw_count (cond b g.1 (parts_in k gs)) ≡ 2
    by true q t r o = two (eqb (raw_count g.1) 2) refl (rw (← eqb-true k g.0 q) at t)
    by false q t r o = r o n

pub pair-raw : (k : ℕ) → is_one (parts_of k) ≡ false → (k ≡ DOT3 → ⊥) → (k ≡ DOT2EQ → ⊥) → (k ≡ SHLEQ → ⊥) → (k ≡ SHREQ → ⊥) → 2 ≡ raw_count (parts_of k)
unfolding parts_of pairs one_of
pair-raw k o a b c d = sym (paired k glued_kinds tt o (rw (ne_eqb k DOT3 a, ne_eqb k DOT2EQ b, ne_eqb k SHLEQ c, ne_eqb k SHREQ d)))

pub three-raw : (k a b : ℕ) → a ≤ k → k < a + 2 → b ≡ a + 1 → raw_count (parts_of a) ≡ 3 → raw_count (parts_of b) ≡ 3 → 3 ≡ raw_count (parts_of k)
three-raw k a b l h q x y = by (eqb k a) refl
  where
    by : (t : Bool) → eqb k a ≡ t → 3 ≡ raw_count (parts_of k)
    by true t = rw (eqb-true k a t) (sym x)
    by false t = let e : k ≡ b = omega (arith, eqb-false k a t) in rw e (sym y)

-- what stands where a kind of one token is asked for
pub plain-stands : (e : Env) (r i k : ℕ) → is_one (parts_of k) ≡ true → stands_at e r i (parts_of k) ≡ eqb (seen e.kinds r i) k
unfolding stands_at
plain-stands e r i k q = rw (plain-one k q)
