-- What stands at a place of a file: numbers of two bytes, and the five sorts of a record by its head. Assumes nothing.
use Prim.Native.Nat.{ℕ, ◌+◌, ◌-◌, ◌/◌, ◌%◌, ◌≤◌, ◌<◌}
use native.Mathlib.Omega.{arith}
use native.Mathlib.Nat.{add-zero}
use mathlib.Core.Path.{◌≡◌, refl, sym, ◌∙◌}
use mathlib.Core.Bool.{false, cond}
use mathlib.Core.List.{List}
use lib.Dec.{eqb, ltb}
use lib.ListN.{length, get_or, drop, length-drop, drop_of_length-le}
use lib.Seq.{get_or-drop}
use borrow.Author.Tests.{ne_eqb, lt-ltb, le-ltb, eqb-true, eqb-false, ltb-false}
use Rattle.std.specs.Prelude.{Some, None, Ok, Err}
use Rattle.records.specs.declared.Step.TheVariants.{Enter, Leave, Token, Error, Expected}
use Rattle.laws.proofs.Tests.{by-test}
use Rattle.stepfile.specs.Front.{Found}
use Rattle.stepfile.specs.declared.Fault.TheVariants.{Cut, Unsound}
use Rattle.stepfile.specs.Front.{two, step_of, front}
use Rattle.stepfile.specs.Inside.{Head}

pub two-drop : (l : List ℕ) (at i : ℕ) → two (drop at l) i ≡ two l (at + i)
two-drop l at i = let e : at + (i + 1) ≡ at + i + 1 = omega arith in rw (get_or-drop at l i 0, get_or-drop at l (i + 1) 0, e)

pub two-front : (l : List ℕ) (at : ℕ) → two (drop at l) 0 ≡ two l at
two-front l at = two-drop l at 0 ∙ rw add-zero

-- ---- a whole record, by its kind and its payload's length

module _ (bs : List ℕ) where
  pub a-token : (n : ℕ) → n ≡ get_or bs 6 0 → (n ≡ 0 → ⊥) → n ≤ 3 → step_of 3 3 bs ≡ Ok (Some (Token (two bs 4) n))
  unfolding step_of
  a-token n e z h = rw (← e, ne_eqb n 0 z, le-ltb 3 n h)

  -- a raw count of 0, and one above 3
  pub no-count : get_or bs 6 0 ≡ 0 → step_of 3 3 bs ≡ Err Unsound
  unfolding step_of
  no-count e = rw e

  pub high-count : 3 < get_or bs 6 0 → step_of 3 3 bs ≡ Err Unsound
  unfolding step_of
  high-count h = rw (ne_eqb (get_or bs 6 0) 0 (λ z. omega arith), lt-ltb 3 (get_or bs 6 0) h)

  pub an-expected : two bs 4 ≡ 1 → step_of 5 6 bs ≡ Ok (Some (Expected (two bs 6) (two bs 8)))
  unfolding step_of
  an-expected e = rw e

  -- another code than 1
  pub other-code : (two bs 4 ≡ 1 → ⊥) → step_of 5 6 bs ≡ Err Unsound
  unfolding step_of
  other-code n = rw (ne_eqb (two bs 4) 1 n)

  -- none of the five
  pub no_record : (kind size : ℕ) → (kind ≡ 1 → size ≡ 2 → ⊥) → (kind ≡ 2 → size ≡ 0 → ⊥)
      → (kind ≡ 3 → size ≡ 3 → 0 < get_or bs 6 0 → get_or bs 6 0 ≤ 3 → ⊥) → (kind ≡ 4 → size ≡ 4 → ⊥)
      → (kind ≡ 5 → size ≡ 6 → two bs 4 ≡ 1 → ⊥)
      → step_of kind size bs ≡ Err Unsound
  unfolding step_of
  no_record kind size a b c d g =
      by-test Is (eqb kind 1) _ _ (λ k. other 2 _ (a (eqb-true kind 1 k))) (λ _.
      by-test Is (eqb kind 2) _ _ (λ k. other 0 _ (b (eqb-true kind 2 k))) (λ _.
      by-test Is (eqb kind 3) _ _
      (λ k. by-test Is (eqb size 3) _ _
      (λ z. by-test Is (eqb n 0) _ _ (λ _. refl) (λ m. by-test Is (ltb 3 n) _ _ (λ _. refl) (λ l. absurd (c (eqb-true kind 3 k) (eqb-true size 3 z) (omega (arith, eqb-false n 0 m)) (ltb-false 3 n l)))))
      (λ _. refl))
      (λ _. by-test Is (eqb kind 4) _ _ (λ k. other 4 _ (d (eqb-true kind 4 k))) (λ _.
      by-test Is (eqb kind 5) _ _
      (λ k. by-test Is (eqb size 6) _ _
      (λ z. by-test Is (eqb (two bs 4) 1) _ _ (λ o. absurd (g (eqb-true kind 5 k) (eqb-true size 6 z) (eqb-true (two bs 4) 1 o))) (λ _. refl))
      (λ _. refl))
      (λ _. refl)))))
    where
      n : ℕ
      n = get_or bs 6 0

      Is : Found → Type 0
      Is f = f ≡ Err Unsound

      other : (m : ℕ) (f : Found) → (size ≡ m → ⊥) → cond (eqb size m) f (Err Unsound) ≡ Err Unsound
      other m f z = rw (ne_eqb size m z)

-- ---- the record at a place, by its head

-- a token by its raw count
pub token-counted : (l : List ℕ) (at k n : ℕ) → k ≡ two l (at + 4) → n ≡ get_or l (at + 6) 0 → (n ≡ 0 → ⊥) → n ≤ 3 → Ok (Some (Token k n)) ≡ step_of 3 3 (drop at l)
token-counted l at k n e q z h = rw (e, ← two-drop l at 4) (sym (a-token (drop at l) n (q ∙ sym (get_or-drop at l 6 0)) z h))

-- an error with what was found by its code
module _ (l : List ℕ) (at : ℕ) where
  pub expected-coded : (k f : ℕ) → two l (at + 4) ≡ 1 → k ≡ two l (at + 6) → f ≡ two l (at + 8) → Ok (Some (Expected k f)) ≡ step_of 5 6 (drop at l)
  expected-coded k f o e q = rw (e, q, ← two-drop l at 6, ← two-drop l at 8) (sym (an-expected (drop at l) (two-drop l at 4 ∙ o)))

  pub expected-other : (two l (at + 4) ≡ 1 → ⊥) → Err Unsound ≡ step_of 5 6 (drop at l)
  expected-other n = sym (other-code (drop at l) (λ o. n (sym (two-drop l at 4) ∙ o)))

module _ (l : List ℕ) (at head : ℕ) (is : Head l at head) where
  abbrev Is : Found → Type 0
  Is f = f ≡ step_of (two l (at + 2)) (two l at) (drop at l)

  of : (k s : ℕ) (f : Found) → head / 65536 ≡ k → head % 65536 ≡ s → f ≡ step_of k s (drop at l) → Is f
  of k s f a b e = rw (is.kind, is.size, a, b) e

  pub enter-at : (k : ℕ) → head ≡ 65538 → k ≡ two l (at + 4) → Is (Ok (Some (Enter k)))
  unfolding step_of
  enter-at k h e = of 1 2 _ (rw h) (rw h) (rw (e, ← two-drop l at 4))

  pub leave-at : head ≡ 131072 → Is (Ok (Some Leave))
  unfolding step_of
  leave-at h = of 2 0 _ (rw h) (rw h) refl

  pub error-at : (c x : ℕ) → head ≡ 262148 → c ≡ two l (at + 4) → x ≡ two l (at + 6) → Is (Ok (Some (Error c x)))
  unfolding step_of
  error-at c x h e f = of 4 4 _ (rw h) (rw h) (rw (e, f, ← two-drop l at 4, ← two-drop l at 6))

  pub none-at : (head ≡ 65538 → ⊥) → (head ≡ 131072 → ⊥) → (head ≡ 196611 → ⊥) → (head ≡ 262148 → ⊥) → (head ≡ 327686 → ⊥) → Is (Err Unsound)
  none-at a b c d g =
      sym
      (no_record (drop at l) (two l (at + 2)) (two l at)
      (λ k s. a (omega (arith, is.kind, is.size)))
      (λ k s. b (omega (arith, is.kind, is.size)))
      (λ k s _ _. c (omega (arith, is.kind, is.size)))
      (λ k s. d (omega (arith, is.kind, is.size)))
      (λ k s _. g (omega (arith, is.kind, is.size))))

-- ---- the front of what is left at a place

pub at-end : (l : List ℕ) (at : ℕ) → length l ≤ at → front (drop at l) ≡ Ok None
unfolding front
at-end l at h = rw (drop_of_length-le l h)

module _ (l : List ℕ) (at : ℕ) (h : at < length l) where
  some_left : eqb (length (drop at l)) 0 ≡ false
  some_left = ne_eqb (length (drop at l)) 0 (λ z. omega (arith, length-drop at l))

  pub at_cut : length l - at < 4 + two l at → front (drop at l) ≡ Err Cut
  unfolding front
  at_cut g = rw (some_left, two-front l at, lt-ltb (length (drop at l)) (4 + two l at) (rw length-drop g))

  pub at-whole : 4 + two l at ≤ length l - at → front (drop at l) ≡ step_of (two l (at + 2)) (two l at) (drop at l)
  unfolding front
  at-whole g = rw (some_left, two-front l at, two-drop l at 2, le-ltb (length (drop at l)) (4 + two l at) (rw length-drop g))
