-- Words against listings, and the bits of a union. Assumes nothing.
use mathlib.Core.Path.{◌≡◌, refl, sym, ◌∙◌}
use mathlib.Core.List.{List, [], ◌∷◌}
use mathlib.Core.Bool.{Bool, true, false, cond}
use Prim.Native.Nat.{ℕ, zero, suc, ◌*◌, ◌/◌, ◌%◌, ◌^◌, ◌≤◌, ◌<◌, max}
use native.Mathlib.Nat.{zero-div}
use native.Mathlib.Omega.{arith}
use lib.Arith.{digits_mod}
use lib.Bits.{bit_or, or_step, or_shr}
use lib.Dec.{T, ltb, eqb, ltb→lt}
use lib.ListN.{length, get_or, get_or-eq_default}
use borrow.Author.Tests.{ltb-true, ltb-false, eqb-true, eqb-false, ne_eqb}
use Rattle.kinds.specs.Membership.{both, bit, one_of, either}

-- two functions that agree everywhere are equal
everywhere : {f g : ℕ → Bool} → ((k : ℕ) → f k ≡ g k) → f ≡ g
everywhere h = λ i k. h k i

-- beyond the words every bit is 0
pub no-bit : (ws : List ℕ) (i : ℕ) → length ws ≤ i / 64 → bit ws i ≡ false
unfolding bit
no-bit ws i h = rw (get_or-eq_default ws 0 h, zero-div (2 ^ (i % 64)))

-- the bit of a kind stands in its word
pub bit_in : (ws : List ℕ) (i k : ℕ) {b : Bool} → k / 64 ≡ i → b ≡ eqb (get_or ws i 0 / 2 ^ (k % 64) % 2) 1 → b ≡ bit ws k
unfolding bit
bit_in ws i k h e = rw h e

-- ---- the computed test: words of 64 bits hold exactly the kinds that are listed

pub both-parts : (a b : Bool) → T (both a b) → T a × T b
both-parts true b t = (tt, t)
both-parts false b t = absurd t

abbrev pub same : Bool → Bool → Bool
same true b = b
same false b = cond b false true

same-eq : (a b : Bool) → T (same a b) → a ≡ b
same-eq true true t = refl
same-eq true false t = absurd t
same-eq false true t = absurd t
same-eq false false t = refl

-- every kind below n has its bit where a test holds, and nowhere else
unfoldable pub agree : ℕ → List ℕ → (ℕ → Bool) → Bool
agree zero ws f = true
agree (suc n) ws f = both (same (bit ws n) (f n)) (agree n ws f)

-- every listed kind is below n
unfoldable pub below : ℕ → List ℕ → Bool
below n [] = true
below n (k ∷ ks) = both (ltb k n) (below n ks)

pub agreed : (n : ℕ) (ws : List ℕ) (f : ℕ → Bool) → T (agree n ws f) → (k : ℕ) → k < n → bit ws k ≡ f k
unfolding agree
agreed zero ws f t k h = absurd (omega arith)
agreed (suc n) ws f t k h = by (eqb k n) refl (agreed n ws f (both-parts (same (bit ws n) (f n)) (agree n ws f) t).1 k)
  where
    by : (b : Bool) → eqb k n ≡ b → (k < n → bit ws k ≡ f k) → bit ws k ≡ f k
    by true e before = rw (eqb-true k n e) (same-eq _ _ (both-parts (same (bit ws n) (f n)) (agree n ws f) t).0)
    by false e before = before (omega (arith, eqb-false k n e))

pub unlisted : (n : ℕ) (ks : List ℕ) → T (below n ks) → (k : ℕ) → n ≤ k → one_of ks k ≡ false
unfolding below one_of
unlisted n [] t k h = refl
unlisted n (x ∷ ks) t k h =
    let parts : T (ltb x n) × T (below n ks) = both-parts (ltb x n) (below n ks) t in
    rw (ne_eqb k x (λ e. omega (arith, ltb→lt x n parts.0))) (unlisted n ks parts.1 k h)

-- words that agree with a listing below their last bit hold exactly the listed kinds
pub exactly : (ws ks : List ℕ) → T (both (below (64 * length ws) ks) (agree (64 * length ws) ws (one_of ks))) → bit ws ≡ one_of ks
exactly ws ks t = everywhere (λ k. by k (ltb k (64 * length ws)) refl)
  where
    parts : T (below (64 * length ws) ks) × T (agree (64 * length ws) ws (one_of ks))
    parts = both-parts (below (64 * length ws) ks) (agree (64 * length ws) ws (one_of ks)) t

    by : (k : ℕ) (b : Bool) → ltb k (64 * length ws) ≡ b → bit ws k ≡ one_of ks k
    by k true e = agreed _ ws (one_of ks) parts.1 k (ltb-true _ _ e)
    by k false e =
        no-bit ws k (omega (arith, ltb-false k (64 * length ws) e))
        ∙ sym (unlisted _ ks parts.0 k (ltb-false _ _ e))

-- ---- the bits of a union

-- the larger of two digits is 1 where one of them is
digit_or : (x y : ℕ) → x < 2 → y < 2 → (max x y < 2) × (eqb (max x y) 1 ≡ cond (eqb x 1) true (eqb y 1))
digit_or zero zero hx hy = (omega arith, refl)
digit_or zero (suc zero) hx hy = (omega arith, refl)
digit_or (suc zero) zero hx hy = (omega arith, refl)
digit_or (suc zero) (suc zero) hx hy = (omega arith, refl)
digit_or (suc (suc x)) y hx hy = absurd (omega arith)
digit_or zero (suc (suc y)) hx hy = absurd (omega arith)
digit_or (suc zero) (suc (suc y)) hx hy = absurd (omega arith)

odd-or : (a b : ℕ) → eqb (bit_or a b % 2) 1 ≡ cond (eqb (a % 2) 1) true (eqb (b % 2) 1)
odd-or a b =
    let digits : (max (a % 2) (b % 2) < 2) × (eqb (max (a % 2) (b % 2)) 1 ≡ cond (eqb (a % 2) 1) true (eqb (b % 2) 1)) = digit_or (a % 2) (b % 2) (omega arith) (omega arith) in
    rw (or_step a b, digits_mod _ digits.0) digits.1

-- words that are the `or` of two sets' words hold the kinds of either
pub or-bit : (xs ys os : List ℕ) → ((i : ℕ) → get_or os i 0 ≡ bit_or (get_or xs i 0) (get_or ys i 0)) → bit os ≡ either (bit xs) (bit ys)
unfolding bit
or-bit xs ys os h =
    everywhere (λ k. rw (h (k / 64), or_shr) (odd-or (get_or xs (k / 64) 0 / 2 ^ (k % 64)) (get_or ys (k / 64) 0 / 2 ^ (k % 64))))

-- the `or` of four words, word by word
pub four-words : (xs ys : List ℕ) → length xs ≡ 4 → length ys ≡ 4 → (i : ℕ) → get_or (bit_or (get_or xs 0 0) (get_or ys 0 0) ∷ bit_or (get_or xs 1 0) (get_or ys 1 0) ∷ bit_or (get_or xs 2 0) (get_or ys 2 0) ∷ bit_or (get_or xs 3 0) (get_or ys 3 0) ∷ []) i 0 ≡ bit_or (get_or xs i 0) (get_or ys i 0)
four-words xs ys m n zero = refl
four-words xs ys m n (suc zero) = refl
four-words xs ys m n (suc (suc zero)) = refl
four-words xs ys m n (suc (suc (suc zero))) = refl
four-words xs ys m n (suc (suc (suc (suc i)))) =
    rw (get_or-eq_default xs 0 {n = suc (suc (suc (suc i)))} (omega arith), get_or-eq_default ys 0 {n = suc (suc (suc (suc i)))} (omega arith))
