-- How many kinds a set of words holds, and how many a listing names. Assumes nothing.
use mathlib.Core.Path.{◌≡◌, refl, sym, ap, ap₂, subst, ◌∙◌}
use mathlib.Core.List.{List, [], ◌∷◌}
use mathlib.Core.Bool.{Bool, true, false, cond}
use Prim.Native.Nat.{ℕ, zero, suc, ◌+◌, ◌*◌, ◌/◌, ◌%◌, ◌^◌, ◌≤◌, ◌<◌}
use native.Mathlib.Omega.{arith}
use native.Mathlib.Numerals.{add-one}
use native.Mathlib.Nat.{add-zero, zero-add, suc-add, pow-succ', div-one, div-div-eq-div-mul}
use lib.Arith.{lt-one}
use lib.Count.{ones, ones_step}
use lib.Dec.{ltb, eqb}
use lib.ListN.{length, get_or}
use borrow.Author.Tests.{ltb-true, ltb-false, eqb-true, eqb-false, ne_eqb}
use Rattle.laws.proofs.Tests.{by-test, apart}
use Rattle.kinds.specs.Membership.{bit, one_of, once, count, number}
use Rattle.kinds.proofs.Laws.{no-bit}

-- ---- counts of any test

-- tests that agree below n hold of as many numbers below n
pub count-alike : (n : ℕ) (f g : ℕ → Bool) → ((k : ℕ) → k < n → f k ≡ g k) → count n f ≡ count n g
unfolding count
count-alike zero f g h = refl
count-alike (suc n) f g h = rw (h n (omega arith), count-alike n f g (λ k l. h k (omega (arith, l))))

-- the next number
pub count_next : (n : ℕ) (f : ℕ → Bool) → count (n + 1) f ≡ count n f + cond (f n) 1 0
unfolding count
count_next n f = ap (λ (x : ℕ). count x f) (add-one n) ∙ omega arith

-- no more than there are numbers
pub count-le : (n : ℕ) (f : ℕ → Bool) → count n f ≤ n
unfolding count
count-le zero f = omega arith
count-le (suc n) f = omega (arith, count-le n f, by-test (λ (x : ℕ). x ≤ 1) (f n) 1 0 (λ e. omega arith) (λ e. omega arith))

-- one that holds of nothing
count_none : (n : ℕ) (f : ℕ → Bool) → ((k : ℕ) → f k ≡ false) → count n f ≡ 0
unfolding count
count_none zero f h = refl
count_none (suc n) f h = rw (h n, count_none n f h)

-- the numbers from n on are counted apart
pub count-parts : (m n : ℕ) (f : ℕ → Bool) → count (m + n) f ≡ count m (λ k. f (k + n)) + count n f
unfolding count
count-parts zero n f = ap (λ (x : ℕ). count x f) (zero-add n) ∙ sym (zero-add (count n f))
count-parts (suc m) n f = ap (λ (x : ℕ). count x f) (suc-add m n) ∙ omega (arith, count-parts m n f)

-- the lowest number is counted apart
count_low : (n : ℕ) (f : ℕ → Bool) → count (suc n) f ≡ cond (f 0) 1 0 + count n (λ k. f (suc k))
unfolding count
count_low zero f = refl
count_low (suc n) f = omega (arith, count_low n f)

-- ---- the ones of a word

digit : (x : ℕ) → x < 2 → x ≡ cond (eqb x 1) 1 0
digit zero h = refl
digit (suc zero) h = refl
digit (suc (suc x)) h = absurd (omega arith)

-- a word of n digits has as many ones as it has bits
ones-count : (n w : ℕ) → w < 2 ^ n → ones w ≡ count n (λ i. eqb (w / 2 ^ i % 2) 1)
unfolding count ones
ones-count zero w h = ap ones (lt-one h)
ones-count (suc n) w h =
    let rest : ones (w / 2) ≡ count n (λ i. eqb (w / 2 ^ suc i % 2) 1) =
    ones-count n (w / 2) (omega (arith, subst (λ (x : ℕ). w < x) (pow-succ' 2 n) h))
    ∙ count-alike n _ _ (λ k l. ap (λ (x : ℕ). eqb (x % 2) 1) (div-div-eq-div-mul w 2 (2 ^ k) ∙ ap (λ (x : ℕ). w / x) (sym (pow-succ' 2 k)))) in
    let low : w % 2 ≡ cond (eqb (w / 2 ^ 0 % 2) 1) 1 0 = digit (w % 2) (omega arith) ∙ ap (λ (x : ℕ). cond (eqb (x % 2) 1) 1 0) (sym (div-one w)) in
    ones_step w ∙ ap₂ (λ (x y : ℕ). x + y) low rest ∙ sym (count_low n (λ i. eqb (w / 2 ^ i % 2) 1))

-- a word's bits, at their places among the words
word_count : (ws : List ℕ) (i : ℕ) → get_or ws i 0 < 2 ^ 64 → count 64 (λ k. bit ws (k + 64 * i)) ≡ ones (get_or ws i 0)
unfolding bit
word_count ws i h =
    count-alike 64 _ _ (λ k l.
    let word : (k + 64 * i) / 64 ≡ i = omega arith in
    let place : (k + 64 * i) % 64 ≡ k = omega arith in
    rw (word, place))
    ∙ sym (ones-count 64 (get_or ws i 0) h)

-- the ones of four words are as many as the kinds that they hold, and beyond them there is none
pub words_count : (ws : List ℕ) → length ws ≡ 4 → ((i : ℕ) → get_or ws i 0 < 2 ^ 64) → ones (get_or ws 0 0) + ones (get_or ws 1 0) + ones (get_or ws 2 0) + ones (get_or ws 3 0) ≡ number (bit ws)
words_count ws n h =
    let beyond : count 65280 (λ k. bit ws (k + 256)) ≡ 0 = count_none 65280 _ (λ k. no-bit ws (k + 256) (omega (arith, n))) in
    let first : count 64 (bit ws) ≡ count 64 (λ k. bit ws (k + 0)) = count-alike 64 _ _ (λ k l. ap (bit ws) (sym (add-zero k))) in
    omega (arith, beyond, first, count-parts 65280 256 (bit ws), count-parts 64 192 (bit ws), count-parts 64 128 (bit ws), count-parts 64 64 (bit ws), word_count ws 3 (h 3), word_count ws 2 (h 2), word_count ws 1 (h 1), word_count ws 0 (h 0))

-- ---- the kinds of a listing

-- one more number below n that the test did not hold of
count-more : (n x : ℕ) (f : ℕ → Bool) → x < n → f x ≡ false → count n (λ k. cond (eqb k x) true (f k)) ≡ suc (count n f)
unfolding count
count-more zero x f l h = absurd (omega arith)
count-more (suc n) x f l h = by (eqb n x) refl (λ m. count-more n x f m h)
  where
    by : (b : Bool) → eqb n x ≡ b → (x < n → count n (λ k. cond (eqb k x) true (f k)) ≡ suc (count n f)) → cond (cond (eqb n x) true (f n)) 1 0 + count n (λ k. cond (eqb k x) true (f k)) ≡ suc (cond (f n) 1 0 + count n f)
    by true e before =
        let at : f n ≡ false = ap f (eqb-true n x e) ∙ h in
        let rest : count n (λ k. cond (eqb k x) true (f k)) ≡ count n f =
        count-alike n _ _ (λ k l. rw (ne_eqb k x (λ d. omega (arith, eqb-true n x e)))) in
        rw (e, at, rest) (omega arith)
    by false e before = rw e (omega (arith, before (omega (arith, eqb-false n x e))))

-- naming a kind again changes nothing
again : (x : ℕ) (ks : List ℕ) → one_of ks x ≡ true → (k : ℕ) → one_of (x ∷ ks) k ≡ one_of ks k
unfolding one_of
again x ks h k = by (eqb k x) refl
  where
    by : (b : Bool) → eqb k x ≡ b → cond (eqb k x) true (one_of ks k) ≡ one_of ks k
    by true e = rw e (sym (ap (one_of ks) (eqb-true k x e) ∙ h))
    by false e = rw e

unnamed : (x : ℕ) (ks : List ℕ) (k : ℕ) → one_of (x ∷ ks) k ≡ false → (k ≡ x → ⊥) × (one_of ks k ≡ false)
unfolding one_of
unnamed x ks k h = by (eqb k x) refl h
  where
    by : (b : Bool) → eqb k x ≡ b → cond b true (one_of ks k) ≡ false → (k ≡ x → ⊥) × (one_of ks k ≡ false)
    by true e q = apart (sym q)
    by false e q = (eqb-false k x e, q)

-- a listing without numbers from n on holds as many kinds as it has names, each counted once
pub count-once : (n : ℕ) (ks : List ℕ) → ((k : ℕ) → n ≤ k → one_of ks k ≡ false) → count n (one_of ks) ≡ length (once ks)
unfolding one_of once
count-once n [] h = count_none n _ (λ k. refl)
count-once n (x ∷ ks) h = by (ltb x n) refl (one_of ks x) refl (count-once n ks (λ k l. (unnamed x ks k (h k l)).1))
  where
    by : (l : Bool) → ltb x n ≡ l → (b : Bool) → one_of ks x ≡ b → count n (one_of ks) ≡ length (once ks) → count n (one_of (x ∷ ks)) ≡ length (cond (one_of ks x) (once ks) (x ∷ once ks))
    by false l b e rest = absurd ((unnamed x ks x (h x (ltb-false x n l))).0 refl)
    by true l true e rest = rw e (count-alike n _ _ (λ k m. again x ks e k) ∙ rest)
    by true l false e rest = rw e (count-more n x (one_of ks) (ltb-true x n l) e ∙ ap suc rest)

-- four words that hold what is listed have as many ones as the listing has kinds
pub listed-count : (ws ks : List ℕ) → length ws ≡ 4 → bit ws ≡ one_of ks → number (bit ws) ≡ length (once ks)
listed-count ws ks n e =
    ap number e
    ∙ count-once 65536 ks (λ k l. sym (ap (λ (f : ℕ → Bool). f k) e) ∙ no-bit ws k (omega (arith, n)))
