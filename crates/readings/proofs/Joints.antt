-- Joint words, bit by bit: each bit that is put is there, and every other stays. Assumes nothing.
use mathlib.Core.Path.{◌≡◌, refl, sym, ap, ◌∙◌}
use mathlib.Core.Bool.{Bool, true, false, cond}
use mathlib.Core.List.{List, [], ◌∷◌}
use Prim.Native.Nat.{ℕ, zero, suc, ◌+◌, ◌-◌, ◌*◌, ◌/◌, ◌%◌, ◌^◌, ◌≤◌, ◌<◌}
use native.Mathlib.Nat.{mod-lt, mul-add-div_right, mul-add-mod_self_right, mul_assoc}
use native.Mathlib.Omega.{arith}
use lib.Dec.{eqb, ltb}
use lib.ListN.{length, get_or, set, length-set}
use lib.Seq.{get_or-set_same, get_or-set_other, set_out}
use lib.Pow.{pow_pos, pow-add, shr-shr, high, field, mod-mod-pow}
use borrow.Author.Tests.{eqb-true, eqb-false, ltb-true, ltb-false}
use Rattle.kinds.specs.Membership.{bit}
use Rattle.lex.specs.Lexing.{with_bit, put_bit, put_bits}

-- ---- one word

abbrev bit-of : ℕ → ℕ → Bool
bit-of w k = eqb (w / 2 ^ k % 2) 1

as-bit : (b : Bool) → eqb (cond b 1 0) 1 ≡ b
as-bit true = refl
as-bit false = refl

bit-low : (b : Bool) → cond b 1 0 ≤ 1
bit-low true = omega arith
bit-low false = omega arith

-- what is above a bit, with the bit
abbrev upper : ℕ → ℕ → Bool → ℕ
upper w j b = w / 2 ^ j / 2 * 2 + cond b 1 0

shifted : (w j : ℕ) (b : Bool) → with_bit w j b / 2 ^ j ≡ upper w j b
shifted w j b = high (upper w j b) j (mod-lt w (pow_pos j))

pub bit-put : (w j : ℕ) (b : Bool) → bit-of (with_bit w j b) j ≡ b
bit-put w j b =
    let e : upper w j b % 2 ≡ cond b 1 0 = omega (arith, bit-low b) in
    ap (λ (x : ℕ). eqb (x % 2) 1) (shifted w j b) ∙ ap (λ (x : ℕ). eqb x 1) e ∙ as-bit b

bit-above : (w j d : ℕ) (b : Bool) → with_bit w j b / 2 ^ (j + (1 + d)) ≡ w / 2 ^ (j + (1 + d))
bit-above w j d b =
    let half : upper w j b / 2 ≡ w / 2 ^ j / 2 = omega (arith, bit-low b) in
    sym (shr-shr (with_bit w j b) j (1 + d))
    ∙ ap (λ (x : ℕ). x / 2 ^ (1 + d)) (shifted w j b)
    ∙ sym (shr-shr (upper w j b) 1 d)
    ∙ ap (λ (x : ℕ). x / 2 ^ d) half
    ∙ shr-shr (w / 2 ^ j) 1 d
    ∙ shr-shr w j (1 + d)

bit_below : (w d k : ℕ) (b : Bool) → with_bit w ((d + 1) + k) b / 2 ^ k % 2 ≡ w / 2 ^ k % 2
bit_below w d k b =
    ap (λ (x : ℕ). (x + w % 2 ^ ((d + 1) + k)) / 2 ^ k % 2) (ap (λ (x : ℕ). upper w ((d + 1) + k) b * x) (pow-add 2 (d + 1) k) ∙ sym (mul_assoc (upper w ((d + 1) + k) b) (2 ^ (d + 1)) (2 ^ k)))
    ∙ ap (λ (x : ℕ). x % 2) (mul-add-div_right (pow_pos k) (upper w ((d + 1) + k) b * 2 ^ (d + 1)) (w % 2 ^ ((d + 1) + k)))
    ∙ ap (λ (x : ℕ). (upper w ((d + 1) + k) b * 2 ^ (d + 1) + x) % 2) (field w (d + 1) k)
    ∙ ap (λ (x : ℕ). (x + w / 2 ^ k % 2 ^ (d + 1)) % 2) (ap (λ (x : ℕ). upper w ((d + 1) + k) b * x) (pow-add 2 d 1) ∙ sym (mul_assoc (upper w ((d + 1) + k) b) (2 ^ d) 2))
    ∙ mul-add-mod_self_right (upper w ((d + 1) + k) b * 2 ^ d) 2 (w / 2 ^ k % 2 ^ (d + 1))
    ∙ mod-mod-pow (w / 2 ^ k) d 1

pub bit-stays : (w j k : ℕ) (b : Bool) → (k ≡ j → ⊥) → bit-of (with_bit w j b) k ≡ bit-of w k
bit-stays w j k b n = by (ltb k j) refl
  where
    by : (t : Bool) → ltb k j ≡ t → bit-of (with_bit w j b) k ≡ bit-of w k
    by true e =
        let q : (j - k - 1 + 1) + k ≡ j = omega (arith, ltb-true k j e) in
        ap (λ (x : ℕ). eqb x 1) (rw q at (bit_below w (j - k - 1) k b))
    by false e =
        let l : j < k = by-ne (ltb-false k j e) in
        let q : j + (1 + (k - j - 1)) ≡ k = omega (arith, l) in
        ap (λ (x : ℕ). eqb (x % 2) 1) (rw q at (bit-above w j (k - j - 1) b))
      where
        by-ne : j ≤ k → j < k
        by-ne h = on (eqb k j) refl
          where
            on : (t : Bool) → eqb k j ≡ t → j < k
            on true z = absurd (n (eqb-true k j z))
            on false z = omega (arith, h, eqb-false k j z)

-- ---- words

pub put-length : (ws : List ℕ) (i : ℕ) (b : Bool) → length (put_bit ws i b) ≡ length ws
put-length ws i b = length-set ws (i / 64) (with_bit (get_or ws (i / 64) 0) (i % 64) b)

pub put-there : (ws : List ℕ) (i : ℕ) (b : Bool) → i / 64 < length ws → bit (put_bit ws i b) i ≡ b
unfolding bit
put-there ws i b h =
    ap (λ (x : ℕ). bit-of x (i % 64)) (get_or-set_same ws (i / 64) (with_bit (get_or ws (i / 64) 0) (i % 64) b) 0 h)
    ∙ bit-put (get_or ws (i / 64) 0) (i % 64) b

pub put-stays : (ws : List ℕ) (i k : ℕ) (b : Bool) → (k ≡ i → ⊥) → bit (put_bit ws i b) k ≡ bit ws k
unfolding bit
put-stays ws i k b n = by (eqb (k / 64) (i / 64)) refl (ltb (i / 64) (length ws)) refl
  where
    by : (t : Bool) → eqb (k / 64) (i / 64) ≡ t → (s : Bool) → ltb (i / 64) (length ws) ≡ s → bit-of (get_or (set ws (i / 64) (with_bit (get_or ws (i / 64) 0) (i % 64) b)) (k / 64) 0) (k % 64) ≡ bit-of (get_or ws (k / 64) 0) (k % 64)
    by true e true h =
        let q : k / 64 ≡ i / 64 = eqb-true (k / 64) (i / 64) e in
        rw q
        (ap (λ (x : ℕ). bit-of x (k % 64)) (get_or-set_same ws (i / 64) (with_bit (get_or ws (i / 64) 0) (i % 64) b) 0 (ltb-true (i / 64) (length ws) h))
        ∙ bit-stays (get_or ws (i / 64) 0) (i % 64) (k % 64) b (λ z. n (omega (arith, q, z))))
    by true e false h =
        ap (λ (l : List ℕ). bit-of (get_or l (k / 64) 0) (k % 64)) (set_out ws (i / 64) (with_bit (get_or ws (i / 64) 0) (i % 64) b) (ltb-false (i / 64) (length ws) h))
    by false e s h =
        ap (λ (x : ℕ). bit-of x (k % 64)) (get_or-set_other ws (i / 64) (k / 64) (with_bit (get_or ws (i / 64) 0) (i % 64) b) 0 (eqb-false (k / 64) (i / 64) e))

-- ---- some bits

pub bits-length : (i : ℕ) (bs : List Bool) (ws : List ℕ) → length (put_bits i bs ws) ≡ length ws
unfolding put_bits
bits-length i [] ws = refl
bits-length i (b ∷ bs) ws = bits-length (suc i) bs (put_bit ws i b) ∙ put-length ws i b

-- a bit before the first or behind the last stays
pub bits-before : (i : ℕ) (bs : List Bool) (ws : List ℕ) (k : ℕ) → k < i → bit (put_bits i bs ws) k ≡ bit ws k
unfolding put_bits
bits-before i [] ws k h = refl
bits-before i (b ∷ bs) ws k h = bits-before (suc i) bs (put_bit ws i b) k (omega (arith, h)) ∙ put-stays ws i k b (λ z. omega (arith, h, z))

pub bits-behind : (i : ℕ) (bs : List Bool) (ws : List ℕ) (k : ℕ) → i + length bs ≤ k → bit (put_bits i bs ws) k ≡ bit ws k
unfolding put_bits
bits-behind i [] ws k h = refl
bits-behind i (b ∷ bs) ws k h = bits-behind (suc i) bs (put_bit ws i b) k (omega (arith, h)) ∙ put-stays ws i k b (λ z. omega (arith, h, z))

-- and each that is put is there
pub bits-there : (i : ℕ) (bs : List Bool) (ws : List ℕ) (k : ℕ) → k < length bs → (i + length bs + 63) / 64 ≤ length ws → bit (put_bits i bs ws) (i + k) ≡ get_or bs k false
unfolding put_bits
bits-there i [] ws k h l = absurd (omega arith)
bits-there i (b ∷ bs) ws zero h l =
    let e : i + zero ≡ i = omega arith in
    rw e (bits-before (suc i) bs (put_bit ws i b) i (omega arith) ∙ put-there ws i b (omega (arith, l)))
bits-there i (b ∷ bs) ws (suc k) h l =
    let e : i + suc k ≡ suc i + k = omega arith in
    rw e (bits-there (suc i) bs (put_bit ws i b) k (omega (arith, h)) (omega (arith, l, put-length ws i b)))

-- THE BITS from the first on
pub bits_put : (bs : List Bool) (ws : List ℕ) (i : ℕ) → i < length bs → (length bs + 63) / 64 ≤ length ws → bit (put_bits 0 bs ws) i ≡ get_or bs i false
bits_put bs ws i h l =
    let e : 0 + i ≡ i = omega arith in
    rw e at (bits-there 0 bs ws i h (omega (arith, l)))

pub bits-kept : (bs : List Bool) (ws : List ℕ) (i : ℕ) → length bs ≤ i → bit (put_bits 0 bs ws) i ≡ bit ws i
bits-kept bs ws i h = bits-behind 0 bs ws i (omega (arith, h))
