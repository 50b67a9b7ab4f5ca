-- The arithmetic of one bit in a word. Assumes nothing.
use mathlib.Core.Path.{◌≡◌, refl, ap, ◌∙◌}
use mathlib.Core.Bool.{Bool, true, false, cond}
use Prim.Native.Nat.{ℕ, zero, ◌+◌, ◌-◌, ◌*◌, ◌/◌, ◌%◌, ◌^◌, ◌≤◌, ◌<◌}
use native.Mathlib.Nat.{one-mul, zero-mul, mod-lt, one-le-pow}
use native.Mathlib.Omega.{arith}
use lib.Bits.{bit_and, bit_or, or_zero_r}
use lib.Pow.{shl_exact}
use mir.Syntax.{w64}
use mir.Val.{bool_byte}
use Rattle.std.proofs.Math.Nat.{add-mul}
use Rattle.std.proofs.lemmas.Nat.{and_comm, and-not, or_disjoint}
use Rattle.std.proofs.lemmas.Nat.Bits.{and_pow, bit_at_clear_same}
use Rattle.lex.specs.Lexing.{with_bit}

-- a bit as a number
bit_is : (b : Bool) → bool_byte b ≡ cond b 1 0
bit_is true = refl
bit_is false = refl

pub bit-small : (b : Bool) → bool_byte b ≤ 1
bit-small true = omega arith
bit-small false = omega arith

module _ (w j : ℕ) (hj : j < 64) (hw : w < 18446744073709551616) where
  abbrev one : ℕ
  one = 1 * 2 ^ j % 18446744073709551616

  one-is : one ≡ 2 ^ j
  one-is = shl_exact {a = 1} 1 j 64 (omega arith) (omega arith) ∙ one-mul (2 ^ j)

  -- the word without its bit
  abbrev kept : ℕ
  kept = bit_and w (18446744073709551615 - one)

  kept-and : kept + w / 2 ^ j % 2 * 2 ^ j ≡ w
  kept-and =
      let a : bit_and (18446744073709551615 - one) w + bit_and one w ≡ w = and-not 64 one w (mod-lt (1 * 2 ^ j) (omega arith)) hw in
      let c : bit_and one w ≡ w / 2 ^ j % 2 * 2 ^ j = rw one-is (and_comm (2 ^ j) w ∙ and_pow w j) in
      omega (arith, a, c, and_comm w (18446744073709551615 - one))

  kept-is : kept ≡ w / 2 ^ j / 2 * 2 * 2 ^ j + w % 2 ^ j
  kept-is =
      let halves : w / 2 ^ j / 2 * 2 + w / 2 ^ j % 2 ≡ w / 2 ^ j = omega arith in
      let times : w / 2 ^ j * 2 ^ j ≡ w / 2 ^ j / 2 * 2 * 2 ^ j + w / 2 ^ j % 2 * 2 ^ j = rw (← add-mul (w / 2 ^ j / 2 * 2) (w / 2 ^ j % 2) (2 ^ j), halves) in
      let some : 0 < 2 ^ j = omega (arith, one-le-pow j 2 (omega arith)) in
      let whole : w / 2 ^ j * 2 ^ j + w % 2 ^ j ≡ w = omega (arith, some) in
      omega (arith, kept-and, times, whole)

  put : (b : Bool) → bit_or kept (bool_byte b * 2 ^ j % 18446744073709551616) ≡ kept + bool_byte b * 2 ^ j
  put true =
      let clear : bit_and kept one ≡ zero = ap (λ (x : ℕ). bit_and kept x) one-is ∙ and_pow kept j ∙ ap (λ (x : ℕ). x * 2 ^ j) (bit_at_clear_same w64 w j hj) ∙ zero-mul (2 ^ j) in
      or_disjoint kept one clear ∙ ap (λ (x : ℕ). kept + x) (shl_exact {a = 1} 1 j 64 (omega arith) (omega arith))
  put false = let none : 0 * 2 ^ j ≡ 0 = zero-mul (2 ^ j) in rw none (or_zero_r kept ∙ omega arith)

  pub result-is : (b : Bool) → bit_or kept (bool_byte b * 2 ^ j % 18446744073709551616) ≡ with_bit w j b
  result-is b =
      let both : (w / 2 ^ j / 2 * 2 + cond b 1 0) * 2 ^ j ≡ w / 2 ^ j / 2 * 2 * 2 ^ j + cond b 1 0 * 2 ^ j = add-mul (w / 2 ^ j / 2 * 2) (cond b 1 0) (2 ^ j) in
      let is : bool_byte b * 2 ^ j ≡ cond b 1 0 * 2 ^ j = ap (λ (x : ℕ). x * 2 ^ j) (bit_is b) in
      put b ∙ omega (arith, kept-is, both, is)
