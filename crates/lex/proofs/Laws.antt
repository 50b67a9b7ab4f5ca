-- What the small tests come to. Assumes nothing.
use mathlib.Core.Path.{◌≡◌, refl}
use mathlib.Core.Bool.{Bool, true, false}
use Prim.Native.Nat.{ℕ, ◌+◌, ◌*◌, ◌/◌, ◌≤◌, ◌<◌}
use native.Mathlib.Omega.{arith}
use lib.Dec.{leb}
use borrow.Author.Tests.{leb-true, le-leb, lt-leb}
use Rattle.kinds.specs.Membership.{both}
use Rattle.laws.proofs.Tests.{apart}
use Rattle.lex.specs.Lexing.{fit}

-- rooms hold what fits
pub few_words : (all some kinds joints tokens : ℕ) → tokens < 2 * all → false ≡ fit all some kinds joints tokens
few_words all some kinds joints tokens h = rw (lt-leb (2 * all) tokens h)

pub few-kinds : (all some kinds joints tokens : ℕ) → 2 * all ≤ tokens → kinds < some → false ≡ fit all some kinds joints tokens
few-kinds all some kinds joints tokens g h = rw (le-leb (2 * all) tokens g, lt-leb some kinds h)

-- what fits is held
pub record Held (all some kinds joints tokens : ℕ) : Type 0 where
  pub words : 2 * all ≤ tokens
  pub numbers : some ≤ kinds
  pub bits : (some + 63) / 64 ≤ joints

parts : (a b : Bool) → both a b ≡ true → (a ≡ true) × (b ≡ true)
parts true b e = (refl, e)
parts false b e = apart e

pub held : (all some kinds joints tokens : ℕ) → fit all some kinds joints tokens ≡ true → Held all some kinds joints tokens
held all some kinds joints tokens e =
    let p : (leb (2 * all) tokens ≡ true) × (both (leb some kinds) (leb ((some + 63) / 64) joints) ≡ true) = parts (leb (2 * all) tokens) (both (leb some kinds) (leb ((some + 63) / 64) joints)) e in
    let q : (leb some kinds ≡ true) × (leb ((some + 63) / 64) joints ≡ true) = parts (leb some kinds) (leb ((some + 63) / 64) joints) p.1 in
    record { words = leb-true _ _ p.0; numbers = leb-true _ _ q.0; bits = leb-true _ _ q.1 }

-- fewer fit where more do
pub fewer : (all some kinds joints tokens all' some' : ℕ) → fit all some kinds joints tokens ≡ true → all' ≤ all → some' ≤ some → fit all' some' kinds joints tokens ≡ true
fewer all some kinds joints tokens all' some' e g h =
    let k : Held all some kinds joints tokens = held all some kinds joints tokens e in
    rw (le-leb (2 * all') tokens (omega (arith, k.words)), le-leb some' kinds (omega (arith, k.numbers)), le-leb ((some' + 63) / 64) joints (omega (arith, k.bits)))
