-- One token after the other. Assumes nothing.
use mathlib.Core.Path.{◌≡◌}
use mathlib.Core.List.{List, [], ◌∷◌}
use Prim.Native.Nat.{ℕ, ◌-◌}
use native.Mathlib.Omega.{arith}
use lib.Seq.{take-length}
use lib.ListN.{length, take, drop, length-drop}
use Rattle.lexical.specs.Lexed.{token, coded, longest, lexed}
use Rattle.lexical.specs.Rules.{rules}
use Rattle.lexical.proofs.Theorem.{found, no_more}

pub none-left : (w : List ℕ) → length w ≡ 0 → lexed rules w ≡ []
none-left [] e = no_more
none-left (b ∷ w) e = absurd (omega (arith, e))

-- what is left behind n bytes, as a part of a slice
part : (w : List ℕ) (n : ℕ) → take (length w - n) (drop n w) ≡ drop n w
part w n = rw (← length-drop n w) (take-length (drop n w))

pub one-left : (w : List ℕ) {k m : ℕ} → (length w ≡ 0 → ⊥) → longest rules 0 w ≡ coded k m → lexed rules w ≡ token k m ∷ lexed rules (take (length w - m) (drop m w))
one-left w {k} {m} h e = rw part (found w k m (omega (arith, h)) e).more
