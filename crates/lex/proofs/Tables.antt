-- The table that the code reads is the one that is held to the rules. Assumes nothing.
use mathlib.Core.Path.{◌≡◌, refl, ◌∙◌}
use Prim.Native.Nat.{ℕ, ◌+◌, ◌/◌, ◌%◌, ◌<◌}
use native.Mathlib.Omega.{arith}
use lib.ListN.{get_or}
use Rattle.lexical.specs.Table.{kind-class, class-list, next-list, part, next, kind-of, State, Table}
use Rattle.lexical.proofs.Looked.{class-read, next-read, kind-read, state-below}
use Rattle.lex.specs.declared.table.TheConstants.{CLASSES, NEXTS}

the-table : Table CLASSES NEXTS
unfolding class-list next-list
the-table = record { classes-are = refl; nexts-are = refl }

module _ {s b x y : ℕ} (hs : State s) (hb : x < 256) (p : x ≡ b) (q : y ≡ get_or CLASSES x 0) where
  pub inside : s + y / 4 < 5510
  inside =
      let small : y < kind-class = class-read the-table.classes-are the-table.nexts-are hs p hb q in
      omega (arith, small, state-below hs)

  pub turned : (z u : ℕ) → u ≡ part (get_or NEXTS (s + y / 4) 0) (y % 4) → z ≡ u → (z ≡ next s b) × State z
  turned z u r e = next-read the-table.classes-are the-table.nexts-are hs p hb q z (e ∙ r)

pub kind-is : {s z : ℕ} → State s → z ≡ part (get_or NEXTS (s + 18) 0) 2 → z ≡ kind-of s
kind-is hs r = r ∙ kind-read the-table.nexts-are hs
