-- A text has one reading. Assumes nothing.
use mathlib.Core.Path.{◌≡◌, refl, sym, ap, subst, ◌∙◌}
use mathlib.Core.Bool.{Bool, true, false}
use mathlib.Core.List.{List, [], ◌∷◌}
use mathlib.Core.Logic.{inl, inr}
use Prim.Native.Nat.{ℕ, ◌≤◌}
use native.Mathlib.Omega.{arith}
use lib.Dec.{ltb}
use lib.ListN.{length, take, drop}
use borrow.Author.Tests.{ltb-true, ltb-false}
use Rattle.lexical.specs.Lexed.{Rule, Token, nothing, token, NoRule, FirstRule, Longest, Tiles, lexed}
use Rattle.lexical.specs.Rules.{rules}
use Rattle.lexical.proofs.Theorem.{lexed-right}
use Rattle.readings.specs.Readings.{Reading}

some_or_none : (rs : List Rule) (k : ℕ) (w : List ℕ) → FirstRule rs k w → NoRule rs w → ⊥
some_or_none [] k w f n = f
some_or_none (r ∷ rs) k w (inl p) n = n.0 p.1
some_or_none (r ∷ rs) k w (inr p) n = some_or_none rs k w p.1 n.1

first_one : (rs : List Rule) (k j : ℕ) (w : List ℕ) → FirstRule rs k w → FirstRule rs j w → k ≡ j
first_one [] k j w f g = absurd f
first_one (r ∷ rs) k j w (inl p) (inl q) = sym p.0 ∙ q.0
first_one (r ∷ rs) k j w (inl p) (inr q) = absurd (q.0 p.1)
first_one (r ∷ rs) k j w (inr p) (inl q) = absurd (p.0 q.1)
first_one (r ∷ rs) k j w (inr p) (inr q) = first_one rs k j w p.1 q.1

no_longer : (rs : List Rule) (w : List ℕ) (k n j m : ℕ) → Longest rs w k n → Longest rs w j m → m ≤ n
no_longer rs w k n j m a b = by (ltb n m) refl
  where
    by : (t : Bool) → ltb n m ≡ t → m ≤ n
    by true e = absurd (some_or_none rs j (take m w) b.first (a.none-longer m (ltb-true n m e) b.fits))
    by false e = ltb-false n m e

-- the longest token of the first rule is one
pub longest-one : (rs : List Rule) (w : List ℕ) (k n j m : ℕ) → Longest rs w k n → Longest rs w j m → (k ≡ j) × (n ≡ m)
longest-one rs w k n j m a b =
    let e : n ≡ m = omega (arith, no_longer rs w k n j m a b, no_longer rs w j m k n b a) in
    (first_one rs k j (take n w) a.first (subst (λ (x : ℕ). FirstRule rs j (take x w)) (sym e) b.first), e)

-- THE THEOREM: two readings of a text are the same, whatever the rules
pub tiles-one : (rs : List Rule) (w : List ℕ) (ts us : List Token) → Tiles rs w ts → Tiles rs w us → ts ≡ us
tiles-one rs w [] [] a b = refl
tiles-one rs w [] (nothing ∷ us) a b = absurd b
tiles-one rs w [] (token j m ∷ us) a b = absurd (omega (arith, ap length a, b.0.some, b.0.fits))
tiles-one rs w (nothing ∷ ts) us a b = absurd a
tiles-one rs w (token k n ∷ ts) [] a b = absurd (omega (arith, ap length b, a.0.some, a.0.fits))
tiles-one rs w (token k n ∷ ts) (nothing ∷ us) a b = absurd b
tiles-one rs w (token k n ∷ ts) (token j m ∷ us) a b =
    let e : (k ≡ j) × (n ≡ m) = longest-one rs w k n j m a.0 b.0 in
    let more : ts ≡ us = tiles-one rs (drop n w) ts us a.1 (subst (λ (x : ℕ). Tiles rs (drop x w) us) (sym e.1) b.1) in
    λ i. token (e.0 i) (e.1 i) ∷ more i

-- so a text reads as its tokens that are computed, and as no others
pub one-reading : (text : List ℕ) (ts : List Token) → Reading text ts → ts ≡ lexed rules text
one-reading text ts t = tiles-one rules text ts (lexed rules text) t (lexed-right text)
