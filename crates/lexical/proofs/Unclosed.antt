-- Where no `*/` follows, a comment is never closed: the scan may stop. Assumes nothing.
use mathlib.Core.Path.{◌≡◌, refl, ◌∙◌}
use mathlib.Core.Bool.{Bool, true, false}
use mathlib.Core.List.{List, [], ◌∷◌}
use Prim.Native.Nat.{ℕ, zero, suc, ◌<◌}
use native.Mathlib.Omega.{arith}
use lib.Dec.{eqb}
use lib.ListN.{get_or}
use borrow.Author.Tests.{eqb-true, eqb-false}
use Rattle.lexical.specs.Regular.{pick}
use Rattle.lexical.specs.Lexed.{nothing, longest}
use Rattle.lexical.specs.Table.{class-list, next-rows, row_of, next, kind-of, body, stars, closed}
use Rattle.lexical.proofs.Right.{left, at-end, one_byte}

-- ---- where the table goes in a comment: a test over all bytes

unfoldable each : (ℕ → ℕ) → ℕ → List ℕ
each f zero = []
each f (suc n) = f n ∷ each f n

at : (f g : ℕ → ℕ) (n : ℕ) → each f n ≡ each g n → (k : ℕ) → k < n → f k ≡ g k
unfolding each
at f g zero e k h = absurd (omega arith)
at f g (suc n) e k h = by (eqb k n) refl (at f g n (cc))
  where
    last : f n ≡ g n
    last = cc

    by : (x : Bool) → eqb k n ≡ x → ((k : ℕ) → k < n → f k ≡ g k) → f k ≡ g k
    by true t more = rw (eqb-true k n t) last
    by false t more = more k (omega (arith, eqb-false k n t))

abbrev from-body : ℕ → ℕ
from-body b = pick (eqb b 42) stars body

abbrev from-stars : ℕ → ℕ
from-stars b = pick (eqb b 42) stars (pick (eqb b 47) closed body)

body-next : each (next body) 256 ≡ each from-body 256
unfolding each next row_of class-list next-rows
body-next = refl

stars-next : each (next stars) 256 ≡ each from-stars 256
unfolding each next row_of class-list next-rows
stars-next = refl

no_kind : (kind-of body ≡ 0) × (kind-of stars ≡ 0)
unfolding kind-of row_of next-rows
no_kind = (refl, refl)

-- ---- no token is found any more

abbrev pub Bytes : List ℕ → Type 0
Bytes w = (k : ℕ) → get_or w k 0 < 256

abbrev pub Lost : ℕ → List ℕ → Type 0
Lost s w = (n : ℕ) → longest (left s) n w ≡ nothing

abbrev pub NoPair : List ℕ → Type 0
NoPair w = (k : ℕ) → get_or w k 0 ≡ 42 → get_or w (suc k) 0 ≡ 47 → ⊥

-- a byte leads to a state that accepts nothing, and from there nothing is found
lost : (s s' b : ℕ) (w : List ℕ) → b < 256 → next s b ≡ s' → kind-of s' ≡ 0 → Lost s' w → Lost s (b ∷ w)
lost s s' b w hb e z h n = one_byte s n b w hb ∙ rw (e, z, h (suc n))

pub unclosed : (w : List ℕ) → Bytes w → (NoPair w → Lost body w) × (NoPair (42 ∷ w) → Lost stars w)
unclosed [] hb = (λ h n. at-end (left body) n, λ h n. at-end (left stars) n)
unclosed (b ∷ w) hb = by (eqb b 42) (eqb b 47) refl refl (unclosed w (λ k. hb (suc k)))
  where
    to-body : next body b ≡ from-body b
    to-body = at (next body) from-body 256 body-next b (hb 0)

    to-stars : next stars b ≡ from-stars b
    to-stars = at (next stars) from-stars 256 stars-next b (hb 0)

    by : (x y : Bool) → eqb b 42 ≡ x → eqb b 47 ≡ y → (NoPair w → Lost body w) × (NoPair (42 ∷ w) → Lost stars w) → (NoPair (b ∷ w) → Lost body (b ∷ w)) × (NoPair (42 ∷ b ∷ w) → Lost stars (b ∷ w))
    by true y e f h =
        let is : b ≡ 42 = eqb-true b 42 e in (
          λ g. lost body stars b w (hb 0) (to-body ∙ rw e) no_kind.1 (h.1 (rw is at g)),
          λ g. let rest : NoPair (b ∷ w) = λ k. g (suc k) in lost stars stars b w (hb 0) (to-stars ∙ rw e) no_kind.1 (h.1 (rw is at rest)),
        )
    by false true e f h = (
      λ g. lost body body b w (hb 0) (to-body ∙ rw e) no_kind.0 (h.0 (λ k. g (suc k))),
      λ g. absurd (g 0 refl (eqb-true b 47 f)),
    )
    by false false e f h = (
      λ g. lost body body b w (hb 0) (to-body ∙ rw e) no_kind.0 (h.0 (λ k. g (suc k))),
      λ g. lost stars body b w (hb 0) (to-stars ∙ rw (e, f)) no_kind.0 (h.0 (λ k. g (suc (suc k)))),
    )
