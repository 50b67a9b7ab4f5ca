-- A list that is well made passes the check. Assumes nothing.
use mathlib.Core.Path.{◌≡◌, refl, ap, ◌∙◌}
use mathlib.Core.Bool.{Bool, true, false, cond}
use mathlib.Core.List.{List, [], ◌∷◌}
use Prim.Native.Nat.{ℕ, zero, suc, ◌+◌, ◌*◌, ◌/◌, ◌%◌, ◌≤◌, min}
use native.Mathlib.Omega.{arith}
use lib.Dec.{eqb}
use lib.ListN.{length}
use borrow.Author.Tests.{eqb-true, eqb-false, le-ltb}
use Rattle.event.specs.declared.Event.{Event}
use Rattle.event.specs.declared.Event.TheVariants.{Start, Finish, Token, Error, NoEvent}
use Rattle.event.specs.Event.{words_of, is_start, distance}
use Rattle.event.proofs.Rooms.{length-words, events-words}
use Rattle.lists.specs.Answer.{says}
use Rattle.lists.specs.Check.{lands, next, scan, checked}
use Rattle.markers.proofs.Balance.{Balanced}
use Rattle.markers.proofs.Marks.{Marks, at, Links}
use Rattle.markers.proofs.Live.{Live}

-- each distance lands on a start behind it
abbrev pub Chain : List Event → Type 0
Chain [] = Unit {0}
Chain (v ∷ l) = (lands l (distance v) ≡ true) × Chain l

pub chained : (l : List Event) → Links l → Chain l
chained [] h = tt
chained (v ∷ l) h = (first (distance v) refl, chained l (record { lands = λ j n. rest j n }))
  where
    first : (d : ℕ) → distance v ≡ d → lands l d ≡ true
    first zero q = refl
    first (suc d) q =
        let s : is_start (at (v ∷ l) (0 + distance v)) ≡ true = h.lands 0 (λ z. omega arith) in
        let e : 0 + distance v ≡ suc d = omega arith in
        rw e at s

    rest : (j : ℕ) → (distance (at l j) ≡ 0 → ⊥) → is_start (at l (j + distance (at l j))) ≡ true
    rest j n =
        let s : is_start (at (v ∷ l) (suc j + distance (at l j))) ≡ true = h.lands (suc j) n in
        let e : suc j + distance (at l j) ≡ suc (j + distance (at l j)) = omega arith in
        rw e at s

deeper : (k o : ℕ) → o + min k 1 ≡ cond (eqb k 0) o (suc o)
deeper k o = by (eqb k 0) refl
  where
    by : (b : Bool) → eqb k 0 ≡ b → o + min k 1 ≡ cond b o (suc o)
    by true q = let e : k ≡ 0 = eqb-true k 0 q in omega arith
    by false q = let e : k ≡ 0 → ⊥ = eqb-false k 0 q in omega arith

-- a list that balances and whose distances land is scanned to its end
pub scan-passes : (l : List Event) (i o : ℕ) → Balanced o l 0 → Chain l → scan l i o ≡ says 0 (i + length l)
unfolding scan next
scan-passes [] i o b c = let e : i + 0 ≡ i = omega arith in rw (b, e)
scan-passes (Start k d ∷ l) i o b c = let e : i + suc (length l) ≡ suc i + length l = omega arith in rw (c.0, deeper k o, ← b.1, e) (scan-passes l (suc i) b.0 b.2 c.1)
scan-passes (Finish ∷ l) i o b c = let e : i + suc (length l) ≡ suc i + length l = omega arith in rw (b.1, e) (scan-passes l (suc i) b.0 b.2 c.1)
scan-passes (Token k n ∷ l) i o b c = let e : i + suc (length l) ≡ suc i + length l = omega arith in rw (← b.1, e) (scan-passes l (suc i) b.0 b.2 c.1)
scan-passes (Error k a f ∷ l) i o b c = let e : i + suc (length l) ≡ suc i + length l = omega arith in rw (← b.1, e) (scan-passes l (suc i) b.0 b.2 c.1)
scan-passes (NoEvent x y ∷ l) i o b c = absurd b.1

pub live-passes : (o : Marks) (l : List Event) → Live o l → length l ≤ 65536 → checked (words_of l) ≡ says 0 (length l)
unfolding checked
live-passes o l h few =
    let n : length (words_of l) ≡ length l * 2 = length-words l in
    let half : length (words_of l) / 2 ≡ length l = omega arith in
    let even : length (words_of l) % 2 ≡ 0 = omega arith in
    rw (half, le-ltb 65536 (length l) few, even, events-words l h.sounds) (scan-passes l 0 0 h.balance (chained l h.links) ∙ ap (says 0) (omega arith))
