-- What two words say by their tag: an event, a start, and its distance.
-- Assumes nothing.
use Prim.Native.Nat.{ℕ, ◌/◌, ◌%◌, ◌≤◌, ◌<◌}
use native.Mathlib.Omega.{arith}
use mathlib.Core.Path.{◌≡◌, refl, sym, ◌∙◌}
use mathlib.Core.Bool.{Bool, true, false}
use lib.Dec.{eqb}
use borrow.Author.Tests.{eqb-true, eqb-false}
use Rattle.event.specs.declared.Event.{Event}
use Rattle.event.specs.declared.Event.TheVariants.{Start, NoEvent}
use Rattle.event.specs.Event.{decode, distance}
use Rattle.laws.proofs.Tests.{by-test}
use Rattle.event.proofs.Encoding.{say-start, say-other}
use Rattle.own.specs.Own.{cost}
use Rattle.own.proofs.Writes.{enter-le}
use Rattle.own.specs.Inside.{Say}

-- a first word that says an event has a tag from 1 to 4
Range : ℕ → ℕ → Event → Type 0
Range a b e = (e ≡ NoEvent a b → ⊥) → (65536 ≤ a) × (a < 327680)

tagged : (a b t : ℕ) (e : Event) → 0 < t → t < 5 → eqb (a / 65536) t ≡ true → Range a b e
unfolding Range
tagged a b t e h l q n = (omega (arith, eqb-true (a / 65536) t q), omega (arith, eqb-true (a / 65536) t q))

pub say-range : (a b : ℕ) → Say a b → (65536 ≤ a) × (a < 327680)
unfolding Range decode
say-range a b =
    by-test (Range a b) (eqb (a / 65536) 1) _ _ (tagged a b 1 _ (omega arith) (omega arith)) λ _.
    by-test (Range a b) (eqb (a / 65536) 2) _ _ (tagged a b 2 _ (omega arith) (omega arith)) λ _.
    by-test (Range a b) (eqb (a / 65536) 3) _ _ (tagged a b 3 _ (omega arith) (omega arith)) λ _.
    by-test (Range a b) (eqb (a / 65536) 4) _ _ (tagged a b 4 _ (omega arith) (omega arith)) λ _ n. absurd (n refl)

-- a start asks for six bytes at most
pub enter-cost : (a b : ℕ) → a / 65536 ≡ 1 → cost (decode a b) ≤ 6
enter-cost a b e = rw (say-start a b e) (enter-le (a % 65536) b)

pub say-enter : (a b : ℕ) → a / 65536 ≡ 1 → Say a b
say-enter a b t e =
    let q : Start (a % 65536) b ≡ NoEvent a b = sym (say-start a b t) ∙ e in
    let z : ◌≡◌ {A = ℕ} 0 1 = cc in
    omega arith

-- the distance of an event, by its first word
pub leads-start : (a b : ℕ) → 65536 ≤ a → a < 131072 → b ≡ distance (decode a b)
leads-start a b l h = rw (say-start a b (omega arith))

pub leads-none : (a b : ℕ) → 131072 ≤ a → 0 ≡ distance (decode a b)
leads-none a b l = sym (say-other a b (λ e. omega arith)).1

pub distance-le : (a b : ℕ) → distance (decode a b) ≤ b
distance-le a b = go (eqb (a / 65536) 1) refl
  where
    go : (t : Bool) → eqb (a / 65536) 1 ≡ t → distance (decode a b) ≤ b
    go true e = rw (say-start a b (eqb-true (a / 65536) 1 e)) (omega arith)
    go false e = rw (say-other a b (eqb-false (a / 65536) 1 e)).1 (omega arith)

pub led-start : (a b : ℕ) → (distance (decode a b) ≡ 0 → ⊥) → a / 65536 ≡ 1
led-start a b n = go (eqb (a / 65536) 1) refl
  where
    go : (t : Bool) → eqb (a / 65536) 1 ≡ t → a / 65536 ≡ 1
    go true e = eqb-true (a / 65536) 1 e
    go false e = absurd (n (say-other a b (eqb-false (a / 65536) 1 e)).1)
