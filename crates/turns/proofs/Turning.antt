-- One turn: a chain and the event's own step behind it, written and cleared.
-- Assumes nothing.
use Prim.Native.Nat.{ℕ, suc, ◌+◌, ◌≤◌, ◌<◌}
use native.Mathlib.Omega.{arith}
use mathlib.Core.Path.{◌≡◌, refl, sym, ap, ◌∙◌}
use mathlib.Core.Bool.{false, true≢false}
use mathlib.Core.List.{List, ◌∷◌, ◌++◌}
use lib.ListN.{length, get_or, take, drop, set, length-set, length-append}
use lib.Seq.{set_split}
use Rattle.event.specs.declared.Event.{Event}
use Rattle.event.specs.declared.Event.TheVariants.{Start, Finish, Token, Error, NoEvent}
use Rattle.event.specs.Event.{tombstone, distance}
use Rattle.records.specs.Record.{bytes, over, Wrote}
use Rattle.own.specs.Own.{own, cost}
use Rattle.own.specs.Inside.{Laid}
use Rattle.records.proofs.Writes.{wrote_then}
use Rattle.own.proofs.Wide.{laid_then, laid-wrote}
use Rattle.turns.specs.Process.{Followed, follow, entered, turn, chain, turn_at, file}
use Rattle.turns.proofs.Following.{follow-none, entered-file, pending, pending-none, cleared, cleared-none, Hops, hops, chain-cleared, cleared-here}

-- a turn that does not panic: the chain's steps, and the event's own behind them
pub record Turned (p : ℕ) (e : Event) (es : List Event) : Type 0 where
  pub steps : file (turn p e es).steps ≡ file (entered (follow (suc p) es (distance e)).parents) ++ bytes (own e)
  pub left : (turn p e es).left ≡ (follow (suc p) es (distance e)).left
  pub sound : (follow (suc p) es (distance e)).panics ≡ false

pub turned : (p : ℕ) (e : Event) (es : List Event) → (turn p e es).panics ≡ false → Turned p e es
unfolding turn entered bytes
turned p (Start k d) es s = record { steps = entered-file p k (follow (suc p) es d); left = refl; sound = s }
turned p Finish es s = record { steps = rw follow-none; left = rw follow-none; sound = rw follow-none }
turned p (Token k n) es s = record { steps = rw follow-none; left = rw follow-none; sound = rw follow-none }
turned p (Error c x f) es s = record { steps = rw follow-none; left = rw follow-none; sound = rw follow-none }
turned p (NoEvent a b) es s = absurd (true≢false s)

pub turn-says : (p : ℕ) (e : Event) (es : List Event) → (turn p e es).panics ≡ false → (a b : ℕ) → e ≡ NoEvent a b → ⊥
unfolding turn
turn-says p e es s a b q = true≢false (rw q at s)

-- A turn at event i of the list es, into the room out from place at, in a file that ends at `size`: the event is made a tombstone,
-- its chain is followed by d, and its own step is written behind the chain's.
pub record Turning (es : List Event) (i at size : ℕ) (out : List ℕ) (es₁ : List Event) (d : ℕ) : Type 0 where
  pub inside : i < length es
  pub sound : (turn_at es i).panics ≡ false
  pub room : at + length (file (turn_at es i).steps) ≤ size
  pub fits : size ≤ length out
  pub cleared : es₁ ≡ set es i tombstone
  pub far : d ≡ distance (get_or es i (NoEvent 0 0))

module _ {es : List Event} {i at size : ℕ} {out : List ℕ} {es₁ : List Event} {d : ℕ} (T : Turning es i at size out es₁ d) where
  view : Turned i (get_or es i (NoEvent 0 0)) (drop (suc i) es)
  view = turned i (get_or es i (NoEvent 0 0)) (drop (suc i) es) T.sound

  same : chain es₁ i d ≡ chain es i (distance (get_or es i (NoEvent 0 0)))
  same = rw (T.cleared, T.far) (chain-cleared es i (distance (get_or es i (NoEvent 0 0))))

  pub chain-sound : (chain es₁ i d).panics ≡ false
  chain-sound = ap (λ (f : Followed). f.panics) same ∙ view.sound

  turn-file : file (turn_at es i).steps ≡ pending es₁ i d ++ bytes (own (get_or es i (NoEvent 0 0)))
  turn-file = view.steps ∙ rw same

  pub turn-room : at + (length (pending es₁ i d) + cost (get_or es i (NoEvent 0 0))) ≤ size
  turn-room = omega (arith, T.room, simp length-append at (ap length turn-file))

  pub turn-wrote : (n q : ℕ) (o₁ o₂ : List ℕ) → n ≡ length (pending es₁ i d) → o₁ ≡ over out at (pending es₁ i d)
      → Wrote o₁ (at + n) (bytes (own (get_or es i (NoEvent 0 0)))) q o₂ → Laid out at (file (turn_at es i).steps) size q o₂
  turn-wrote n q o₁ o₂ z e w =
      laid-wrote out at _ size q o₂ T.room T.fits
      (rw turn-file (wrote_then out at _ _ (at + n) q o₁ o₂ (record { place = rw z; bytes = e }) w (omega (arith, turn-room, T.fits))))

  pub turn-left : (es₂ : List Event) → es₂ ≡ cleared es₁ i d → es₂ ≡ take i es ++ tombstone ∷ (turn_at es i).left
  turn-left es₂ e = rw (view.left, e, T.cleared, T.far) (cleared-here es i (distance (get_or es i (NoEvent 0 0))) T.inside)

  -- with no distance, the event's own step alone
  module _ (z : d ≡ 0) where
    alone-file : file (turn_at es i).steps ≡ bytes (own (get_or es i (NoEvent 0 0)))
    alone-file = turn-file ∙ rw (pending-none es₁ i d z)

    pub alone-room : at + cost (get_or es i (NoEvent 0 0)) ≤ size
    alone-room = omega (arith, T.room, ap length alone-file)

    pub alone-laid : (q : ℕ) (o : List ℕ) → Laid out at (bytes (own (get_or es i (NoEvent 0 0)))) size q o → Laid out at (file (turn_at es i).steps) size q o
    alone-laid q o a = rw alone-file a

    pub alone-wrote : (q : ℕ) (o : List ℕ) → Wrote out at (bytes (own (get_or es i (NoEvent 0 0)))) q o → Laid out at (file (turn_at es i).steps) size q o
    alone-wrote q o w = alone-laid q o (laid-wrote out at _ size q o alone-room T.fits w)

    pub alone-left : es₁ ≡ take i es ++ tombstone ∷ (turn_at es i).left
    alone-left = turn-left es₁ (sym (cleared-none es₁ i d z))

  -- a distance, and the start that it leads to
  module _ (n : d ≡ 0 → ⊥) where
    pub led : Hops es₁ i d
    led = hops es₁ i d (rw (T.cleared, length-set) T.inside) n chain-sound

    -- with no distance there, that start's step and then the event's own
    module _ (z : distance (get_or es₁ (i + d) (NoEvent 0 0)) ≡ 0) where
      pub pair-laid : (p q : ℕ) (m o : List ℕ) → Laid out at (bytes (own (get_or es₁ (i + d) (NoEvent 0 0)))) size p m
          → Laid m p (bytes (own (get_or es i (NoEvent 0 0)))) size q o → Laid out at (file (turn_at es i).steps) size q o
      pair-laid p q m o a b = rw (turn-file, led.here, pending-none es₁ (i + d) _ z) (laid_then out at _ size p m _ q o a b)

      pub pair_left : (es₂ : List Event) → es₂ ≡ set es₁ (i + d) tombstone → es₂ ≡ take i es ++ tombstone ∷ (turn_at es i).left
      pair_left es₂ e = turn-left es₂ (e ∙ set_split es₁ (i + d) tombstone led.inside ∙ sym (led.left ∙ rw (z, follow-none)))
