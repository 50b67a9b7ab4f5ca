-- A chain, hop by hop: what is left to do, done to the list as it is, comes to what was asked at the first event.
-- Assumes nothing.
use Prim.Native.Nat.{ℕ, zero, suc, ◌+◌, ◌*◌, ◌≤◌, ◌<◌}
use native.Mathlib.Omega.{arith}
use mathlib.Core.Path.{◌≡◌, refl, sym, ap, ◌∙◌}
use mathlib.Core.Bool.{true, false, true≢false}
use mathlib.Core.List.{List, [], ◌∷◌, ◌++◌, append_assoc, map-append}
use lib.ListN.{length, get_or, take, drop, set, length-set, length-append, length-drop, take-append-drop}
use lib.Seq.{get_or-drop, drop-drop, take-add, drop-set-lt, take-suc-set}
use Rattle.event.specs.declared.Event.{Event}
use Rattle.event.specs.declared.Event.TheVariants.{Start, Finish, Token, Error, NoEvent}
use Rattle.event.specs.Event.{tombstone, is_start, distance}
use Rattle.records.specs.declared.Step.{Step}
use Rattle.records.specs.Record.{step_bytes, bytes, over, Wrote}
use Rattle.own.specs.Own.{enters, own, cost}
use Rattle.turns.specs.Process.{Placed, placed, Followed, follow, entered, chain, steps_of, file}
use Rattle.records.proofs.Writes.{bytes-append, over_none, over-back, length_over}
use Rattle.own.proofs.Writes.{cost-le}

-- the bytes of two runs of steps
pub file-append : (r s : List Placed) → file (r ++ s) ≡ file r ++ file s
file-append r s = rw map-append (bytes-append _ _)

-- no distance: nothing is followed
pub follow-none : (p : ℕ) (es : List Event) → follow p es 0 ≡ record { parents = []; left = es; panics = false }
unfolding follow
follow-none p [] = refl
follow-none p (e ∷ es) = refl

pub steps-placed : (p : ℕ) (ss : List Step) → steps_of (placed p ss) ≡ ss
steps-placed p [] = refl
steps-placed p (s ∷ ss) = rw (steps-placed p ss)

-- the bytes of a start's own enter, and of those before it
pub entered-file : (p k : ℕ) (f : Followed) → file (entered (record { place = p; kind = k } ∷ f.parents)) ≡ file (entered f.parents) ++ bytes (enters k)
unfolding entered
entered-file p k f = rw (file-append, steps-placed)

-- one hop over d events to a start, where `process` does not panic
pub record Hop (p : ℕ) (es : List Event) (d : ℕ) (f r : Followed) : Type 0 where
  pub inside : d < length es
  pub here : file (entered f.parents) ≡ file (entered r.parents) ++ bytes (own (get_or es d (NoEvent 0 0)))
  pub left : f.left ≡ take d es ++ tombstone ∷ r.left
  pub sound : r.panics ≡ false
  pub start : is_start (get_or es d (NoEvent 0 0)) ≡ true

pub hop : (p : ℕ) (es : List Event) (d : ℕ) → (follow p es (suc d)).panics ≡ false
    → Hop p es d (follow p es (suc d)) (follow (suc p + d) (drop (suc d) es) (distance (get_or es d (NoEvent 0 0))))
unfolding follow
hop p [] d s = absurd (true≢false s)
hop p (Start k f ∷ es) zero s =
    let z : suc p + 0 ≡ suc p = omega arith in
    rw z (record { inside = omega arith; here = entered-file p k (follow (suc p) es f); left = refl; sound = s; start = refl })
hop p (Finish ∷ es) zero s = absurd (true≢false s)
hop p (Token k n ∷ es) zero s = absurd (true≢false s)
hop p (Error c x f ∷ es) zero s = absurd (true≢false s)
hop p (NoEvent a b ∷ es) zero s = absurd (true≢false s)
hop p (e ∷ es) (suc d) s =
    let h = hop (suc p) es d s in
    let z : suc p + suc d ≡ suc (suc p) + d = omega arith in
    rw z (record { inside = omega (arith, h.inside); here = h.here; left = ap (λ (l : List Event). e ∷ l) h.left; sound = h.sound; start = h.start })

-- the bytes that a chain still has to write behind event p, by distance q; and the list once it is followed
abbrev pub pending : List Event → ℕ → ℕ → List ℕ
pending es p q = file (entered (chain es p q).parents)

abbrev pub cleared : List Event → ℕ → ℕ → List Event
cleared es p q = take (suc p) es ++ (chain es p q).left

-- the same hop, in a list, from event p by q
pub record Hops (es : List Event) (p q : ℕ) : Type 0 where
  pub inside : p + q < length es
  pub here : pending es p q ≡ pending es (p + q) (distance (get_or es (p + q) (NoEvent 0 0))) ++ bytes (own (get_or es (p + q) (NoEvent 0 0)))
  pub left : cleared es p q ≡ take (p + q) es ++ tombstone ∷ (chain es (p + q) (distance (get_or es (p + q) (NoEvent 0 0)))).left
  pub sound : (chain es (p + q) (distance (get_or es (p + q) (NoEvent 0 0)))).panics ≡ false
  pub start : is_start (get_or es (p + q) (NoEvent 0 0)) ≡ true

pub hops : (es : List Event) (p q : ℕ) → p < length es → (q ≡ 0 → ⊥) → (chain es p q).panics ≡ false → Hops es p q
hops es p zero h n s = absurd (n refl)
hops es p (suc d) h n s =
    let r = hop (suc p) (drop (suc p) es) d s in
    let e₁ : suc p + d ≡ p + suc d = omega arith in
    let e₂ : suc p + suc d ≡ suc (p + suc d) = omega arith in
    let e₃ : suc (suc p) + d ≡ suc (p + suc d) = omega arith in
    let same : get_or (drop (suc p) es) d (NoEvent 0 0) ≡ get_or es (p + suc d) (NoEvent 0 0) = rw (get_or-drop, e₁) in
    let rest : drop (suc d) (drop (suc p) es) ≡ drop (suc (p + suc d)) es = rw (drop-drop, e₂) in
    record {
      inside = omega (arith, r.inside, length-drop (suc p) es);
      here = rw (same, rest, e₃) at r.here;
      left = ap (λ (l : List Event). take (suc p) es ++ l) (rw (same, rest, e₃) at r.left) ∙ sym (append_assoc (take (suc p) es) (take d (drop (suc p) es)) _) ∙ rw (← take-add (suc p) d es, e₁);
      sound = rw (same, rest, e₃) at r.sound;
      start = rw same at r.start;
    }

-- what is behind an event stays when it is made a tombstone
pub chain-cleared : (es : List Event) (p q : ℕ) → chain (set es p tombstone) p q ≡ chain es p q
chain-cleared es p q = let l : p < suc p = omega arith in rw (drop-set-lt (suc p) es p tombstone l)

pub cleared-here : (es : List Event) (p q : ℕ) → p < length es → cleared (set es p tombstone) p q ≡ take p es ++ tombstone ∷ (chain es p q).left
cleared-here es p q h = rw (chain-cleared es p q, take-suc-set es p tombstone h, append_assoc)

pub pending-none : (es : List Event) (p q : ℕ) → q ≡ 0 → pending es p q ≡ []
unfolding bytes entered
pending-none es p q z = rw (z, follow-none)

pub cleared-none : (es : List Event) (p q : ℕ) → q ≡ 0 → cleared es p q ≡ es
cleared-none es p q z = rw (z, follow-none) (take-append-drop (suc p) es)

-- The sum of a chain's bytes: at event p, by distance q, with `size` of them passed.
pub record Sizing (es : List Event) (i d p q size : ℕ) : Type 0 where
  pub inside : p < length es
  pub sound : (chain es p q).panics ≡ false
  pub small : size ≤ step_bytes * p
  pub sum : size + length (pending es p q) ≡ length (pending es i d)

module _ (es : List Event) (i d p q size : ℕ) (S : Sizing es i d p q size) where
  pub hops-on : (q ≡ 0 → ⊥) → Hops es p q
  hops-on n = hops es p q S.inside n S.sound

  pub size-on : (q ≡ 0 → ⊥) → (q' c : ℕ) → q' ≡ distance (get_or es (p + q) (NoEvent 0 0)) → c ≡ cost (get_or es (p + q) (NoEvent 0 0)) → Sizing es i d (p + q) q' (size + c)
  size-on n q' c sq sc =
      let h = hops-on n in
      rw sq
      (record {
        inside = h.inside;
        sound = h.sound;
        small = omega (arith, S.small, cost-le (get_or es (p + q) (NoEvent 0 0)));
        sum = omega (arith, S.sum, simp length-append at (ap length h.here));
      })

  pub size-done : q ≡ 0 → size ≡ length (pending es i d)
  size-done z = omega (arith, S.sum, ap length (pending-none es p q z))

-- From the list w and the room o: at event p, by distance q, with `end` the end of what is still to write from place at.
pub record Writing (w : List Event) (o : List ℕ) (i d at : ℕ) (es : List Event) (out : List ℕ) (p q end : ℕ) : Type 0 where
  pub same-list : length es ≡ length w
  pub same-room : length out ≡ length o
  pub inside : p < length es
  pub sound : (chain es p q).panics ≡ false
  pub ends : end ≡ at + length (pending es p q)
  pub room : end ≤ length out
  pub list-to : cleared es p q ≡ cleared w i d
  pub room-to : over out at (pending es p q) ≡ over o at (pending w i d)

module _ (w : List Event) (o : List ℕ) (i d at : ℕ) where
  pub begin : (end : ℕ) → i < length w → (chain w i d).panics ≡ false → end ≡ at + length (pending w i d) → end ≤ length o → Writing w o i d at w o i d end
  begin end h s e r = record { same-list = refl; same-room = refl; inside = h; sound = s; ends = e; room = r; list-to = refl; room-to = refl }

  module _ (es : List Event) (out : List ℕ) (p q end : ℕ) (W : Writing w o i d at es out p q end) where
    pub next : (q ≡ 0 → ⊥) → Hops es p q
    next n = hops es p q W.inside n W.sound

    -- the room for the next start
    pub next-room : (q ≡ 0 → ⊥) → cost (get_or es (p + q) (NoEvent 0 0)) ≤ end
    next-room n = omega (arith, W.ends, simp length-append at (ap length (next n).here))

    pub onward : (q ≡ 0 → ⊥) → (es' : List Event) (out' : List ℕ) (q' end' r : ℕ)
        → es' ≡ set es (p + q) tombstone
        → end' + cost (get_or es (p + q) (NoEvent 0 0)) ≡ end
        → Wrote out end' (bytes (own (get_or es (p + q) (NoEvent 0 0)))) r out'
        → q' ≡ distance (get_or es (p + q) (NoEvent 0 0))
        → Writing w o i d at es' out' (p + q) q' end'
    onward n es' out' q' end' r se ss so sq =
        let e : Event = get_or es (p + q) (NoEvent 0 0) in
        let h = next n in
        let v : List ℕ = pending es (p + q) (distance e) in
        let k : List ℕ = bytes (own e) in
        let same : chain es' (p + q) q' ≡ chain es (p + q) (distance e) = rw (se, sq) (chain-cleared es (p + q) (distance e)) in
        let sum : end' ≡ at + length v = omega (arith, W.ends, simp length-append at (ap length h.here)) in
        let fits : at + length v + length k ≤ length out = omega (arith, W.room) in
        let len : length out' ≡ length out = ap length so.bytes ∙ length_over out end' k (omega arith) in
        record {
          same-list = rw (se, length-set) W.same-list;
          same-room = len ∙ W.same-room;
          inside = rw (se, length-set) h.inside;
          sound = ap (λ (f : Followed). f.panics) same ∙ h.sound;
          ends = rw same sum;
          room = omega (arith, W.room);
          list-to = rw (se, sq) (cleared-here es (p + q) (distance e) h.inside ∙ sym h.left ∙ W.list-to);
          room-to = rw (same, so.bytes, sum) (over-back out at v k fits ∙ rw (← h.here) W.room-to);
        }

    pub done : q ≡ 0 → (es ≡ cleared w i d) × (out ≡ over o at (pending w i d))
    done z =
        let b : over out at (pending es p q) ≡ out = rw (pending-none es p q z) (over_none out at) in
        (sym (cleared-none es p q z) ∙ W.list-to, sym b ∙ W.room-to)
