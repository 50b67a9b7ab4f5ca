-- The list of a run that handles its markers well, and that each marker act keeps it so. Assumes nothing.
use mathlib.Core.Path.{◌≡◌, refl, sym, ap, ◌∙◌}
use mathlib.Core.List.{List, [], ◌∷◌, ◌++◌}
use mathlib.Core.Bool.{Bool, true, false}
use Prim.Native.Nat.{ℕ, ◌+◌, ◌-◌, ◌≤◌, ◌<◌}
use native.Mathlib.Omega.{arith}
use lib.ListN.{length, set, take, length-set, length-append, get_or-append}
use lib.Seq.{get_or-set_other, get_or-set_same, get_or-take, get_or_at, length-take-le}
use lib.Dec.{eqb, ltb}
use borrow.Author.Tests.{eqb-true, eqb-false, ltb-true, ltb-false}
use Rattle.kinds.specs.Membership.{both}
use Rattle.event.specs.declared.Event.{Event}
use Rattle.event.specs.declared.Event.TheVariants.{Start, Finish, Token, Error, NoEvent}
use Rattle.event.specs.Event.{is_start, is_bare, with_kind, with_distance, Sound, distance}
use Rattle.laws.proofs.Tests.{apart}
use Rattle.event.proofs.Encoding.{bare-start}
use Rattle.event.proofs.Rooms.{Sounds}
use Rattle.markers.proofs.Balance.{Goes, Balanced, is_tomb, balanced-add, balanced-named, balanced-linked, balanced-take}
use Rattle.markers.proofs.Marks.{Marker, Marker.fresh, Marker.made, Marker.shut, Marks, spot, at, Links, Free, Is, Fits, start-below, bare-reach, fits_more, fits-same, links-add, free-end, is-add, start-set, links-set, is_set, links-take, is-take}

-- Starts and finishes balance, distances land on starts, numbers fit, and the markers o stand.
pub record Live (o : Marks) (l : List Event) : Type 0 where
  pub balance : Balanced 0 l 0
  pub links : Links l
  pub sounds : Sounds l
  pub marks : Fits (length l) l o

pub live-none : Live [] []
live-none = record { balance = refl; links = record { lands = λ j n. absurd (n refl) }; sounds = record { sound = λ j h. absurd (omega arith) }; marks = tt }

sounds-add : (l : List Event) (v : Event) → Sound v → Sounds l → Sounds (l ++ v ∷ [])
sounds-add l v f h = record { sound = λ j g. by j g (ltb j (length l)) refl }
  where
    by : (j : ℕ) → j < length (l ++ v ∷ []) → (b : Bool) → ltb j (length l) ≡ b → Sound (at (l ++ v ∷ []) j)
    by j g true q = rw (get_or-append l (v ∷ []) (NoEvent 0 0) j (ltb-true _ _ q)) (h.sound j (ltb-true _ _ q))
    by j g false q =
        let e : length l ≡ j = omega (arith, ltb-false j (length l) q, length-append l (v ∷ [])) in
        rw (get_or_at l v [] (NoEvent 0 0) j e) f

sounds-set : (l : List Event) (i : ℕ) (v : Event) → Sound v → Sounds l → Sounds (set l i v)
sounds-set l i v f h = record { sound = λ j g. by j (rw (length-set l i v) at g) (eqb j i) refl }
  where
    by : (j : ℕ) → j < length l → (b : Bool) → eqb j i ≡ b → Sound (at (set l i v) j)
    by j g true q = let e : j ≡ i = eqb-true j i q in rw (e, get_or-set_same l i v (NoEvent 0 0) (omega arith)) f
    by j g false q = rw (get_or-set_other l i j v (NoEvent 0 0) (eqb-false j i q)) (h.sound j g)

sounds-take : (l : List Event) (n : ℕ) → n ≤ length l → Sounds l → Sounds (take n l)
sounds-take l n m h =
    record {
      sound = λ j g. let q : j < n = omega (arith, length-take-le n l m) in rw (get_or-take n l j (NoEvent 0 0) q) (h.sound j (omega arith));
    }

longer : (l : List Event) (v : Event) → length (l ++ v ∷ []) ≡ length l + 1
longer l v = length-append l (v ∷ [])

-- a token, an error
pub live-add : (o : Marks) (l : List Event) (v : Event) → distance v ≡ 0 → Goes 0 v 0 → Sound v → Live o l → Live o (l ++ v ∷ [])
live-add o l v z g f h =
    record {
      balance = balanced-add 0 0 0 l v h.balance g;
      links = links-add l v z h.links;
      sounds = sounds-add l v f h.sounds;
      marks = fits_more (length l) (length (l ++ v ∷ [])) (l ++ v ∷ []) o (rw (longer l v) (omega arith)) (fits-same (length l) l (l ++ v ∷ []) o (is-add l v z) h.marks);
    }

-- a start
pub live-start : (o : Marks) (l : List Event) → Live o l → Live (fresh (length l) ∷ o) (l ++ Start 0 0 ∷ [])
live-start o l h =
    record {
      balance = balanced-add 0 0 0 l (Start 0 0) h.balance refl;
      links = links-add l (Start 0 0) refl h.links;
      sounds = sounds-add l (Start 0 0) (omega arith) h.sounds;
      marks = (rw (longer l (Start 0 0)) (omega arith), (ap is_bare (get_or_at l (Start 0 0) [] (NoEvent 0 0) (length l) refl), free-end l (Start 0 0) refl h.links), fits-same (length l) l (l ++ Start 0 0 ∷ []) o (is-add l (Start 0 0) refl) h.marks);
    }

-- An open marker is completed; a fresh one is taken away; a completed one is there; and a fresh one is extended up to a completed one
-- that is newer.
pub data Closes (i : ℕ) : Marks → Marks → Type 0 where
  one : {o : Marks} → Closes i (fresh i ∷ o) (shut i ∷ o)
  other : {o : Marks} → Closes i (made i ∷ o) (shut i ∷ o)
  there : {x : Marker} {o o' : Marks} → Closes i o o' → Closes i (x ∷ o) (x ∷ o')

pub data Drops (i : ℕ) : Marks → Marks → Type 0 where
  here : {o : Marks} → Drops i (fresh i ∷ o) o
  there : {x : Marker} {o o' : Marks} → Drops i o o' → Drops i (x ∷ o) (x ∷ o')

pub data Has (i : ℕ) : Marks → Type 0 where
  here : {o : Marks} → Has i (shut i ∷ o)
  there : {x : Marker} {o : Marks} → Has i o → Has i (x ∷ o)

pub data Extends (i j : ℕ) : Marks → Marks → Type 0 where
  here : {o o' : Marks} → Drops i o o' → Extends i j (shut j ∷ o) (shut j ∷ o')
  there : {x : Marker} {o o' : Marks} → Extends i j o o' → Extends i j (x ∷ o) (x ∷ o')

-- where they stand
pub closes_at : (i n : ℕ) (l : List Event) {o o' : Marks} → Closes i o o' → Fits n l o → (i < n) × (is_bare (at l i) ≡ true)
closes_at i n l one h = (h.0, h.1.0)
closes_at i n l other h = (h.0, h.1)
closes_at i n l (there {x = x} c) h = let r = closes_at i (spot x) l c h.2 in (omega (arith, r.0, h.0), r.1)

pub drops-at : (i n : ℕ) (l : List Event) {o o' : Marks} → Drops i o o' → Fits n l o → (i < n) × (is_bare (at l i) ≡ true) × Free l i
drops-at i n l here h = (h.0, h.1.0, h.1.1)
drops-at i n l (there {x = x} c) h = let r = drops-at i (spot x) l c h.2 in (omega (arith, r.0, h.0), r.1, r.2)

pub has-at : (i n : ℕ) (l : List Event) {o : Marks} → Has i o → Fits n l o → (i < n) × (is_start (at l i) ≡ true)
has-at i n l here h = (h.0, h.1)
has-at i n l (there {x = x} c) h = let r = has-at i (spot x) l c h.2 in (omega (arith, r.0, h.0), r.1)

pub extends-at : (i j n : ℕ) (l : List Event) {o o' : Marks} → Extends i j o o' → Fits n l o → (i < j) × (j < n) × (is_start (at l i) ≡ true) × (is_start (at l j) ≡ true)
extends-at i j n l (here d) h = let r = drops-at i j l d h.2 in (r.0, h.0, bare-start (at l i) r.1, h.1)
extends-at i j n l (there {x = x} t) h = let r = extends-at i j (spot x) l t h.2 in (r.0, omega (arith, r.1, h.0), r.2, r.3)

pub bare-extends : (i j n : ℕ) (l : List Event) {o o' : Marks} → Extends i j o o' → Fits n l o → is_bare (at l i) ≡ true
bare-extends i j n l (here d) h = (drops-at i j l d h.2).1
bare-extends i j n l (there {x = x} t) h = bare-extends i j (spot x) l t h.2

bare-tomb : (v : Event) → is_bare v ≡ true → is_tomb v ≡ true
bare-tomb (Start k d) h = by (eqb k 0) h
  where
    by : (b : Bool) → both b (eqb d 0) ≡ true → b ≡ true
    by true q = refl
    by false q = q
bare-tomb Finish h = h
bare-tomb (Token k n) h = h
bare-tomb (Error c a f) h = h
bare-tomb (NoEvent a b) h = h

-- `complete`: a kind, and a finish
module _ (l : List Event) (i k : ℕ) (bare : is_bare (at l i) ≡ true) where
  named-reach : (v : Event) → is_bare v ≡ true → distance (with_kind k v) ≡ 0
  named-reach (Start j d) h = bare-reach (Start j d) h
  named-reach Finish h = refl
  named-reach (Token j n) h = refl
  named-reach (Error c a f) h = refl
  named-reach (NoEvent a b) h = refl

  named_start : (v : Event) → is_bare v ≡ true → is_start (with_kind k v) ≡ true
  named_start (Start j d) h = refl
  named_start Finish h = h
  named_start (Token j n) h = h
  named_start (Error c a f) h = h
  named_start (NoEvent a b) h = h

  named-fits : (v : Event) → k < 65536 → is_bare v ≡ true → Sound (with_kind k v)
  named-fits (Start j d) f h = f
  named-fits Finish f h = tt
  named-fits (Token j n) f h = apart h
  named-fits (Error c a w) f h = apart h
  named-fits (NoEvent a b) f h = apart h

  is-start : is_start (at l i) ≡ true
  is-start = bare-start (at l i) bare

  no-reach : distance (with_kind k (at l i)) ≡ 0
  no-reach = named-reach (at l i) bare

  kept : (x : Marker) → (spot x ≡ i → ⊥) → Is x l → Is x (set l i (with_kind k (at l i)))
  kept x n h = is_set l i (with_kind k (at l i)) is-start (named_start (at l i) bare) x n (λ z. absurd (z no-reach)) h

  fits-closes : (n : ℕ) {o o' : Marks} → Closes i o o' → Fits n l o → Fits n (set l i (with_kind k (at l i))) o'
  fits-closes n (one {o = o}) h = (h.0, start-set l i (with_kind k (at l i)) is-start (named_start (at l i) bare) i is-start, fits-same i l _ o (λ x g. kept x (λ e. omega arith)) h.2)
  fits-closes n (other {o = o}) h = (h.0, start-set l i (with_kind k (at l i)) is-start (named_start (at l i) bare) i is-start, fits-same i l _ o (λ x g. kept x (λ e. omega arith)) h.2)
  fits-closes n (there {x = x} c) h =
      let r = closes_at i (spot x) l c h.2 in
      (h.0, kept x (λ e. omega (arith, r.0)) h.1, fits-closes (spot x) c h.2)

  pub live-complete : {o o' : Marks} → (k ≡ 0 → ⊥) → k < 65536 → Closes i o o' → Live o l → Live o' (set l i (with_kind k (at l i)) ++ Finish ∷ [])
  live-complete {o} {o'} n f c h =
      let w : List Event = set l i (with_kind k (at l i)) in
      let q : length w ≡ length l = length-set l i (with_kind k (at l i)) in
      record {
        balance = balanced-add 0 1 0 w Finish (balanced-named 0 0 l i k n (bare-tomb (at l i) bare) h.balance) refl;
        links = links-add w Finish refl (links-set l i (with_kind k (at l i)) is-start (named_start (at l i) bare) (λ z. absurd (z no-reach)) h.links);
        sounds = sounds-add w Finish tt (sounds-set l i (with_kind k (at l i)) (named-fits (at l i) f bare) h.sounds);
        marks = fits_more (length w) (length (w ++ Finish ∷ [])) (w ++ Finish ∷ []) o' (rw (longer w Finish) (omega arith)) (fits-same (length w) w (w ++ Finish ∷ []) o' (is-add w Finish refl) (rw q (fits-closes (length l) c h.marks)));
      }

-- `abandon` of a start that is not the last event, and of one that is
fits-drops : (i n : ℕ) (l : List Event) {o o' : Marks} → Drops i o o' → Fits n l o → Fits n l o'
fits-drops i n l (here {o = o}) h = fits_more i n l o (omega (arith, h.0)) h.2
fits-drops i n l (there {x = x} d) h = (h.0, h.1, fits-drops i (spot x) l d h.2)

pub live-drop : (i : ℕ) (l : List Event) {o o' : Marks} → Drops i o o' → Live o l → Live o' l
live-drop i l d h = record { balance = h.balance; links = h.links; sounds = h.sounds; marks = fits-drops i (length l) l d h.marks }

fits-popped : (n : ℕ) (l : List Event) → length l ≡ n + 1 → {o o' : Marks} → Drops n o o' → Fits (n + 1) l o → Fits n (take n l) o'
fits-popped n l q (here {o = o}) h = fits-same n l (take n l) o (is-take l n q) h.2
fits-popped n l q (there {x = x} d) h = absurd (omega (arith, (drops-at n (spot x) l d h.2).0, h.0))

pub live-pop : (n : ℕ) (l : List Event) {o o' : Marks} → length l ≡ n + 1 → Drops n o o' → Live o l → Live o' (take n l)
live-pop n l {o} {o'} q d h =
    let r = drops-at n (length l) l d h.marks in
    let t : length (take n l) ≡ n = length-take-le n l (omega arith) in
    record {
      balance = balanced-take 0 0 l n (omega arith) (bare-tomb (at l n) r.1) h.balance;
      links = links-take l n q r.2 h.links;
      sounds = sounds-take l n (omega arith) h.sounds;
      marks = rw t (fits-popped n l q d (rw q at h.marks));
    }

-- Distances: the start at i points to a start at j, behind it.
module _ (l : List Event) (i j : ℕ) (si : is_start (at l i) ≡ true) (sj : is_start (at l j) ≡ true) (up : i < j) where
  far-start : (v : Event) → is_start v ≡ true → is_start (with_distance (j - i) v) ≡ true
  far-start (Start k d) h = refl
  far-start Finish h = h
  far-start (Token k n) h = h
  far-start (Error c a f) h = h
  far-start (NoEvent a b) h = h

  far-reach : (v : Event) → is_start v ≡ true → distance (with_distance (j - i) v) ≡ j - i
  far-reach (Start k d) h = refl
  far-reach Finish h = apart h
  far-reach (Token k n) h = apart h
  far-reach (Error c a f) h = apart h
  far-reach (NoEvent a b) h = apart h

  far-fits : (v : Event) → is_start v ≡ true → Sound v → Sound (with_distance (j - i) v)
  far-fits (Start k d) h f = f
  far-fits Finish h f = f
  far-fits (Token k n) h f = f
  far-fits (Error c a w) h f = f
  far-fits (NoEvent a b) h f = f

  lands : i + distance (with_distance (j - i) (at l i)) ≡ j
  lands = rw (far-reach (at l i) si) (omega arith)

  moved : List Event
  moved = set l i (with_distance (j - i) (at l i))

  apart_from : (x : Marker) → (spot x ≡ i → ⊥) → (spot x ≡ j → ⊥) → Is x l → Is x (set l i (with_distance (j - i) (at l i)))
  apart_from x n m h = is_set l i (with_distance (j - i) (at l i)) si (far-start (at l i) si) x n (λ z e. m (sym e ∙ lands)) h

  starts-stay : (p : ℕ) → is_start (at l p) ≡ true → is_start (at (set l i (with_distance (j - i) (at l i))) p) ≡ true
  starts-stay = start-set l i (with_distance (j - i) (at l i)) si (far-start (at l i) si)

  live-far : {o o' : Marks} → Fits (length l) (set l i (with_distance (j - i) (at l i))) o' → Live o l → Live o' (set l i (with_distance (j - i) (at l i)))
  live-far f h =
      record {
        balance = balanced-linked 0 0 l i (j - i) h.balance;
        links = links-set l i (with_distance (j - i) (at l i)) si (far-start (at l i) si) (λ z. rw lands sj) h.links;
        sounds = sounds-set l i (with_distance (j - i) (at l i)) (far-fits (at l i) si (h.sounds.sound i (start-below l i si))) h.sounds;
        marks = rw (length-set l i (with_distance (j - i) (at l i))) f;
      }

  -- markers of which one, completed, is at i, and none is at j
  fits-has : (n : ℕ) {o : Marks} → n ≤ j → Has i o → Fits n l o → Fits n (set l i (with_distance (j - i) (at l i))) o
  fits-has n m (here {o = o}) h = (h.0, starts-stay i si, fits-same i l _ o (λ x g. apart_from x (λ e. omega arith) (λ e. omega arith)) h.2)
  fits-has n m (there {x = x} c) h =
      let r = has-at i (spot x) l c h.2 in
      (h.0, apart_from x (λ e. omega (arith, r.0)) (λ e. omega (arith, h.0)) h.1, fits-has (spot x) (omega (arith, h.0)) c h.2)

  -- markers of which one, fresh, at i goes, and which all are below j
  fits-off : (n : ℕ) {o o' : Marks} → n ≤ j → Drops i o o' → Fits n l o → Fits n (set l i (with_distance (j - i) (at l i))) o'
  fits-off n m (here {o = o}) h = fits_more i n _ o (omega (arith, h.0)) (fits-same i l _ o (λ x g. apart_from x (λ e. omega arith) (λ e. omega arith)) h.2)
  fits-off n m (there {x = x} d) h =
      let r = drops-at i (spot x) l d h.2 in
      (h.0, apart_from x (λ e. omega (arith, r.0)) (λ e. omega (arith, h.0)) h.1, fits-off (spot x) (omega (arith, h.0)) d h.2)

  fits-extends : (n : ℕ) {o o' : Marks} → Extends i j o o' → Fits n l o → Fits n (set l i (with_distance (j - i) (at l i))) o'
  fits-extends n (here d) h = (h.0, starts-stay j sj, fits-off j (omega arith) d h.2)
  fits-extends n (there {x = x} t) h =
      let r = extends-at i j (spot x) l t h.2 in
      (h.0, apart_from x (λ e. omega (arith, r.0, r.1)) (λ e. omega (arith, r.1)) h.1, fits-extends (spot x) t h.2)

  pub live-extend : {o o' : Marks} → Extends i j o o' → Live o l → Live o' (set l i (with_distance (j - i) (at l i)))
  live-extend t h = live-far (fits-extends (length l) t h.marks) h

  -- `precede`: the newest marker, at j, is no longer one on which nothing lands
  pub live-precede : {o : Marks} → Has i o → Live (fresh j ∷ o) l → Live (made j ∷ o) (set l i (with_distance (j - i) (at l i)))
  live-precede {o} c h =
      live-far
      (h.marks.0, ap is_bare (get_or-set_other l i j (with_distance (j - i) (at l i)) (NoEvent 0 0) (λ e. omega arith)) ∙ h.marks.1.0, fits-has j (omega arith) c h.marks.2)
      h
