-- Markers, where they stand in a list of events, and what keeps them standing. Assumes nothing.
use mathlib.Core.Path.{◌≡◌, refl, sym, ap, ◌∙◌}
use mathlib.Core.List.{List, [], ◌∷◌, ◌++◌}
use mathlib.Core.Bool.{Bool, true, false}
use Prim.Native.Nat.{ℕ, ◌+◌, ◌≤◌, ◌<◌}
use native.Mathlib.Omega.{arith}
use lib.ListN.{length, get_or, set, take, length-append, get_or-append, get_or-eq_default}
use lib.Seq.{get_or-set_other, get_or-set_same, get_or-take, get_or_at, length-take-le}
use lib.Dec.{eqb, ltb}
use borrow.Author.Tests.{eqb-true, eqb-false, ltb-true, ltb-false}
use Rattle.kinds.specs.Membership.{both}
use Rattle.event.specs.declared.Event.{Event}
use Rattle.event.specs.declared.Event.TheVariants.{Start, Finish, Token, Error, NoEvent}
use Rattle.event.specs.Event.{is_start, is_bare, distance}
use Rattle.laws.proofs.Tests.{apart}

-- A marker: open as `start` made it, open as `precede` made it, or completed. On the first no distance lands.
pub data Marker : Type 0 where
  fresh : ℕ → Marker
  made : ℕ → Marker
  shut : ℕ → Marker

abbrev pub Marks : Type 0
Marks = List Marker

abbrev pub spot : Marker → ℕ
spot (fresh i) = i
spot (made i) = i
spot (shut i) = i

-- the event at a position
abbrev pub at : List Event → ℕ → Event
at l j = get_or l j (NoEvent 0 0)

-- each distance lands on a start of the list
pub record Links (l : List Event) : Type 0 where
  pub lands : (j : ℕ) → (distance (at l j) ≡ 0 → ⊥) → is_start (at l (j + distance (at l j))) ≡ true

-- no distance lands on i
pub record Free (l : List Event) (i : ℕ) : Type 0 where
  pub misses : (j : ℕ) → (distance (at l j) ≡ 0 → ⊥) → j + distance (at l j) ≡ i → ⊥

-- how a marker stands in a list
abbrev pub Is : Marker → List Event → Type 0
Is (fresh i) l = (is_bare (at l i) ≡ true) × Free l i
Is (made i) l = is_bare (at l i) ≡ true
Is (shut i) l = is_start (at l i) ≡ true

-- all stand, each before the ones that are newer
abbrev pub Fits : ℕ → List Event → Marks → Type 0
Fits n l [] = Unit {0}
Fits n l (x ∷ o) = (spot x < n) × Is x l × Fits (spot x) l o

-- where a start stands there is an event
pub start-below : (l : List Event) (p : ℕ) → is_start (at l p) ≡ true → p < length l
start-below l p h = by (ltb p (length l)) refl
  where
    by : (b : Bool) → ltb p (length l) ≡ b → p < length l
    by true q = ltb-true _ _ q
    by false q = apart (ap is_start (sym (get_or-eq_default l (NoEvent 0 0) (ltb-false p (length l) q))) ∙ h)

pub bare-reach : (v : Event) → is_bare v ≡ true → distance v ≡ 0
bare-reach (Start k d) h = by (eqb k 0) h
  where
    by : (b : Bool) → both b (eqb d 0) ≡ true → d ≡ 0
    by true q = eqb-true d 0 q
    by false q = apart q
bare-reach Finish h = refl
bare-reach (Token k n) h = refl
bare-reach (Error c a f) h = refl
bare-reach (NoEvent a b) h = refl

pub fits_more : (n n' : ℕ) (l : List Event) (o : Marks) → n ≤ n' → Fits n l o → Fits n' l o
fits_more n n' l [] q h = tt
fits_more n n' l (x ∷ o) q h = (omega (arith, h.0), h.1, h.2)

-- markers below n that stand as they did
pub fits-same : (n : ℕ) (l l' : List Event) (o : Marks) → ((x : Marker) → spot x < n → Is x l → Is x l') → Fits n l o → Fits n l' o
fits-same n l l' [] q h = tt
fits-same n l l' (x ∷ o) q h = (h.0, q x h.0 h.1, fits-same (spot x) l l' o (λ y g. q y (omega (arith, h.0))) h.2)

-- One event more, without a distance.
module _ (l : List Event) (v : Event) (quiet : distance v ≡ 0) where
  below : (j : ℕ) → j < length l → at (l ++ v ∷ []) j ≡ at l j
  below j h = get_or-append l (v ∷ []) (NoEvent 0 0) j h

  beyond : (j : ℕ) → length l ≤ j → distance (at (l ++ v ∷ []) j) ≡ 0
  beyond j h = by (eqb j (length l)) refl
    where
      by : (b : Bool) → eqb j (length l) ≡ b → distance (at (l ++ v ∷ []) j) ≡ 0
      by true q = ap distance (get_or_at l v [] (NoEvent 0 0) j (sym (eqb-true j (length l) q))) ∙ quiet
      by false q = ap distance (get_or-eq_default (l ++ v ∷ []) (NoEvent 0 0) (rw (length-append l (v ∷ [])) (omega (arith, eqb-false j (length l) q))))

  -- a distance of the longer list is one of the list
  older : (j : ℕ) → (distance (at (l ++ v ∷ []) j) ≡ 0 → ⊥) → j < length l
  older j h = by (ltb j (length l)) refl
    where
      by : (b : Bool) → ltb j (length l) ≡ b → j < length l
      by true q = ltb-true _ _ q
      by false q = absurd (h (beyond j (ltb-false j (length l) q)))

  pub links-add : Links l → Links (l ++ v ∷ [])
  links-add h = record { lands = on }
    where
      on : (j : ℕ) → (distance (at (l ++ v ∷ []) j) ≡ 0 → ⊥) → is_start (at (l ++ v ∷ []) (j + distance (at (l ++ v ∷ []) j))) ≡ true
      on j n =
          let q : at (l ++ v ∷ []) j ≡ at l j = below j (older j n) in
          let s : is_start (at l (j + distance (at l j))) ≡ true = h.lands j (λ z. n (ap distance q ∙ z)) in
          rw q (ap is_start (below (j + distance (at l j)) (start-below l (j + distance (at l j)) s)) ∙ s)

  pub free-add : (i : ℕ) → Free l i → Free (l ++ v ∷ []) i
  free-add i h = record { misses = off }
    where
      off : (j : ℕ) → (distance (at (l ++ v ∷ []) j) ≡ 0 → ⊥) → j + distance (at (l ++ v ∷ []) j) ≡ i → ⊥
      off j n e =
          let q : distance (at (l ++ v ∷ []) j) ≡ distance (at l j) = ap distance (below j (older j n)) in
          h.misses j (λ z. n (q ∙ z)) (ap (λ (x : ℕ). j + x) (sym q) ∙ e)

  -- nothing lands past the end
  pub free-end : Links l → Free (l ++ v ∷ []) (length l)
  free-end h = record { misses = off }
    where
      off : (j : ℕ) → (distance (at (l ++ v ∷ []) j) ≡ 0 → ⊥) → j + distance (at (l ++ v ∷ []) j) ≡ length l → ⊥
      off j n e =
          let q : distance (at (l ++ v ∷ []) j) ≡ distance (at l j) = ap distance (below j (older j n)) in
          let s : is_start (at l (j + distance (at l j))) ≡ true = h.lands j (λ z. n (q ∙ z)) in
          omega (arith, start-below l (j + distance (at l j)) s, q, e)

  pub is-add : (x : Marker) → spot x < length l → Is x l → Is x (l ++ v ∷ [])
  is-add (fresh i) g h = (ap is_bare (below i g) ∙ h.0, free-add i h.1)
  is-add (made i) g h = ap is_bare (below i g) ∙ h
  is-add (shut i) g h = ap is_start (below i g) ∙ h

-- Another start in the place of one.
module _ (l : List Event) (i : ℕ) (v : Event) (old : is_start (at l i) ≡ true) (st : is_start v ≡ true) where
  here : at (set l i v) i ≡ v
  here = get_or-set_same l i v (NoEvent 0 0) (start-below l i old)

  other : (j : ℕ) → (j ≡ i → ⊥) → at (set l i v) j ≡ at l j
  other j n = get_or-set_other l i j v (NoEvent 0 0) n

  -- starts stay starts
  pub start-set : (j : ℕ) → is_start (at l j) ≡ true → is_start (at (set l i v) j) ≡ true
  start-set j h = by (eqb j i) refl
    where
      by : (b : Bool) → eqb j i ≡ b → is_start (at (set l i v) j) ≡ true
      by true q = rw (eqb-true j i q) (ap is_start here ∙ st)
      by false q = ap is_start (other j (eqb-false j i q)) ∙ h

  pub links-set : ((distance v ≡ 0 → ⊥) → is_start (at l (i + distance v)) ≡ true) → Links l → Links (set l i v)
  links-set t h = record { lands = λ j. by j (eqb j i) refl }
    where
      by : (j : ℕ) (b : Bool) → eqb j i ≡ b → (distance (at (set l i v) j) ≡ 0 → ⊥) → is_start (at (set l i v) (j + distance (at (set l i v) j))) ≡ true
      by j true q n =
          let e : j ≡ i = eqb-true j i q in
          let r : at (set l i v) j ≡ v = ap (at (set l i v)) e ∙ here in
          start-set (j + distance (at (set l i v) j)) (rw (r, e) (t (λ z. n (ap distance r ∙ z))))
      by j false q n =
          let r : at (set l i v) j ≡ at l j = other j (eqb-false j i q) in
          start-set (j + distance (at (set l i v) j)) (rw r (h.lands j (λ z. n (ap distance r ∙ z))))

  pub free-set : (x : ℕ) → ((distance v ≡ 0 → ⊥) → i + distance v ≡ x → ⊥) → Free l x → Free (set l i v) x
  free-set x t h = record { misses = λ j. by j (eqb j i) refl }
    where
      by : (j : ℕ) (b : Bool) → eqb j i ≡ b → (distance (at (set l i v) j) ≡ 0 → ⊥) → j + distance (at (set l i v) j) ≡ x → ⊥
      by j true q n e =
          let p : j ≡ i = eqb-true j i q in
          let r : distance (at (set l i v) j) ≡ distance v = ap distance (ap (at (set l i v)) p ∙ here) in
          t (λ z. n (r ∙ z)) (omega (arith, p, r, e))
      by j false q n e =
          let r : distance (at (set l i v) j) ≡ distance (at l j) = ap distance (other j (eqb-false j i q)) in
          h.misses j (λ z. n (r ∙ z)) (ap (λ (y : ℕ). j + y) (sym r) ∙ e)

  -- a marker elsewhere on which the new distance does not land; a completed one stands anyway
  pub is_set : (x : Marker) → (spot x ≡ i → ⊥) → ((distance v ≡ 0 → ⊥) → i + distance v ≡ spot x → ⊥) → Is x l → Is x (set l i v)
  is_set (fresh j) n t h = (ap is_bare (other j n) ∙ h.0, free-set j t h.1)
  is_set (made j) n t h = ap is_bare (other j n) ∙ h
  is_set (shut j) n t h = start-set j h

-- The last event goes, on which no distance lands.
module _ (l : List Event) (n : ℕ) (long : length l ≡ n + 1) where
  kept : (j : ℕ) → j < n → at (take n l) j ≡ at l j
  kept j h = get_or-take n l j (NoEvent 0 0) h

  gone : (j : ℕ) → n ≤ j → at (take n l) j ≡ NoEvent 0 0
  gone j h = get_or-eq_default (take n l) (NoEvent 0 0) (rw (length-take-le n l (omega arith)) h)

  still : (j : ℕ) → (distance (at (take n l) j) ≡ 0 → ⊥) → j < n
  still j h = by (ltb j n) refl
    where
      by : (b : Bool) → ltb j n ≡ b → j < n
      by true q = ltb-true _ _ q
      by false q = absurd (h (ap distance (gone j (ltb-false j n q))))

  pub links-take : Free l n → Links l → Links (take n l)
  links-take f h = record { lands = on }
    where
      on : (j : ℕ) → (distance (at (take n l) j) ≡ 0 → ⊥) → is_start (at (take n l) (j + distance (at (take n l) j))) ≡ true
      on j z =
          let q : at (take n l) j ≡ at l j = kept j (still j z) in
          let y : distance (at l j) ≡ 0 → ⊥ = λ e. z (ap distance q ∙ e) in
          let s : is_start (at l (j + distance (at l j))) ≡ true = h.lands j y in
          rw q (ap is_start (kept (j + distance (at l j)) (omega (arith, start-below l (j + distance (at l j)) s, f.misses j y))) ∙ s)

  free-take : (x : ℕ) → Free l x → Free (take n l) x
  free-take x h = record { misses = off }
    where
      off : (j : ℕ) → (distance (at (take n l) j) ≡ 0 → ⊥) → j + distance (at (take n l) j) ≡ x → ⊥
      off j z e =
          let q : distance (at (take n l) j) ≡ distance (at l j) = ap distance (kept j (still j z)) in
          h.misses j (λ y. z (q ∙ y)) (ap (λ (y : ℕ). j + y) (sym q) ∙ e)

  pub is-take : (x : Marker) → spot x < n → Is x l → Is x (take n l)
  is-take (fresh i) g h = (ap is_bare (kept i g) ∙ h.0, free-take i h.1)
  is-take (made i) g h = ap is_bare (kept i g) ∙ h
  is-take (shut i) g h = ap is_start (kept i g) ∙ h
