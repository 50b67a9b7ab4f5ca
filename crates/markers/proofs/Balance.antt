-- When starts and finishes balance, and what the changes of a list do to it. Assumes nothing.
use mathlib.Core.Path.{◌≡◌, refl, sym, ap, ◌∙◌, subst}
use mathlib.Core.List.{List, [], ◌∷◌, ◌++◌}
use mathlib.Core.Bool.{Bool, true, false, cond}
use Prim.Native.Nat.{ℕ, zero, suc}
use native.Mathlib.Omega.{arith}
use lib.ListN.{length, get_or, set, take}
use lib.Dec.{eqb}
use borrow.Author.Tests.{ne_eqb}
use Rattle.event.specs.declared.Event.{Event}
use Rattle.event.specs.declared.Event.TheVariants.{Start, Finish, Token, Error, NoEvent}
use Rattle.event.specs.Event.{with_kind, with_distance}
use Rattle.laws.proofs.Tests.{apart}

-- Going left to right, an event takes one depth to another.
abbrev pub Goes : ℕ → Event → ℕ → Type 0
Goes d (Start k j) d' = d' ≡ cond (eqb k 0) d (suc d)
Goes d Finish d' = d ≡ suc d'
Goes d (Token k n) d' = d' ≡ d
Goes d (Error c a f) d' = d' ≡ d
Goes d (NoEvent a b) d' = ⊥

abbrev pub Balanced : ℕ → List Event → ℕ → Type 0
Balanced d [] d' = d ≡ d'
Balanced d (v ∷ l) d' = (m : ℕ) × Goes d v m × Balanced m l d'

-- a start without a kind
abbrev pub is_tomb : Event → Bool
is_tomb (Start k d) = eqb k 0
is_tomb Finish = false
is_tomb (Token k n) = false
is_tomb (Error c a f) = false
is_tomb (NoEvent a b) = false

-- one event more
pub balanced-add : (d m d' : ℕ) (l : List Event) (v : Event) → Balanced d l m → Goes m v d' → Balanced d (l ++ v ∷ []) d'
balanced-add d m d' [] v h g = (d', subst (λ (x : ℕ). Goes x v d') (sym h) g, refl)
balanced-add d m d' (w ∷ l) v h g = (h.0, h.1, balanced-add h.0 m d' l v h.2 g)

-- everything one deeper
goes-deeper : (d d' : ℕ) (v : Event) → Goes d v d' → Goes (suc d) v (suc d')
goes-deeper d d' (Start k j) h = rw h (by (eqb k 0))
  where
    by : (b : Bool) → suc (cond b d (suc d)) ≡ cond b (suc d) (suc (suc d))
    by true = refl
    by false = refl
goes-deeper d d' Finish h = ap suc h
goes-deeper d d' (Token k n) h = ap suc h
goes-deeper d d' (Error c a f) h = ap suc h
goes-deeper d d' (NoEvent a b) h = h

deeper : (d d' : ℕ) (l : List Event) → Balanced d l d' → Balanced (suc d) l (suc d')
deeper d d' [] h = ap suc h
deeper d d' (v ∷ l) h = (suc h.0, goes-deeper d h.0 v h.1, deeper h.0 d' l h.2)

-- a tombstone that gets a kind: all after it is one deeper
tomb-goes : (d d' : ℕ) (v : Event) → is_tomb v ≡ true → Goes d v d' → d' ≡ d
tomb-goes d d' (Start k j) t h = h ∙ rw t refl
tomb-goes d d' Finish t h = apart t
tomb-goes d d' (Token k n) t h = h
tomb-goes d d' (Error c a f) t h = h
tomb-goes d d' (NoEvent a b) t h = absurd h

named-goes : (d k : ℕ) (v : Event) → (k ≡ 0 → ⊥) → is_tomb v ≡ true → Goes d (with_kind k v) (suc d)
named-goes d k (Start j c) n t = rw (ne_eqb k 0 n) refl
named-goes d k Finish n t = apart t
named-goes d k (Token j c) n t = apart t
named-goes d k (Error c a f) n t = apart t
named-goes d k (NoEvent a b) n t = apart t

pub balanced-named : (d d' : ℕ) (l : List Event) (m k : ℕ) → (k ≡ 0 → ⊥) → is_tomb (get_or l m (NoEvent 0 0)) ≡ true → Balanced d l d' → Balanced d (set l m (with_kind k (get_or l m (NoEvent 0 0)))) (suc d')
balanced-named d d' [] m k n t h = apart t
balanced-named d d' (v ∷ l) zero k n t h = (suc d, named-goes d k v n t, subst (λ (x : ℕ). Balanced (suc x) l (suc d')) (tomb-goes d h.0 v t h.1) (deeper h.0 d' l h.2))
balanced-named d d' (v ∷ l) (suc m) k n t h = (h.0, h.1, balanced-named h.0 d' l m k n t h.2)

-- another distance changes no depth
linked-goes : (d d' j : ℕ) (v : Event) → Goes d v d' → Goes d (with_distance j v) d'
linked-goes d d' j (Start k c) h = h
linked-goes d d' j Finish h = h
linked-goes d d' j (Token k n) h = h
linked-goes d d' j (Error c a f) h = h
linked-goes d d' j (NoEvent a b) h = h

pub balanced-linked : (d d' : ℕ) (l : List Event) (m j : ℕ) → Balanced d l d' → Balanced d (set l m (with_distance j (get_or l m (NoEvent 0 0)))) d'
balanced-linked d d' [] m j h = h
balanced-linked d d' (v ∷ l) zero j h = (h.0, linked-goes d h.0 j v h.1, h.2)
balanced-linked d d' (v ∷ l) (suc m) j h = (h.0, h.1, balanced-linked h.0 d' l m j h.2)

-- the last event goes, if it is a tombstone
pub balanced-take : (d d' : ℕ) (l : List Event) (n : ℕ) → suc n ≡ length l → is_tomb (get_or l n (NoEvent 0 0)) ≡ true → Balanced d l d' → Balanced d (take n l) d'
balanced-take d d' [] n q t h = absurd (omega arith)
balanced-take d d' (v ∷ []) zero q t h = sym (tomb-goes d h.0 v t h.1) ∙ h.2
balanced-take d d' (v ∷ w ∷ l) zero q t h = absurd (omega arith)
balanced-take d d' (v ∷ l) (suc n) q t h = (h.0, h.1, balanced-take h.0 d' l n (omega arith) t h.2)
