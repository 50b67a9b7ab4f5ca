-- Each event's own step comes exactly once, from its place.
-- Assumes nothing.
use Prim.Native.Nat.{ℕ, zero, suc, ◌+◌, ◌<◌}
use native.Mathlib.Omega.{arith}
use native.Mathlib.Nat.{add-zero}
use mathlib.Core.Path.{◌≡◌, refl, sym, ◌∙◌, subst}
use mathlib.Core.Bool.{Bool, true, false, cond}
use mathlib.Core.List.{List, [], ◌∷◌, ◌++◌, append-nil, map-append}
use lib.Dec.{eqb}
use lib.ListN.{length, get_or}
use borrow.Author.Tests.{eq-eqb, ne_eqb, eqb-true, eqb-false}
use Rattle.event.specs.declared.Event.{Event}
use Rattle.event.specs.declared.Event.TheVariants.{Start, Finish, Token, Error, NoEvent}
use Rattle.laws.proofs.Tests.{by-test}
use Rattle.records.specs.declared.Step.{Step}
use Rattle.records.specs.declared.Step.TheVariants.{Enter as enter, Leave as leave, Token as token, Error as error, Expected as expected}
use Rattle.own.specs.Own.{enters, reports, own}
use Rattle.turns.specs.Process.{Placed, placed, Parent, follow, entered, turn, turns, process, steps_of}
use Rattle.listed.specs.Shape.{from, enters_tombstone}
use Rattle.events.proofs.Running.{length-turn}

-- the steps from a place: of steps that come from one place, and of several
from-append : (i : ℕ) (r s : List Placed) → from i (r ++ s) ≡ from i r ++ from i s
unfolding from
from-append i [] s = refl
from-append i (x ∷ r) s = go (eqb x.place i) (from-append i r s)
  where
    go : (t : Bool) → from i (r ++ s) ≡ from i r ++ from i s → cond t (x.step ∷ from i (r ++ s)) (from i (r ++ s)) ≡ cond t (x.step ∷ from i r) (from i r) ++ from i s
    go true e = rw e
    go false e = e

from-here : (i : ℕ) (ss : List Step) → from i (placed i ss) ≡ ss
unfolding from
from-here i [] = refl
from-here i (s ∷ ss) = rw (eq-eqb i i refl, from-here i ss)

from-elsewhere : (i p : ℕ) (ss : List Step) → (p ≡ i → ⊥) → from i (placed p ss) ≡ []
unfolding from
from-elsewhere i p [] n = refl
from-elsewhere i p (s ∷ ss) n = rw (ne_eqb p i n, from-elsewhere i p ss n)

-- a chain's enters come from behind
from-behind : (i p : ℕ) (es : List Event) (d : ℕ) → i < p → from i (entered (follow p es d).parents) ≡ []
unfolding follow entered from
from-behind i p [] zero h = refl
from-behind i p [] (suc d) h = refl
from-behind i p (e ∷ es) zero h = refl
from-behind i p (Start k f ∷ es) (suc zero) h =
    rw (from-append, from-behind i (suc p) es f (omega arith)) (from-elsewhere i p (enters k) (λ e. omega arith))
from-behind i p (Finish ∷ es) (suc zero) h = refl
from-behind i p (Token k n ∷ es) (suc zero) h = refl
from-behind i p (Error c x f ∷ es) (suc zero) h = refl
from-behind i p (NoEvent a b ∷ es) (suc zero) h = refl
from-behind i p (e ∷ es) (suc (suc d)) h = from-behind i (suc p) es (suc d) (omega arith)

-- what event i asks for itself, in a list whose first has place p
asked : ℕ → ℕ → List Event → List Step
asked i p [] = []
asked i p (e ∷ es) = cond (eqb p i) (own e) (asked i (suc p) es)

asked-past : (i p : ℕ) (es : List Event) → i < p → asked i p es ≡ []
unfolding asked
asked-past i p [] h = refl
asked-past i p (e ∷ es) h = rw (ne_eqb p i (λ q. omega arith)) (asked-past i (suc p) es (omega arith))

asked-at : (p : ℕ) (es : List Event) (j : ℕ) → asked (p + j) p es ≡ own (get_or es j (NoEvent 0 0))
unfolding asked
asked-at p [] j = refl
asked-at p (e ∷ es) zero = rw (add-zero, eq-eqb p p refl)
asked-at p (e ∷ es) (suc j) =
    let q : p + suc j ≡ suc p + j = omega arith in
    rw (ne_eqb p (p + suc j) (λ z. omega arith)) (subst (λ (k : ℕ). asked k (suc p) es ≡ own (get_or es j (NoEvent 0 0))) (sym q) (asked-at (suc p) es j))

-- what a chain enters it takes out of the list
asked-follow : (i p : ℕ) (es : List Event) (d : ℕ) → from i (entered (follow p es d).parents) ++ asked i p (follow p es d).left ≡ asked i p es
unfolding follow entered from asked
asked-follow i p [] zero = refl
asked-follow i p [] (suc d) = refl
asked-follow i p (e ∷ es) zero = refl
asked-follow i p (Start k f ∷ es) (suc zero) = go (eqb p i) refl (asked-follow i (suc p) es f)
  where
    go : (t : Bool) → eqb p i ≡ t
        → from i (entered (follow (suc p) es f).parents) ++ asked i (suc p) (follow (suc p) es f).left ≡ asked i (suc p) es
        → from i (entered (follow (suc p) es f).parents ++ placed p (enters k)) ++ cond (eqb p i) [] (asked i (suc p) (follow (suc p) es f).left)
        ≡ cond (eqb p i) (enters k) (asked i (suc p) es)
    go true e ih =
        let q : p ≡ i = eqb-true p i e in
        let l : i < suc p = omega arith in
        rw (e, from-append, from-behind i (suc p) es f l, append-nil) (rw q (from-here i (enters k)))
    go false e ih = rw (e, from-append, from-elsewhere i p (enters k) (eqb-false p i e), append-nil) ih
asked-follow i p (Finish ∷ es) (suc zero) = refl
asked-follow i p (Token k n ∷ es) (suc zero) = refl
asked-follow i p (Error c x f ∷ es) (suc zero) = refl
asked-follow i p (NoEvent a b ∷ es) (suc zero) = refl
asked-follow i p (e ∷ es) (suc (suc d)) = go (eqb p i) refl (asked-follow i (suc p) es (suc d))
  where
    go : (t : Bool) → eqb p i ≡ t
        → from i (entered (follow (suc p) es (suc d)).parents) ++ asked i (suc p) (follow (suc p) es (suc d)).left ≡ asked i (suc p) es
        → from i (entered (follow (suc p) es (suc d)).parents) ++ cond (eqb p i) (own e) (asked i (suc p) (follow (suc p) es (suc d)).left)
        ≡ cond (eqb p i) (own e) (asked i (suc p) es)
    go true q ih =
        let z : p ≡ i = eqb-true p i q in
        let l : i < suc p = omega arith in
        rw (q, from-behind i (suc p) es (suc d) l)
    go false q ih = rw q ih

-- a turn at event p
turn-here : (p : ℕ) (e : Event) (es : List Event) → from p (turn p e es).steps ≡ own e
unfolding turn entered from
turn-here p (Start k d) es =
    let l : p < suc p = omega arith in
    rw (from-append, from-behind p (suc p) es d l) (from-here p (enters k))
turn-here p Finish es = from-here p (leave ∷ [])
turn-here p (Token k n) es = from-here p (token k n ∷ [])
turn-here p (Error c x f) es = from-here p (reports c x f ∷ [])
turn-here p (NoEvent a b) es = refl

turn-elsewhere : (i p : ℕ) (e : Event) (es : List Event) → (p ≡ i → ⊥) → from i (turn p e es).steps ++ asked i (suc p) (turn p e es).left ≡ asked i (suc p) es
unfolding turn entered from
turn-elsewhere i p (Start k d) es n = rw (from-append, from-elsewhere i p (enters k) n, append-nil) (asked-follow i (suc p) es d)
turn-elsewhere i p Finish es n = rw (from-elsewhere i p (leave ∷ []) n)
turn-elsewhere i p (Token k m) es n = rw (from-elsewhere i p (token k m ∷ []) n)
turn-elsewhere i p (Error c x f) es n = rw (from-elsewhere i p (reports c x f ∷ []) n)
turn-elsewhere i p (NoEvent a b) es n = refl

asked-turns : (i n p : ℕ) (es : List Event) → length es ≡ n → from i (turns n p es).steps ≡ asked i p es
unfolding turns from asked
asked-turns i zero p [] l = refl
asked-turns i zero p (e ∷ es) l = absurd (omega arith)
asked-turns i (suc n) p [] l = absurd (omega arith)
asked-turns i (suc n) p (e ∷ es) l =
    rw (from-append, asked-turns i n (suc p) (turn p e es).left (omega (arith, length-turn p e es))) (go (eqb p i) refl)
  where
    go : (t : Bool) → eqb p i ≡ t → from i (turn p e es).steps ++ asked i (suc p) (turn p e es).left ≡ cond (eqb p i) (own e) (asked i (suc p) es)
    go true q =
        let z : p ≡ i = eqb-true p i q in
        let l : i < suc p = omega arith in
        rw (q, asked-past i (suc p) (turn p e es).left l, append-nil) (rw z (turn-here i e es))
    go false q = rw q (turn-elsewhere i p e es (eqb-false p i q))

-- the steps of a run that come from event i are its own
pub own-once : (es : List Event) (i : ℕ) → from i (process es).steps ≡ own (get_or es i (NoEvent 0 0))
own-once es i =
    let z : 0 + i ≡ i = omega arith in
    asked-turns i (length es) 0 es refl ∙ rw z at (asked-at 0 es i)

-- no tombstone is entered
tombs-append : (r s : List Step) → enters_tombstone r ≡ false → enters_tombstone s ≡ false → enters_tombstone (r ++ s) ≡ false
unfolding enters_tombstone
tombs-append [] s a b = b
tombs-append (enter zero ∷ r) s a b = a
tombs-append (enter (suc k) ∷ r) s a b = tombs-append r s a b
tombs-append (leave ∷ r) s a b = tombs-append r s a b
tombs-append (token k n ∷ r) s a b = tombs-append r s a b
tombs-append (error c x ∷ r) s a b = tombs-append r s a b
tombs-append (expected k f ∷ r) s a b = tombs-append r s a b

tombs-enters : (p k : ℕ) → enters_tombstone (steps_of (placed p (enters k))) ≡ false
unfolding enters_tombstone
tombs-enters p zero = refl
tombs-enters p (suc k) = rw (ne_eqb (suc k) 0 (λ z. omega arith))

tombs-entered : (xs : List Parent) → enters_tombstone (steps_of (entered xs)) ≡ false
unfolding entered enters_tombstone
tombs-entered [] = refl
tombs-entered (x ∷ xs) = rw map-append (tombs-append (steps_of (entered xs)) (steps_of (placed x.place (enters x.kind))) (tombs-entered xs) (tombs-enters x.place x.kind))

tombs-turn : (p : ℕ) (e : Event) (es : List Event) → enters_tombstone (steps_of (turn p e es).steps) ≡ false
unfolding turn enters_tombstone
tombs-turn p (Start k d) es = tombs-entered (record { place = p; kind = k } ∷ (follow (suc p) es d).parents)
tombs-turn p Finish es = refl
tombs-turn p (Token k n) es = refl
tombs-turn p (Error c x f) es = by-test (λ (s : Step). enters_tombstone (s ∷ []) ≡ false) (eqb c 1) (expected x f) (error c x) (λ _. refl) (λ _. refl)
tombs-turn p (NoEvent a b) es = refl

tombs-turns : (n p : ℕ) (es : List Event) → enters_tombstone (steps_of (turns n p es).steps) ≡ false
unfolding turns enters_tombstone
tombs-turns zero p [] = refl
tombs-turns zero p (e ∷ es) = refl
tombs-turns (suc n) p [] = refl
tombs-turns (suc n) p (e ∷ es) = rw map-append (tombs-append (steps_of (turn p e es).steps) (steps_of (turns n (suc p) (turn p e es).left).steps) (tombs-turn p e es) (tombs-turns n (suc p) (turn p e es).left))

pub no-tombstone : (es : List Event) → enters_tombstone (steps_of (process es).steps) ≡ false
no-tombstone es = tombs-turns (length es) 0 es
