-- The steps that are no enter stand in the list's order.
-- Assumes nothing.
use Prim.Native.Nat.{ℕ, zero, suc}
use native.Mathlib.Omega.{arith}
use mathlib.Core.Path.{◌≡◌, refl}
use mathlib.Core.Bool.{Bool, true, false, cond}
use mathlib.Core.List.{List, [], ◌∷◌, ◌++◌}
use lib.Dec.{eqb}
use lib.ListN.{length}
use Rattle.event.specs.declared.Event.{Event}
use Rattle.event.specs.declared.Event.TheVariants.{Start, Finish, Token, Error, NoEvent}
use Rattle.laws.proofs.Tests.{by-test}
use Rattle.records.specs.declared.Step.{Step}
use Rattle.records.specs.declared.Step.TheVariants.{Enter as enter, Error as error, Expected as expected}
use Rattle.own.specs.Own.{enters}
use Rattle.turns.specs.Process.{Placed, placed, Parent, follow, entered, turn, turns, process}
use Rattle.listed.specs.Shape.{is_enter, others, plain}
use Rattle.events.proofs.Running.{length-turn}

others-append : (r s : List Placed) → others (r ++ s) ≡ others r ++ others s
unfolding others
others-append [] s = refl
others-append (x ∷ r) s = go (is_enter x.step) (others-append r s)
  where
    go : (t : Bool) → others (r ++ s) ≡ others r ++ others s → cond t (others (r ++ s)) (x ∷ others (r ++ s)) ≡ cond t (others r) (x ∷ others r) ++ others s
    go true e = e
    go false e = rw e

others-enters : (p k : ℕ) → others (placed p (enters k)) ≡ []
unfolding others
others-enters p k = by-test (λ (ss : List Step). others (placed p ss) ≡ []) (eqb k 0) [] (enter k ∷ []) (λ _. refl) (λ _. refl)

others-entered : (xs : List Parent) → others (entered xs) ≡ []
unfolding entered others
others-entered [] = refl
others-entered (x ∷ xs) = rw (others-append, others-entered xs) (others-enters x.place x.kind)

plain-follow : (p : ℕ) (es : List Event) (d : ℕ) → plain p (follow p es d).left ≡ plain p es
unfolding follow plain
plain-follow p [] zero = refl
plain-follow p [] (suc d) = refl
plain-follow p (e ∷ es) zero = refl
plain-follow p (Start k f ∷ es) (suc zero) = plain-follow (suc p) es f
plain-follow p (Finish ∷ es) (suc zero) = refl
plain-follow p (Token k n ∷ es) (suc zero) = refl
plain-follow p (Error c x f ∷ es) (suc zero) = refl
plain-follow p (NoEvent a b ∷ es) (suc zero) = refl
plain-follow p (e ∷ es) (suc (suc d)) = rw (plain-follow (suc p) es (suc d))

plain_turn : (p : ℕ) (e : Event) (es : List Event) → others (turn p e es).steps ++ plain (suc p) (turn p e es).left ≡ plain p (e ∷ es)
unfolding turn others plain
plain_turn p (Start k d) es = rw others-entered (plain-follow (suc p) es d)
plain_turn p Finish es = refl
plain_turn p (Token k n) es = refl
plain_turn p (Error c x f) es = by-test (λ (s : Step). others (placed p (s ∷ [])) ++ plain (suc p) es ≡ placed p (s ∷ []) ++ plain (suc p) es) (eqb c 1) (expected x f) (error c x) (λ _. refl) (λ _. refl)
plain_turn p (NoEvent a b) es = refl

plain-turns : (n p : ℕ) (es : List Event) → length es ≡ n → others (turns n p es).steps ≡ plain p es
unfolding turns others plain
plain-turns zero p [] l = refl
plain-turns zero p (e ∷ es) l = absurd (omega arith)
plain-turns (suc n) p [] l = absurd (omega arith)
plain-turns (suc n) p (e ∷ es) l =
    rw (others-append, plain-turns n (suc p) (turn p e es).left (omega (arith, length-turn p e es))) (plain_turn p e es)

pub in_order : (es : List Event) → others (process es).steps ≡ plain 0 es
in_order es = plain-turns (length es) 0 es refl
