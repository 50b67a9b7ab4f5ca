-- A start without a distance around a list that passes is the root of one tree. Assumes nothing.
use mathlib.Core.Path.{◌≡◌, refl, sym, ap, ◌∙◌}
use mathlib.Core.Bool.{true}
use mathlib.Core.List.{List, [], ◌∷◌, ◌++◌, map-append, append_assoc}
use Prim.Native.Nat.{ℕ, zero, suc}
use native.Mathlib.Omega.{arith}
use lib.ListN.{length}
use borrow.Author.Tests.{ne_eqb}
use Rattle.laws.proofs.Tests.{apart}
use Rattle.event.specs.declared.Event.{Event}
use Rattle.event.specs.declared.Event.TheVariants.{Start, Finish, Token, Error, NoEvent}
use Rattle.event.specs.Event.{distance}
use Rattle.records.specs.declared.Step.{Step}
use Rattle.records.specs.declared.Step.TheVariants.{Enter as enter, Leave as leave, Token as taken, Error as failed, Expected as wanted}
use Rattle.lists.specs.Check.{lands, scan}
use Rattle.turns.specs.Process.{Parent, follow, entered, turn, turns, steps_of}
use Rattle.listed.specs.Shape.{closes}
use Rattle.events.proofs.Running.{length-turn}
use Rattle.events.proofs.Passing.{lands-follow}
use Rattle.listed.proofs.Depth.{closes-turns}
use Rattle.stepfile.specs.Nesting.{nest, nests}
use Rattle.promises.specs.Promised.{Rooted}
use Rattle.promises.proofs.Passing.{Chain}

chain-follow : (p : ℕ) (es : List Event) (d : ℕ) → Chain es → Chain (follow p es d).left
unfolding follow
chain-follow p [] zero c = c
chain-follow p [] (suc d) c = c
chain-follow p (e ∷ es) zero c = c
chain-follow p (Start k f ∷ es) (suc zero) c = (refl, chain-follow (suc p) es f c.1)
chain-follow p (Finish ∷ es) (suc zero) c = c
chain-follow p (Token k n ∷ es) (suc zero) c = c
chain-follow p (Error x y f ∷ es) (suc zero) c = c
chain-follow p (NoEvent a b ∷ es) (suc zero) c = c
chain-follow p (e ∷ es) (suc (suc d)) c = (lands-follow (suc p) es (suc d) (distance e) ∙ c.0, chain-follow (suc p) es (suc d) c.1)

-- what comes behind a list is not met by its chains
follow-before : (p : ℕ) (es us : List Event) (d : ℕ) → Chain es → lands es d ≡ true → ((follow p (es ++ us) d).parents ≡ (follow p es d).parents) × ((follow p (es ++ us) d).left ≡ (follow p es d).left ++ us)
unfolding follow
follow-before p [] [] zero c h = (refl, refl)
follow-before p [] (u ∷ us) zero c h = (refl, refl)
follow-before p [] us (suc d) c h = apart h
follow-before p (e ∷ es) us zero c h = (refl, refl)
follow-before p (Start k f ∷ es) us (suc zero) c h =
    let r = follow-before (suc p) es us f c.1 c.0 in
    (ap (λ (xs : List Parent). record { place = p; kind = k } ∷ xs) r.0, ap (λ (xs : List Event). Start 0 0 ∷ xs) r.1)
follow-before p (Finish ∷ es) us (suc zero) c h = apart h
follow-before p (Token k n ∷ es) us (suc zero) c h = apart h
follow-before p (Error x y f ∷ es) us (suc zero) c h = apart h
follow-before p (NoEvent a b ∷ es) us (suc zero) c h = apart h
follow-before p (e ∷ es) us (suc (suc d)) c h = let r = follow-before (suc p) es us (suc d) c.1 h in (r.0, ap (λ (xs : List Event). e ∷ xs) r.1)

turn-before : (p : ℕ) (e : Event) (es us : List Event) → Chain (e ∷ es) → ((turn p e (es ++ us)).steps ≡ (turn p e es).steps) × ((turn p e (es ++ us)).left ≡ (turn p e es).left ++ us)
unfolding turn
turn-before p (Start k d) es us c = let r = follow-before (suc p) es us d c.1 c.0 in (ap (λ (xs : List Parent). entered (record { place = p; kind = k } ∷ xs)) r.0, r.1)
turn-before p Finish es us c = (refl, refl)
turn-before p (Token k n) es us c = (refl, refl)
turn-before p (Error x y f) es us c = (refl, refl)
turn-before p (NoEvent a b) es us c = (refl, refl)

chain-turn : (p : ℕ) (e : Event) (es : List Event) → Chain (e ∷ es) → Chain (turn p e es).left
unfolding turn
chain-turn p (Start k d) es c = chain-follow (suc p) es d c.1
chain-turn p Finish es c = c.1
chain-turn p (Token k n) es c = c.1
chain-turn p (Error x y f) es c = c.1
chain-turn p (NoEvent a b) es c = c.1

-- a finish behind a list comes last
steps-finish : (n p : ℕ) (es : List Event) → length es ≡ n → Chain es → steps_of (turns (suc n) p (es ++ Finish ∷ [])).steps ≡ steps_of (turns n p es).steps ++ leave ∷ []
unfolding turns turn
steps-finish zero p [] l c = refl
steps-finish zero p (e ∷ es) l c = absurd (omega arith)
steps-finish (suc n) p [] l c = absurd (omega arith)
steps-finish (suc n) p (e ∷ es) l c =
    let r = turn-before p e es (Finish ∷ []) c in
    rw (r.0, r.1, map-append, map-append)
    (ap (λ (ss : List Step). steps_of (turn p e es).steps ++ ss) (steps-finish n (suc p) (turn p e es).left (omega (arith, length-turn p e es)) (chain-turn p e es c)) ∙ sym (append_assoc (steps_of (turn p e es).steps) _ (leave ∷ [])))

closes-last : (ss : List Step) (r o : ℕ) → closes o ss ≡ true → nests (suc r) (suc o) (ss ++ leave ∷ []) ≡ true
unfolding closes nests nest
closes-last [] r zero h = refl
closes-last [] r (suc o) h = apart h
closes-last (enter k ∷ ss) r o h = closes-last ss (suc r) (suc o) h
closes-last (leave ∷ ss) r zero h = apart h
closes-last (leave ∷ ss) r (suc o) h = closes-last ss (suc r) o h
closes-last (taken k n ∷ ss) r o h = closes-last ss (suc r) o h
closes-last (failed c a ∷ ss) r o h = closes-last ss (suc r) o h
closes-last (wanted k f ∷ ss) r o h = closes-last ss (suc r) o h

first_alone : (p k : ℕ) (es : List Event) → (k ≡ 0 → ⊥) → (steps_of (turn p (Start k 0) es).steps ≡ enter k ∷ []) × ((turn p (Start k 0) es).left ≡ es)
unfolding turn follow entered
first_alone p k [] n = (rw (ne_eqb k 0 n), refl)
first_alone p k (e ∷ es) n = (rw (ne_eqb k 0 n), refl)

pub rooted : (k : ℕ) (es : List Event) → (k ≡ 0 → ⊥) → Chain es → (scan es 0 0).code ≡ 0 → Rooted k (steps_of (turns (suc (suc (length es))) 0 (Start k 0 ∷ (es ++ Finish ∷ []))).steps)
unfolding turns
rooted k es n c h =
    let f = first_alone 0 k (es ++ Finish ∷ []) n in
    record {
      rest = steps_of (turns (length es) 1 es).steps ++ leave ∷ [];
      first = rw (map-append, f.0, f.1) (ap (λ (ss : List Step). enter k ∷ ss) (steps-finish (length es) 1 es refl c));
      whole = closes-last (steps_of (turns (length es) 1 es).steps) 0 0 (closes-turns (length es) 1 es 0 0 refl h);
    }
