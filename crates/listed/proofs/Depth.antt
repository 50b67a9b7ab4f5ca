-- The steps of a list that passes close: a chain opens its nodes no later than their starts would.
-- Assumes nothing.
use Prim.Native.Nat.{ℕ, zero, suc, ◌+◌, min}
use native.Mathlib.Omega.{arith}
use native.Mathlib.Nat.{add-zero}
use mathlib.Core.Path.{◌≡◌, refl, ◌∙◌}
use mathlib.Core.Bool.{true}
use mathlib.Core.List.{List, [], ◌∷◌, ◌++◌, append_assoc, map-append}
use lib.Dec.{eqb}
use lib.ListN.{length}
use borrow.Author.Tests.{ne_eqb}
use Rattle.event.specs.declared.Event.{Event}
use Rattle.event.specs.declared.Event.TheVariants.{Start, Finish, Token, Error, NoEvent}
use Rattle.laws.proofs.Tests.{by-test}
use Rattle.records.specs.declared.Step.{Step}
use Rattle.records.specs.declared.Step.TheVariants.{Error as error, Expected as expected}
use Rattle.lists.specs.Answer.{says}
use Rattle.lists.specs.Check.{lands, next, on_next, scan}
use Rattle.own.specs.Own.{enters}
use Rattle.turns.specs.Process.{Parent, placed, follow, entered, turn, turns, process, steps_of}
use Rattle.listed.specs.Shape.{closes}
use Rattle.events.proofs.Running.{length-turn}
use Rattle.events.proofs.Passing.{pass-start, lands-follow}

-- how many nodes some parents open
pub count : List Parent → ℕ
count [] = 0
count (x ∷ xs) = min x.kind 1 + count xs

closes-enters : (o p k : ℕ) (ss : List Step) → closes o (steps_of (placed p (enters k)) ++ ss) ≡ closes (o + min k 1) ss
unfolding closes
closes-enters o p zero ss = let q : o + min 0 1 ≡ o = omega arith in rw q
closes-enters o p (suc k) ss = let q : o + min (suc k) 1 ≡ suc o = omega arith in rw (ne_eqb (suc k) 0 (λ z. omega arith), q)

closes-entered : (o : ℕ) (xs : List Parent) (ss : List Step) → closes o (steps_of (entered xs) ++ ss) ≡ closes (o + count xs) ss
unfolding entered count
closes-entered o [] ss = rw add-zero
closes-entered o (x ∷ xs) ss =
    let q : o + (min x.kind 1 + count xs) ≡ o + count xs + min x.kind 1 = omega arith in
    rw (map-append, append_assoc, closes-entered o xs (steps_of (placed x.place (enters x.kind)) ++ ss), q) (closes-enters (o + count xs) x.place x.kind ss)

-- a list that passes with o open passes, once a chain has opened m of its nodes early, with o + m open
keep : (e : Event) (es l : List Event) (i o m : ℕ)
    → ((p : ℕ) → (scan es (suc i) p).code ≡ 0 → (scan l (suc i) (p + m)).code ≡ 0)
    → ((x : ℕ) → lands l x ≡ lands es x)
    → (on_next (next e o es) (λ p. scan es (suc i) p) (says 9 i)).code ≡ 0
    → (on_next (next e (o + m) l) (λ p. scan l (suc i) p) (says 9 i)).code ≡ 0
unfolding next
keep (Start k d) es l i o m ih ll h =
    let q = pass-start (lands es d) (o + min k 1) i (λ p. scan es (suc i) p) h in
    let z : o + m + min k 1 ≡ o + min k 1 + m = omega arith in
    rw (ll d, q.0, z) (ih (o + min k 1) q.1)
keep Finish es l i zero m ih ll h = absurd (omega arith)
keep Finish es l i (suc o) m ih ll h = let z : suc o + m ≡ suc (o + m) = omega arith in rw z (ih o h)
keep (Token k n) es l i o m ih ll h = ih o h
keep (Error c x f) es l i o m ih ll h = ih o h
keep (NoEvent a b) es l i o m ih ll h = absurd (omega arith)

visited : (p k f : ℕ) (es : List Event) (i o : ℕ)
    → ((j q : ℕ) → (scan es j q).code ≡ 0 → (scan (follow (suc p) es f).left j (q + count (follow (suc p) es f).parents)).code ≡ 0)
    → (on_next (next (Start k f) o es) (λ q. scan es (suc i) q) (says 9 i)).code ≡ 0
    → (on_next (next (Start 0 0) (o + (min k 1 + count (follow (suc p) es f).parents)) (follow (suc p) es f).left) (λ q. scan (follow (suc p) es f).left (suc i) q) (says 9 i)).code ≡ 0
unfolding next
visited p k f es i o ih h =
    let q = pass-start (lands es f) (o + min k 1) i (λ p. scan es (suc i) p) h in
    let z : o + (min k 1 + count (follow (suc p) es f).parents) + min 0 1 ≡ o + min k 1 + count (follow (suc p) es f).parents = omega arith in
    rw z (ih (suc i) (o + min k 1) q.1)

pub scan-follow : (p : ℕ) (es : List Event) (d i o : ℕ) → (scan es i o).code ≡ 0 → (scan (follow p es d).left i (o + count (follow p es d).parents)).code ≡ 0
unfolding scan follow count
scan-follow p [] zero i o h = rw add-zero h
scan-follow p [] (suc d) i o h = rw add-zero h
scan-follow p (e ∷ es) zero i o h = rw add-zero h
scan-follow p (Start k f ∷ es) (suc zero) i o h = visited p k f es i o (λ j q. scan-follow (suc p) es f j q) h
scan-follow p (Finish ∷ es) (suc zero) i o h = rw add-zero h
scan-follow p (Token k n ∷ es) (suc zero) i o h = rw add-zero h
scan-follow p (Error c x f ∷ es) (suc zero) i o h = rw add-zero h
scan-follow p (NoEvent a b ∷ es) (suc zero) i o h = rw add-zero h
scan-follow p (e ∷ es) (suc (suc d)) i o h =
    keep e es (follow (suc p) es (suc d)).left i o (count (follow (suc p) es (suc d)).parents) (λ q. scan-follow (suc p) es (suc d) (suc i) q) (lands-follow (suc p) es (suc d)) h

-- a turn, and the steps that close behind it
closes-turn : (p : ℕ) (e : Event) (es : List Event) (i o : ℕ) (ss : List Step)
    → ((q : ℕ) → (scan (turn p e es).left (suc i) q).code ≡ 0 → closes q ss ≡ true)
    → (on_next (next e o es) (λ q. scan es (suc i) q) (says 9 i)).code ≡ 0
    → closes o (steps_of (turn p e es).steps ++ ss) ≡ true
unfolding next turn closes count
closes-turn p (Start k d) es i o ss ih h =
    let q = pass-start (lands es d) (o + min k 1) i (λ p. scan es (suc i) p) h in
    let z : o + (min k 1 + count (follow (suc p) es d).parents) ≡ o + min k 1 + count (follow (suc p) es d).parents = omega arith in
    closes-entered o (record { place = p; kind = k } ∷ (follow (suc p) es d).parents) ss
    ∙ rw z (ih (o + min k 1 + count (follow (suc p) es d).parents) (scan-follow (suc p) es d (suc i) (o + min k 1) q.1))
closes-turn p Finish es i zero ss ih h = absurd (omega arith)
closes-turn p Finish es i (suc o) ss ih h = ih o h
closes-turn p (Token k n) es i o ss ih h = ih o h
closes-turn p (Error c x f) es i o ss ih h = by-test (λ (s : Step). closes o (s ∷ ss) ≡ true) (eqb c 1) (expected x f) (error c x) (λ _. ih o h) (λ _. ih o h)
closes-turn p (NoEvent a b) es i o ss ih h = absurd (omega arith)

pub closes-turns : (n p : ℕ) (es : List Event) (i o : ℕ) → length es ≡ n → (scan es i o).code ≡ 0 → closes o (steps_of (turns n p es).steps) ≡ true
unfolding turns scan closes
closes-turns zero p [] i zero l h = refl
closes-turns zero p [] i (suc o) l h = absurd (omega arith)
closes-turns zero p (e ∷ es) i o l h = absurd (omega arith)
closes-turns (suc n) p [] i o l h = absurd (omega arith)
closes-turns (suc n) p (e ∷ es) i o l h =
    rw map-append (closes-turn p e es i o (steps_of (turns n (suc p) (turn p e es).left).steps) (λ q. closes-turns n (suc p) (turn p e es).left (suc i) q (omega (arith, length-turn p e es))) h)

pub scan-closes : (es : List Event) → (scan es 0 0).code ≡ 0 → closes 0 (steps_of (process es).steps) ≡ true
scan-closes es h = closes-turns (length es) 0 es 0 0 refl h
