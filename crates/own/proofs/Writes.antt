-- What events ask for themselves: one step or none, its bytes, and these written.
-- Assumes nothing.
use Prim.Native.Nat.{ℕ, ◌+◌, ◌≤◌}
use native.Mathlib.Omega.{arith}
use mathlib.Core.Path.{◌≡◌, ap, ◌∙◌}
use mathlib.Core.List.{List, [], ◌∷◌}
use lib.Dec.{eqb}
use lib.ListN.{length}
use borrow.Author.Tests.{eq-eqb, ne_eqb}
use Rattle.laws.proofs.Tests.{by-test}
use Rattle.event.specs.declared.Event.{Event}
use Rattle.event.specs.declared.Event.TheVariants.{Start, Finish, Token, Error, NoEvent}
use Rattle.records.specs.declared.Step.{Step}
use Rattle.records.specs.declared.Step.TheVariants.{Enter as enter, Error as error, Expected as expected}
use Rattle.records.specs.Record.{record_of, step_bytes, bytes, Wrote}
use Rattle.records.proofs.Writes.{wrote_none, bytes_one}
use Rattle.own.specs.Own.{own, cost}

-- a start with a kind asks for its enter, one without for nothing
pub own-kind : (e : Event) (k d : ℕ) → e ≡ Start k d → (k ≡ 0 → ⊥) → own e ≡ enter k ∷ []
own-kind e k d q n = ap own q ∙ rw (ne_eqb k 0 n)

pub own-none : (e : Event) (k d : ℕ) → e ≡ Start k d → k ≡ 0 → own e ≡ []
own-none e k d q z = ap own q ∙ rw (eq-eqb k 0 z)

-- the bytes of one step
pub cost-one : (e : Event) (s : Step) → own e ≡ s ∷ [] → cost e ≡ length (record_of s)
cost-one e s q = rw (q, bytes_one)

-- what is written of steps that are none, and of one
pub wrote-no-step : (l : List ℕ) (i : ℕ) (ss : List Step) → ss ≡ [] → Wrote l i (bytes ss) i l
unfolding bytes
wrote-no-step l i ss e = rw e (wrote_none l i)

pub wrote-step : (l : List ℕ) (i p : ℕ) (m : List ℕ) (ss : List Step) (s : Step) → ss ≡ s ∷ [] → Wrote l i (record_of s) p m → Wrote l i (bytes ss) p m
wrote-step l i p m ss s e w = rw (e, bytes_one) w

pub room-step : (i n : ℕ) (ss : List Step) (s : Step) → ss ≡ s ∷ [] → i + length (bytes ss) ≤ n → i + length (record_of s) ≤ n
room-step i n ss s e h = rw (e, bytes_one) at h

-- what an event asks for itself is one record at most
pub cost-le : (e : Event) → cost e ≤ step_bytes
unfolding bytes
cost-le (Start k d) = by-test (λ (ss : List Step). length (bytes ss) ≤ step_bytes) (eqb k 0) [] (enter k ∷ []) (λ _. omega arith) (λ _. omega arith)
cost-le Finish = omega arith
cost-le (Token k n) = omega arith
cost-le (Error c x f) = by-test (λ (s : Step). length (bytes (s ∷ [])) ≤ step_bytes) (eqb c 1) (expected x f) (error c x) (λ _. omega arith) (λ _. omega arith)
cost-le (NoEvent a b) = omega arith

-- and of a start six bytes at most
pub enter-le : (k d : ℕ) → cost (Start k d) ≤ 6
unfolding bytes
enter-le k d = by-test (λ (ss : List Step). length (bytes ss) ≤ 6) (eqb k 0) [] (enter k ∷ []) (λ _. omega arith) (λ _. omega arith)
