-- What is proved of the calls and of the runs, beside the contracts. docs/ has a sentence for each.
-- Assumes nothing.
use Prim.Native.Nat.{ℕ, ◌≤◌}
use native.Mathlib.Omega.{arith}
use mathlib.Core.Path.{◌≡◌, refl, sym, ap, ◌∙◌}
use mathlib.Core.Bool.{true}
use mathlib.Core.List.{List, [], ◌∷◌}
use lib.Dec.{eqb, ltb}
use lib.ListN.{length, get_or, replicate}
use borrow.Author.Tests.{eqb-true}
use Rattle.std.specs.Prelude.{Result, Ok, Err}
use Rattle.lists.specs.declared.Refusal.{Refusal}
use Rattle.lists.specs.declared.Refusal.TheVariants.{TooLong, Faulty, NoRoom}
use Rattle.event.specs.declared.Event.{Event}
use Rattle.event.specs.declared.Event.TheVariants.{Start, NoEvent}
use Rattle.event.specs.Event.{events_of, words_of, tombstone}
use Rattle.laws.proofs.Tests.{by-test}
use Rattle.records.specs.declared.Step.TheVariants.{Enter as enter}
use Rattle.records.specs.Record.{over}
use Rattle.lists.specs.Answer.{Numbers, says, numbers}
use Rattle.lists.specs.Check.{checked}
use Rattle.own.specs.Own.{need}
use Rattle.turns.specs.Process.{process, file, steps_of}
use Rattle.events.specs.Resolve.{ends, panics, settled, resolved}
use Rattle.listed.specs.Shape.{closes, from}
use Rattle.own.proofs.Writes.{own-kind, own-none}
use Rattle.events.proofs.Running.{turns-left}
use Rattle.events.proofs.Passing.{passed-scan, passed-sound}
use Rattle.events.proofs.Outcomes.{resolves}
use Rattle.listed.proofs.Depth.{scan-closes}
use Rattle.listed.proofs.Places.{own-once}

-- two answers with the same number and place are the same
differ : (a b : Numbers) → a ≡ b → (a.code ≡ b.code → ⊥) → ⊥
differ a b e n = n (ap (λ (x : Numbers). x.code) e)

pub numbers-unique : (a b : Result ℕ Refusal) → numbers a ≡ numbers b → a ≡ b
numbers-unique (Ok m) (Ok n) e = ap (λ (k : ℕ). Ok k) (ap (λ (x : Numbers). x.place) e)
numbers-unique (Ok m) (Err TooLong) e = absurd (differ _ _ e (λ z. omega arith))
numbers-unique (Ok m) (Err (Faulty n)) e = absurd (differ _ _ e (λ z. omega arith))
numbers-unique (Ok m) (Err (NoRoom n)) e = absurd (differ _ _ e (λ z. omega arith))
numbers-unique (Err TooLong) (Ok n) e = absurd (differ _ _ e (λ z. omega arith))
numbers-unique (Err TooLong) (Err TooLong) e = refl
numbers-unique (Err TooLong) (Err (Faulty n)) e = absurd (differ _ _ e (λ z. omega arith))
numbers-unique (Err TooLong) (Err (NoRoom n)) e = absurd (differ _ _ e (λ z. omega arith))
numbers-unique (Err (Faulty m)) (Ok n) e = absurd (differ _ _ e (λ z. omega arith))
numbers-unique (Err (Faulty m)) (Err TooLong) e = absurd (differ _ _ e (λ z. omega arith))
numbers-unique (Err (Faulty m)) (Err (Faulty n)) e = ap (λ (k : ℕ). Err (Faulty k)) (ap (λ (x : Numbers). x.place) e)
numbers-unique (Err (Faulty m)) (Err (NoRoom n)) e = absurd (differ _ _ e (λ z. omega arith))
numbers-unique (Err (NoRoom m)) (Ok n) e = absurd (differ _ _ e (λ z. omega arith))
numbers-unique (Err (NoRoom m)) (Err TooLong) e = absurd (differ _ _ e (λ z. omega arith))
numbers-unique (Err (NoRoom m)) (Err (Faulty n)) e = absurd (differ _ _ e (λ z. omega arith))
numbers-unique (Err (NoRoom m)) (Err (NoRoom n)) e = ap (λ (k : ℕ). Err (NoRoom k)) (ap (λ (x : Numbers). x.place) e)

-- two answers that meet the contract of `check` are equal
pub check-unique : (ws : List ℕ) (a b : Result ℕ Refusal) → numbers a ≡ checked ws → numbers b ≡ checked ws → a ≡ b
check-unique ws a b p q = numbers-unique a b (p ∙ sym q)

-- and two that meet that of `resolve`, with the lists and rooms that they leave
pub resolve-unique : (ws out : List ℕ) (a b : Result ℕ Refusal) (ws₁ ws₂ out₁ out₂ : List ℕ)
    → resolved ws out ≡ ends (numbers a) ws₁ out₁ → resolved ws out ≡ ends (numbers b) ws₂ out₂ → (a ≡ b) × (ws₁ ≡ ws₂) × (out₁ ≡ out₂)
resolve-unique ws out a b ws₁ ws₂ out₁ out₂ p q =
    let n : numbers a ≡ numbers b = cc in
    (numbers-unique a b n, cc, cc)

module _ (ws : List ℕ) (passes : (checked ws).code ≡ 0) where
  -- a list that passes resolves, given enough room: the need is said, tombstones and the step file are left
  pub passing-resolves : (out : List ℕ) → need (events_of ws) ≤ length out
      → resolved ws out
      ≡ ends (says 0 (need (events_of ws))) (words_of (replicate (length (events_of ws)) tombstone)) (over out 0 (file (process (events_of ws)).steps))
  passing-resolves out h = rw (← turns-left (length (events_of ws)) 0 (events_of ws) refl) (resolves ws out passes h)

  -- its steps start and end at depth 0 and are never below
  pub passing-closes : closes 0 (steps_of (process (events_of ws)).steps) ≡ true
  passing-closes = scan-closes (events_of ws) (passed-scan ws passes)

-- no resolution panics: a list is refused, or `process` runs on it to the end
an-end : (a : Numbers) (w o : List ℕ) → ends a w o ≡ panics → ⊥
an-end a w o e = let z : ◌≡◌ {A = ℕ} 0 1 = cc in omega arith

pub never-panics : (ws out : List ℕ) → resolved ws out ≡ panics → ⊥
unfolding resolved
never-panics ws out =
    by-test (λ x. x ≡ panics → ⊥) (eqb (checked ws).code 0) _ _ passing (λ _. an-end _ _ _)
  where
    passing : eqb (checked ws).code 0 ≡ true → settled ws out (process (events_of ws)) ≡ panics → ⊥
    passing t =
        rw (passed-sound ws (eqb-true (checked ws).code 0 t))
        (by-test (λ x. x ≡ panics → ⊥) (ltb (length out) (length (file (process (events_of ws)).steps))) _ _ (λ _. an-end _ _ _) (λ _. an-end _ _ _))

-- Each start with a kind is entered exactly once, and nothing else comes from its place. From a tombstone's comes nothing at all.
pub entered-once : (es : List Event) (i k d : ℕ) → get_or es i (NoEvent 0 0) ≡ Start k d → (k ≡ 0 → ⊥) → from i (process es).steps ≡ enter k ∷ []
entered-once es i k d e n = own-once es i ∙ own-kind _ k d e n

pub tombstone-never : (es : List Event) (i d : ℕ) → get_or es i (NoEvent 0 0) ≡ Start 0 d → from i (process es).steps ≡ []
tombstone-never es i d e = own-once es i ∙ own-none _ 0 d e refl
