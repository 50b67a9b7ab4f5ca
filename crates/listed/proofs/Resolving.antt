-- The resolution in the words of specs/Conditions: what it says and leaves, exactly when. Assumes nothing.
use Prim.Native.Nat.{ℕ, zero, suc, ◌+◌, ◌*◌, ◌≤◌, ◌<◌}
use native.Mathlib.Omega.{arith}
use mathlib.Core.Path.{◌≡◌, refl, sym, ap, ◌∙◌}
use mathlib.Core.Bool.{Bool, true, false, not, cond}
use mathlib.Core.List.{List, [], ◌∷◌}
use lib.Dec.{eqb, ltb}
use lib.ListN.{length, replicate}
use borrow.Author.Tests.{ne_eqb, ltb-true, ltb-false}
use Rattle.event.specs.declared.Event.{Event}
use Rattle.event.specs.declared.Event.TheVariants.{Start, Finish, Token, Error, NoEvent}
use Rattle.event.specs.Event.{events_of, words_of, tombstone, is_token}
use Rattle.records.specs.declared.Step.TheVariants.{Error as error, Expected as expected}
use Rattle.records.specs.Record.{bytes, over}
use Rattle.lists.specs.Answer.{Numbers, says}
use Rattle.lists.specs.Check.{checked}
use Rattle.own.specs.Own.{need}
use Rattle.turns.specs.Process.{process, file}
use Rattle.events.specs.Resolve.{Outcome, ends, resolved}
use Rattle.events.proofs.Outcomes as O
use Rattle.events.proofs.Passing.{process-need}
use Rattle.listed.specs.WellFormed.{is_node, is_finish, count}
use Rattle.listed.specs.Conditions.{is_expected, is_error, needed, Faulty, Refused, Refused.list, Refused.small, First, Checks, Checks.passes, Checks.fails, Resolves, Resolves.done, Resolves.refuses}
use Rattle.listed.proofs.Theorems.{passing-resolves}
use Rattle.listed.proofs.Checking as C
use Rattle.listed.proofs.Checking.{agree, faulty-number, faulty-once}

-- the bytes that the code adds up are those of the records, counted
pub need-counted : (es : List Event) → need es ≡ needed es
unfolding need count bytes
need-counted [] = refl
need-counted (Start zero d ∷ es) = omega (arith, need-counted es)
need-counted (Start (suc k) d ∷ es) = rw (ne_eqb (suc k) 0 (λ z. omega arith)) (omega (arith, need-counted es))
need-counted (Finish ∷ es) = omega (arith, need-counted es)
need-counted (Token k n ∷ es) = omega (arith, need-counted es)
need-counted (Error c x f ∷ es) = by (eqb c 1) (need-counted es)
  where
    by : (t : Bool) → need es ≡ needed es
        → length (bytes (cond t (expected x f) (error c x) ∷ [])) + need es
        ≡ 6 * (0 + count is_node es) + 4 * (0 + count is_finish es) + 7 * (0 + count is_token es) + 8 * (cond (not t) 1 0 + count is_error es) + 10 * (cond t 1 0 + count is_expected es)
    by true h = omega (arith, h)
    by false h = omega (arith, h)
need-counted (NoEvent a b ∷ es) = omega (arith, need-counted es)

-- and the step file has as many
pub file-counted : (es : List Event) → length (file (process es).steps) ≡ needed es
file-counted es = process-need es ∙ need-counted es

module _ (ws out : List ℕ) where
  -- each condition has one place
  refused-once : (n p q : ℕ) → Refused ws out n p → Refused ws out n q → p ≡ q
  refused-once n p q x y = by n p x n q y refl
    where
      by : (n p : ℕ) → Refused ws out n p → (m q : ℕ) → Refused ws out m q → n ≡ m → p ≡ q
      by n p (list a b x) m q (list c d y) e = faulty-once ws c b d (rw e at x) y
      by n p (list a b x) m q (small k) e = absurd (omega (arith, (faulty-number ws a b x).1))
      by n p (small h) m q (list c d y) e = absurd (omega (arith, (faulty-number ws c d y).1))
      by n p (small h) m q (small k) e = refl

  -- Every resolution is told by what holds of what is lent.
  pub verdict : Resolves ws out (resolved ws out)
  verdict = by (checked ws) (C.verdict ws) refl
    where
      small-room : ((n p : ℕ) → Faulty ws n p → ⊥) → length out < needed (events_of ws) → First (Refused ws out) 10 (needed (events_of ws))
      small-room none l = record { holds = small l; before = before }
        where
          before : (m q : ℕ) → m < 10 → Refused ws out m q → ⊥
          before m q k (list a b x) = none a b x
          before m q k (small h) = omega arith

      room : (checked ws).code ≡ 0 → ((n p : ℕ) → Faulty ws n p → ⊥) → (t : Bool) → ltb (length out) (needed (events_of ws)) ≡ t → Resolves ws out (resolved ws out)
      room z none true t =
          let l : length out < needed (events_of ws) = ltb-true (length out) (needed (events_of ws)) t in
          rw (O.short ws out z (needed (events_of ws)) (sym (need-counted (events_of ws))) (rw need-counted l)) (refuses 10 (needed (events_of ws)) (small-room none l))
      room z none false t =
          let l : needed (events_of ws) ≤ length out = ltb-false (length out) (needed (events_of ws)) t in
          rw (passing-resolves ws z out (rw need-counted l), need-counted) (done (clear l))
        where
          clear : needed (events_of ws) ≤ length out → (n p : ℕ) → Refused ws out n p → ⊥
          clear l n p (list a b x) = none a b x
          clear l n p (small h) = omega arith

      first : (n p : ℕ) → First (Faulty ws) n p → First (Refused ws out) n p
      first n p f = record { holds = list n p f.holds; before = before }
        where
          before : (m q : ℕ) → m < n → Refused ws out m q → ⊥
          before m q l (list a b x) = f.before a b l x
          before m q l (small h) = omega (arith, (faulty-number ws n p f.holds).1)

      by : (a : Numbers) → Checks ws a → a ≡ checked ws → Resolves ws out (resolved ws out)
      by a (passes none) e = room (ap (λ (x : Numbers). x.code) (sym e)) none (ltb (length out) (needed (events_of ws))) refl
      by a (fails n p f) e = rw (O.refuses ws out (says n p) e (λ z. omega (arith, (faulty-number ws n p f.holds).0))) (refuses n p (first n p f))

  -- What holds is what it says and leaves.
  pub gives : (o : Outcome) → Resolves ws out o → resolved ws out ≡ o
  gives o x = by (resolved ws out) verdict o x
    where
      by : (a : Outcome) → Resolves ws out a → (b : Outcome) → Resolves ws out b → a ≡ b
      by a (done h) b (done k) = refl
      by a (done h) b (refuses n p f) = absurd (h n p f.holds)
      by a (refuses n p f) b (done k) = absurd (k n p f.holds)
      by a (refuses n p f) b (refuses m q g) = ap (λ (x : Numbers). ends x ws out) (agree (Refused ws out) refused-once n p m q f g)

  -- So a number is given only where its condition holds, at its place, and none before it does; then all that is lent stays as it was.
  pub given : (n p : ℕ) (ws₁ out₁ : List ℕ) → (n ≡ 0 → ⊥) → resolved ws out ≡ ends (says n p) ws₁ out₁ → First (Refused ws out) n p × (ws₁ ≡ ws) × (out₁ ≡ out)
  given n p ws₁ out₁ z e = by (resolved ws out) verdict e
    where
      by : (a : Outcome) → Resolves ws out a → a ≡ ends (says n p) ws₁ out₁ → First (Refused ws out) n p × (ws₁ ≡ ws) × (out₁ ≡ out)
      by a (done h) e =
          let r : says 0 (needed (events_of ws)) ≡ says n p = cc in
          absurd (z (sym (ap (λ (x : Numbers). x.code) r)))
      by a (refuses m q f) e =
          let r : says m q ≡ says n p = cc in
          let u : m ≡ n = ap (λ (x : Numbers). x.code) r in
          let v : q ≡ p = ap (λ (x : Numbers). x.place) r in
          (rw (u, v) at f, cc, cc)

  -- done exactly where no condition holds: the bytes are said, tombstones and the step file are left
  pub done-when : (p : ℕ) (ws₁ out₁ : List ℕ) → resolved ws out ≡ ends (says 0 p) ws₁ out₁
      → ((n q : ℕ) → Refused ws out n q → ⊥) × (p ≡ needed (events_of ws)) × (ws₁ ≡ words_of (replicate (length (events_of ws)) tombstone)) × (out₁ ≡ over out 0 (file (process (events_of ws)).steps))
  done-when p ws₁ out₁ e = by (resolved ws out) verdict e
    where
      by : (a : Outcome) → Resolves ws out a → a ≡ ends (says 0 p) ws₁ out₁
          → ((n q : ℕ) → Refused ws out n q → ⊥) × (p ≡ needed (events_of ws)) × (ws₁ ≡ words_of (replicate (length (events_of ws)) tombstone)) × (out₁ ≡ over out 0 (file (process (events_of ws)).steps))
      by a (done h) e =
          let r : says 0 (needed (events_of ws)) ≡ says 0 p = cc in
          (h, sym (ap (λ (x : Numbers). x.place) r), cc, cc)
      by a (refuses m q f) e =
          let r : says m q ≡ says 0 p = cc in
          absurd (number m q f.holds (ap (λ (x : Numbers). x.code) r))
        where
          number : (m q : ℕ) → Refused ws out m q → m ≡ 0 → ⊥
          number m q (list a b x) e = omega (arith, (faulty-number ws a b x).0)
          number m q (small h) e = omega arith
