-- The check in the words of specs/WellFormed and specs/Conditions: what it says, exactly when. Assumes nothing.
use Prim.Native.Nat.{ℕ, ◌/◌, ◌%◌, ◌≤◌, ◌<◌}
use native.Mathlib.Omega.{arith}
use mathlib.Core.Path.{◌≡◌, refl, sym, ap}
use mathlib.Core.Bool.{Bool, true, false}
use mathlib.Core.List.{List}
use lib.Dec.{eqb, ltb}
use lib.ListN.{length}
use borrow.Author.Tests.{eqb-true, eqb-false, ltb-true, ltb-false}
use Rattle.event.specs.Event.{event_words, most_events, events_of}
use Rattle.laws.proofs.Tests.{by-test}
use Rattle.event.proofs.Rooms.{length-events}
use Rattle.lists.specs.Answer.{Numbers, says}
use Rattle.lists.specs.Check.{checked}
use Rattle.listed.specs.WellFormed.{WellFormed}
use Rattle.listed.specs.Conditions.{Faulty, Faulty.long, Faulty.odd, Faulty.fault, First, Checks, Checks.passes, Checks.fails}
use Rattle.listed.proofs.Forming.{Scanned, Scanned.fine, Scanned.stuck, scanned, formed-faultless, fault-once}

-- two first conditions are one, where each number's condition has one place
pub agree : (C : ℕ → ℕ → Type 0) → ((n p q : ℕ) → C n p → C n q → p ≡ q) → (m p n q : ℕ) → First C m p → First C n q → says m p ≡ says n q
agree C one m p n q f g = by (ltb m n) refl (ltb n m) refl
  where
    by : (a : Bool) → ltb m n ≡ a → (b : Bool) → ltb n m ≡ b → says m p ≡ says n q
    by true a b e = absurd (g.before m p (ltb-true m n a) f.holds)
    by false a true e = absurd (f.before n q (ltb-true n m e) g.holds)
    by false a false e =
        let z : m ≡ n = omega (arith, ltb-false m n a, ltb-false n m e) in
        rw z (ap (says n) (one n p q (rw z at f.holds) g.holds))

-- the numbers of a list's conditions, and of one that is not too long
pub faulty-number : (ws : List ℕ) (n p : ℕ) → Faulty ws n p → (2 ≤ n) × (n < 10)
faulty-number ws n p (long h) = (omega arith, omega arith)
faulty-number ws n p (odd h) = (omega arith, omega arith)
faulty-number ws n p (fault h i f) = (omega arith, omega arith)

faulty-nine : (ws : List ℕ) → length ws / event_words ≤ most_events → (n p : ℕ) → Faulty ws n p → n ≡ 9
faulty-nine ws l n p (long h) = absurd (omega arith)
faulty-nine ws l n p (odd h) = refl
faulty-nine ws l n p (fault h i f) = refl

-- each has one place
pub faulty-once : (ws : List ℕ) (n p q : ℕ) → Faulty ws n p → Faulty ws n q → p ≡ q
faulty-once ws n p q x y = by n p x n q y refl
  where
    by : (n p : ℕ) → Faulty ws n p → (m q : ℕ) → Faulty ws m q → n ≡ m → p ≡ q
    by n p (long h) m q (long k) e = refl
    by n p (long h) m q (odd k) e = absurd (omega arith)
    by n p (long h) m q (fault k j g) e = absurd (omega arith)
    by n p (odd h) m q (long k) e = absurd (omega arith)
    by n p (odd h) m q (odd k) e = refl
    by n p (odd h) m q (fault k j g) e = absurd (h k)
    by n p (fault h i f) m q (long k) e = absurd (omega arith)
    by n p (fault h i f) m q (odd k) e = absurd (k h)
    by n p (fault h i f) m q (fault k j g) e = fault-once _ i j f g

-- a list of few events in whole words that is well formed meets no condition
faultless : (ws : List ℕ) → length ws / event_words ≤ most_events → length ws % event_words ≡ 0 → WellFormed (events_of ws) → (n p : ℕ) → Faulty ws n p → ⊥
faultless ws l e w n p (long h) = omega arith
faultless ws l e w n p (odd h) = h e
faultless ws l e w n p (fault h i f) = formed-faultless (events_of ws) i w f

-- Every list is told by what holds of it.
pub verdict : (ws : List ℕ) → Checks ws (checked ws)
unfolding checked
verdict ws =
    by-test (Checks ws) (ltb most_events (length ws / event_words)) _ _
    (λ t. fails 2 0 (record { holds = long (ltb-true most_events (length ws / event_words) t); before = λ m q l f. omega (arith, (faulty-number ws m q f).0) }))
    (λ t. by-test (Checks ws) (eqb (length ws % event_words) 0) _ _
    (λ u. list (ltb-false most_events (length ws / event_words) t) (eqb-true (length ws % event_words) 0 u) _ (scanned ws))
    (λ u. nine (ltb-false most_events (length ws / event_words) t) _ (odd (eqb-false (length ws % event_words) 0 u))))
  where
    nine : length ws / event_words ≤ most_events → (p : ℕ) → Faulty ws 9 p → Checks ws (says 9 p)
    nine few p f = fails 9 p (record { holds = f; before = λ m q l g. omega (arith, faulty-nine ws few m q g) })

    list : length ws / event_words ≤ most_events → length ws % event_words ≡ 0 → (a : Numbers) → Scanned (events_of ws) a → Checks ws a
    list few even a (fine w) = rw length-events (passes (faultless ws few even w))
    list few even a (stuck p f) = nine few p (fault even p f)

-- What holds of a list is what the check says.
pub gives : (ws : List ℕ) (a : Numbers) → Checks ws a → checked ws ≡ a
gives ws a x = by (checked ws) (verdict ws) a x
  where
    by : (a : Numbers) → Checks ws a → (b : Numbers) → Checks ws b → a ≡ b
    by a (passes h) b (passes k) = refl
    by a (passes h) b (fails n p f) = absurd (h n p f.holds)
    by a (fails n p f) b (passes k) = absurd (k n p f.holds)
    by a (fails n p f) b (fails m q g) = agree (Faulty ws) (faulty-once ws) n p m q f g

-- So a number is given only where its condition holds, at its place, and none before it does.
pub given : (ws : List ℕ) (n p : ℕ) → (n ≡ 0 → ⊥) → checked ws ≡ says n p → First (Faulty ws) n p
given ws n p z e = by (checked ws) (verdict ws) e
  where
    by : (a : Numbers) → Checks ws a → a ≡ says n p → First (Faulty ws) n p
    by a (passes h) e = absurd (z (sym (ap (λ (x : Numbers). x.code) e)))
    by a (fails m q f) e =
        let u : m ≡ n = ap (λ (x : Numbers). x.code) e in
        let v : q ≡ p = ap (λ (x : Numbers). x.place) e in
        rw (u, v) at f

-- done exactly where no condition holds
pub done-when : (ws : List ℕ) → (checked ws).code ≡ 0 → (n p : ℕ) → Faulty ws n p → ⊥
done-when ws e = by (checked ws) (verdict ws) e
  where
    by : (a : Numbers) → Checks ws a → a.code ≡ 0 → (n p : ℕ) → Faulty ws n p → ⊥
    by a (passes h) e = h
    by a (fails m q f) e = absurd (omega (arith, (faulty-number ws m q f.holds).0))

-- A list of at most 65,536 events in an even number of words passes exactly where it is well formed.
pub formed-passes : (ws : List ℕ) → length ws / event_words ≤ most_events → length ws % event_words ≡ 0 → WellFormed (events_of ws) → checked ws ≡ says 0 (length ws / event_words)
formed-passes ws few even w = gives ws _ (passes (faultless ws few even w))

pub passing-formed : (ws : List ℕ) → (checked ws).code ≡ 0 → (length ws / event_words ≤ most_events) × (length ws % event_words ≡ 0) × WellFormed (events_of ws)
passing-formed ws e = (few (ltb most_events (length ws / event_words)) refl, even (eqb (length ws % event_words) 0) refl, formed _ (scanned ws))
  where
    none : (n p : ℕ) → Faulty ws n p → ⊥
    none = done-when ws e

    few : (t : Bool) → ltb most_events (length ws / event_words) ≡ t → length ws / event_words ≤ most_events
    few true t = absurd (none 2 0 (long (ltb-true most_events (length ws / event_words) t)))
    few false t = ltb-false most_events (length ws / event_words) t

    even : (t : Bool) → eqb (length ws % event_words) 0 ≡ t → length ws % event_words ≡ 0
    even true t = eqb-true (length ws % event_words) 0 t
    even false t = absurd (none 9 _ (odd (eqb-false (length ws % event_words) 0 t)))

    formed : (a : Numbers) → Scanned (events_of ws) a → WellFormed (events_of ws)
    formed a (fine w) = w
    formed a (stuck p f) = absurd (none 9 p (fault (even (eqb (length ws % event_words) 0) refl) p f))
