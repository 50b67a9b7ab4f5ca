-- The check's scan against the words of specs/WellFormed: it passes a list that is well formed, and stops at the first fault of another.
-- Assumes nothing.
use Prim.Native.Nat.{ℕ, zero, suc, ◌+◌, ◌*◌, ◌/◌, ◌≤◌, ◌<◌, min}
use native.Mathlib.Omega.{arith}
use mathlib.Core.Path.{◌≡◌, refl, sym, ap, ◌∙◌, subst}
use mathlib.Core.Bool.{Bool, true, false, cond}
use mathlib.Core.List.{List, [], ◌∷◌}
use lib.Dec.{eqb, ltb}
use lib.ListN.{length, get_or, take, drop, drop_of_length-le, get_or-eq_default}
use lib.Seq.{drop-cons}
use borrow.Author.Tests.{ne_eqb, eqb-true, eqb-false, ltb-true, ltb-false}
use Rattle.event.specs.declared.Event.{Event}
use Rattle.event.specs.declared.Event.TheVariants.{Start, Finish, Token, Error, NoEvent}
use Rattle.event.specs.declared.Words.{Words}
use Rattle.event.specs.Event.{event_words, encode, decode, events_of, Sound, is_start, distance}
use Rattle.laws.proofs.Tests.{by-test, apart}
use Rattle.event.proofs.Encoding.{decode-encode, encode-decode, decode-sound}
use Rattle.event.proofs.Rooms.{length-events, event-index}
use Rattle.lists.specs.Answer.{Numbers, says}
use Rattle.lists.specs.Check.{Next, Next.Open, Next.Fault, lands, next, on_next, scan}
use Rattle.lists.proofs.Scans.{lands-index}
use Rattle.listed.specs.WellFormed.{is_node, is_finish, count, opened, closed, event_at, StartAt, Right, Wrong, Wrong.no-event, Wrong.astray, Wrong.below, WellFormed, Fault as FaultAt, Fault.first, Fault.unclosed, Said}

-- ---- one more event

pub count-suc : (is : Event → Bool) (es : List Event) (i : ℕ) → i < length es → count is (take (suc i) es) ≡ count is (take i es) + cond (is (event_at es i)) 1 0
unfolding count
count-suc is [] i h = absurd (omega arith)
count-suc is (e ∷ es) zero h = omega arith
count-suc is (e ∷ es) (suc i) h = omega (arith, count-suc is es i (omega arith))

one-node : (k : ℕ) → cond (cond (eqb k 0) false true) 1 0 ≡ min k 1
one-node zero = refl
one-node (suc k) = rw (ne_eqb (suc k) 0 (λ z. omega arith)) (omega arith)

start-at : (es : List Event) (j : ℕ) → is_start (event_at es j) ≡ true → StartAt es j
start-at es j s = by (ltb j (length es)) refl
  where
    by : (t : Bool) → ltb j (length es) ≡ t → StartAt es j
    by true t = record { inside = ltb-true j (length es) t; start = s }
    by false t = apart (sym (ap is_start (get_or-eq_default es (NoEvent 0 0) (ltb-false j (length es) t))) ∙ s)

-- ---- events that words say: sound, or none

abbrev pub Kept : Event → Type 0
Kept (Start k d) = Sound (Start k d)
Kept Finish = Unit {0}
Kept (Token k n) = Sound (Token k n)
Kept (Error c x f) = Sound (Error c x f)
Kept (NoEvent a b) = Unit {0}

kept : (a b : ℕ) → Kept (decode a b)
kept a b = by (decode a b) refl
  where
    by : (e : Event) → decode a b ≡ e → Kept e
    by (Start k d) q = rw q at (decode-sound a b (λ z. let y : ◌≡◌ {A = ℕ} 0 1 = cc in omega arith))
    by Finish q = tt
    by (Token k n) q = rw q at (decode-sound a b (λ z. let y : ◌≡◌ {A = ℕ} 0 1 = cc in omega arith))
    by (Error c x f) q = rw q at (decode-sound a b (λ z. let y : ◌≡◌ {A = ℕ} 0 1 = cc in omega arith))
    by (NoEvent x y) q = tt

pub kept_at : (ws : List ℕ) (i : ℕ) → Kept (event_at (events_of ws) i)
kept_at ws i = by (ltb i (length (events_of ws))) refl
  where
    by : (t : Bool) → ltb i (length (events_of ws)) ≡ t → Kept (event_at (events_of ws) i)
    by true t = rw (← event-index ws i (omega (arith, ltb-true i (length (events_of ws)) t, length-events ws))) (kept _ _)
    by false t = rw (get_or-eq_default (events_of ws) (NoEvent 0 0) (ltb-false i (length (events_of ws)) t)) tt

-- a pair of words is an event exactly where it is the words of a sound one
pub event-said : (ws : List ℕ) (i : ℕ) → i < length ws / event_words → Sound (event_at (events_of ws) i) → Said ws i
event-said ws i h s =
    record { event = event_at (events_of ws) i; sound = s; pair = ap encode (sym (event-index ws i h)) ∙ encode-decode (get_or ws (event_words * i) 0) (get_or ws (event_words * i + 1) 0) }

pub said-event : (ws : List ℕ) (i : ℕ) → i < length ws / event_words → Said ws i → Sound (event_at (events_of ws) i)
said-event ws i h s =
    let e : decode (get_or ws (event_words * i) 0) (get_or ws (event_words * i + 1) 0) ≡ s.event = sym (ap (λ (w : Words). decode w.first w.second) s.pair) ∙ decode-encode s.event s.sound in
    rw (← event-index ws i h, e) s.sound

-- ---- what an event comes to

data Met (es : List Event) (i : ℕ) : Next → Type 0 where
  on : (p : ℕ) → Right es i → closed es (suc i) + p ≡ opened es (suc i) → Met es i (Open p)
  off : Wrong es i → Met es i Fault

meets : (es : List Event) (i o : ℕ) → i < length es → Kept (event_at es i) → closed es i + o ≡ opened es i → Met es i (next (event_at es i) o (drop (suc i) es))
unfolding next
meets es i o h s c = by (event_at es i) o refl c
  where
    opens : (e : Event) → event_at es i ≡ e → opened es (suc i) ≡ opened es i + cond (is_node e) 1 0
    opens e q = count-suc is_node es i h ∙ ap (λ (x : Event). opened es i + cond (is_node x) 1 0) q

    closes : (e : Event) → event_at es i ≡ e → closed es (suc i) ≡ closed es i + cond (is_finish e) 1 0
    closes e q = count-suc is_finish es i h ∙ ap (λ (x : Event). closed es i + cond (is_finish x) 1 0) q

    right : (e : Event) → event_at es i ≡ e → Sound e → ((distance e ≡ 0 → ⊥) → StartAt es (i + distance e)) → closed es (suc i) ≤ opened es (suc i) → Right es i
    right e q a l d = record { event = rw q a; lands = rw q l; depth = d }

    by : (e : Event) (o : ℕ) → event_at es i ≡ e → closed es i + o ≡ opened es i → Met es i (next e o (drop (suc i) es))
    by (Start k d) o q c =
        let a : opened es (suc i) ≡ opened es i + min k 1 = opens (Start k d) q ∙ ap (λ (x : ℕ). opened es i + x) (one-node k) in
        let b : closed es (suc i) ≡ closed es i + 0 = closes (Start k d) q in
        by-test (Met es i) (lands (drop (suc i) es) d) _ _
        (λ t. on (o + min k 1) (right (Start k d) q (rw q at s) (λ n. start-at es (i + d) (lands-index es i d n ∙ t)) (omega arith)) (omega arith))
        (λ t. off (astray (rw q (lost d t)) (rw q (λ u. apart (sym t ∙ sym (lands-index es i d (lost d t)) ∙ u.start)))))
      where
        lost : (d : ℕ) → lands (drop (suc i) es) d ≡ false → d ≡ 0 → ⊥
        lost zero t z = apart (sym t)
        lost (suc d) t z = omega arith
    by Finish zero q c = off (below (omega (arith, opens Finish q, closes Finish q)))
    by Finish (suc o) q c = on o (right Finish q tt (λ n. absurd (n refl)) (omega (arith, opens Finish q, closes Finish q))) (omega (arith, opens Finish q, closes Finish q))
    by (Token k n) o q c = on o (right (Token k n) q (rw q at s) (λ n. absurd (n refl)) (omega (arith, opens (Token k n) q, closes (Token k n) q))) (omega (arith, opens (Token k n) q, closes (Token k n) q))
    by (Error k x f) o q c = on o (right (Error k x f) q (rw q at s) (λ n. absurd (n refl)) (omega (arith, opens (Error k x f) q, closes (Error k x f) q))) (omega (arith, opens (Error k x f) q, closes (Error k x f) q))
    by (NoEvent x y) o q c = off (no-event (rw q (λ n. n)))

-- ---- what the scan comes to

pub data Scanned (es : List Event) : Numbers → Type 0 where
  fine : WellFormed es → Scanned es (says 0 (length es))
  stuck : (p : ℕ) → FaultAt es p → Scanned es (says 9 p)

-- what holds of all before i and of i holds of all up to i
upto : (P : ℕ → Type 0) (i : ℕ) → ((j : ℕ) → j < i → P j) → P i → (j : ℕ) → j < suc i → P j
upto P i f x j l = by (eqb j i) refl
  where
    by : (t : Bool) → eqb j i ≡ t → P j
    by true t = subst P (sym (eqb-true j i t)) x
    by false t = f j (omega (arith, eqb-false j i t))

ended : (es : List Event) (i o : ℕ) → i ≡ length es → ((j : ℕ) → j < i → Right es j) → closed es i + o ≡ opened es i → Scanned es (scan [] i o)
unfolding scan
ended es i zero q r c = rw q (fine (record { right = λ j l. r j (omega arith); zero = omega (arith, rw q at c) }))
ended es i (suc o) q r c = rw q (stuck (length es) (unclosed (λ j l. r j (omega arith)) (omega (arith, rw q at c))))

scans : (es : List Event) → ((j : ℕ) → Kept (event_at es j)) → (m i o : ℕ) → m + i ≡ length es → ((j : ℕ) → j < i → Right es j) → closed es i + o ≡ opened es i
    → Scanned es (scan (drop i es) i o)
unfolding scan
scans es s zero i o e r c = let l : length es ≤ i = omega arith in rw (drop_of_length-le es l) (ended es i o (omega arith) r c)
scans es s (suc m) i o e r c =
    let h : i < length es = omega arith in
    rw (drop-cons es i (NoEvent 0 0) h) (go h (λ p R d. scans es s m (suc i) p (omega arith) (upto (Right es) i r R) d) _ (meets es i o h (s i) c))
  where
    go : i < length es → ((p : ℕ) → Right es i → closed es (suc i) + p ≡ opened es (suc i) → Scanned es (scan (drop (suc i) es) (suc i) p)) → (x : Next) → Met es i x
        → Scanned es (on_next x (λ p. scan (drop (suc i) es) (suc i) p) (says 9 i))
    go h ih x (on p R d) = ih p R d
    go h ih x (off w) = stuck i (first i h r w)

pub scanned : (ws : List ℕ) → Scanned (events_of ws) (scan (events_of ws) 0 0)
unfolding count
scanned ws =
    let z : length (events_of ws) + 0 ≡ length (events_of ws) = omega arith in
    scans (events_of ws) (kept_at ws) (length (events_of ws)) 0 0 z (λ j l. absurd (omega arith)) refl

-- ---- right and wrong exclude one another, and there is one first fault

pub wrong-right : (es : List Event) (i : ℕ) → Wrong es i → Right es i → ⊥
wrong-right es i (no-event n) r = n r.event
wrong-right es i (astray d n) r = n (r.lands d)
wrong-right es i (below l) r = omega (arith, r.depth)

pub formed-faultless : (es : List Event) (p : ℕ) → WellFormed es → FaultAt es p → ⊥
formed-faultless es p w (first i h r x) = wrong-right es i x (w.right i h)
formed-faultless es p w (unclosed r l) = omega (arith, w.zero)

-- of two places at which something first happens none is before the other
same_place : (es : List Event) (i j : ℕ) → Wrong es i → ((k : ℕ) → k < i → Right es k) → Wrong es j → ((k : ℕ) → k < j → Right es k) → i ≡ j
same_place es i j x r y t = by (ltb i j) refl (ltb j i) refl
  where
    by : (a : Bool) → ltb i j ≡ a → (b : Bool) → ltb j i ≡ b → i ≡ j
    by true a b e = absurd (wrong-right es i x (t i (ltb-true i j a)))
    by false a true e = absurd (wrong-right es j y (r j (ltb-true j i e)))
    by false a false e = omega (arith, ltb-false i j a, ltb-false j i e)

pub fault-once : (es : List Event) (p q : ℕ) → FaultAt es p → FaultAt es q → p ≡ q
fault-once es p q (first i h r x) (first j k t y) = same_place es i j x r y t
fault-once es p q (first i h r x) (unclosed t l) = absurd (wrong-right es i x (t i h))
fault-once es p q (unclosed r l) (first j k t y) = absurd (wrong-right es j y (r j k))
fault-once es p q (unclosed r l) (unclosed t m) = refl
