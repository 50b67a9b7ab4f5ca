-- Acts that handle their markers well, and what their runs leave. Assumes nothing.
use mathlib.Core.Path.{◌≡◌, refl, sym, ap, ◌∙◌, subst}
use mathlib.Core.Logic.{◌⊎◌, inl, inr}
use mathlib.Core.List.{List, [], ◌∷◌, ◌++◌}
use mathlib.Core.Bool.{Bool, true, false, not, cond}
use Prim.Native.Nat.{ℕ, ◌+◌, ◌-◌, ◌≤◌, ◌<◌, min}
use native.Mathlib.Omega.{arith}
use lib.ListN.{length, get_or, set, length-set, get_or-eq_default}
use lib.Seq.{get_or-take, length-take-le, take-set-lt}
use lib.Dec.{T, eqb, ltb, ltb→lt}
use borrow.Author.Tests.{eqb-true, eqb-false, ltb-true, ltb-false, eq-eqb}
use Rattle.kinds.specs.Kinds.{TOMBSTONE, EOF}
use Rattle.kinds.specs.Membership.{both}
use Rattle.event.specs.declared.Event.{Event}
use Rattle.event.specs.declared.Event.TheVariants.{Start, Finish, Token, Error, NoEvent}
use Rattle.event.specs.Event.{holds, is_start, is_bare, with_kind, with_distance, Sound}
use Rattle.event.proofs.Encoding.{bare-start}
use Rattle.laws.proofs.Tests.{by-test}
use Rattle.kinds.proofs.Laws.{both-parts}
use Rattle.input.specs.declared.Parts.{Parts}
use Rattle.input.specs.declared.Parts.TheVariants.{One}
use Rattle.runtime.specs.State.{Parser}
use Rattle.input.specs.Input.{Env, seen}
use Rattle.input.specs.Glue.{glued_kinds, parts_in, parts_of, raw_count, stands_at}
use Rattle.runtime.specs.State.{St, live, looked, halted, stop_number, numbers, added, rewritten, refuse, popped, event_at, push_event, enough, consume, do_bump, named, linked, dropped, most_looks, counted, refusal, consumed, Fit, gap}
use Rattle.runtime.specs.Cover.{events}
use Rattle.runtime.specs.Acts.{Act, Act.looks, Act.peeks, Act.eats, Act.takes, Act.starts, Act.completes, Act.abandons, Act.precedes, Act.extends, Act.fails, Act.lacks, Act.stops, Act.asks, Answer, kind_ahead, sees, step, Acts, Acts.done, Acts.act, run}
use Rattle.runtime.proofs.Kept.{kept_step}
use Rattle.runtime.proofs.Laws.{stop-number}
use Rattle.input.proofs.Reading.{few-parts}
use Rattle.runtime.proofs.Runs.{fits, Held, helds, refused-run}
use Rattle.runs.proofs.Covered.{events-added, events-popped, Other}
use Rattle.markers.proofs.Marks.{Marker.fresh, Marker.made, Marks, Free, at, start-below}
use Rattle.markers.proofs.Live.{Live, live-add, live-start, Closes, Drops, Has, Extends, closes_at, drops-at, has-at, extends-at, bare-extends, live-complete, live-drop, live-pop, live-extend, live-precede}

-- a kind that a node can have, and a number that fits
abbrev pub small : ℕ → Bool
small n = ltb n 65536

-- a code that `error` may have: that of "expected KIND" is another's
abbrev pub ordinary : ℕ → Bool
ordinary c = both (small c) (not (eqb c 1))

abbrev pub node_kind : ℕ → Bool
node_kind k = both (ltb 0 k) (small k)

-- How an act handles the markers of a run, by its answer: it is silent and leaves them as they are; or it finds something in the state, and
-- leaves others; or nothing follows it.
pub data Handling (X : Type 0) : Type 1 where
  silent : Handling X
  leaves : (St → Type 0) → (X → Marks → Marks → Type 0) → Handling X
  halts : Handling X

-- A row for each act. `complete` finds a start that has neither kind nor distance, so one that was not completed before, and gives it a
-- kind. `abandon` finds such a start on which no distance lands, so none that `precede` made. `precede` finds a start, and `extend_to` two,
-- its marker bare and before the other.
abbrev pub handling : (a : Act) → Handling (Answer a)
handling (looks n) = silent
handling (peeks n k) = silent
handling (eats k) = silent
handling takes = silent
handling starts = leaves (λ s. Unit {0}) (λ i o r. r ≡ fresh i ∷ o)
handling (completes m k) = leaves (λ s. (is_bare (event_at s m) ≡ true) × (0 < k)) (λ x o r. T (node_kind k) × Closes m o r)
handling (abandons m) = leaves (λ s. (is_bare (event_at s m) ≡ true) × Free (events s) m) (λ x o r. Drops m o r)
handling (precedes m) = leaves (λ s. is_start (event_at s m) ≡ true) (λ i o r. Has m o × (r ≡ made i ∷ o))
handling (extends to m) = leaves (λ s. (is_bare (event_at s m) ≡ true) × (is_start (event_at s to) ≡ true) × (m < to)) (λ x o r. Extends m to o r)
handling (fails c a) = leaves (λ s. Other c) (λ x o r. T (both (ordinary c) (small a)) × (r ≡ o))
handling (lacks k) = leaves (λ s. Unit {0}) (λ x o r. T (small k) × (r ≡ o))
handling (stops why) = halts
handling asks = silent

-- what follows an act is S, of its answer and the markers left
abbrev pub SafeBy : {X : Type 0} → Handling X → Marks → (X → Marks → Type 0) → Type 0
SafeBy {X} silent o S = (x : X) → S x o
SafeBy {X} (leaves F R) o S = (x : X) → (r : Marks) × R x o r × S x r
SafeBy halts o S = Unit {0}

-- Acts that handle their markers well, from the markers o on, whatever is seen: they end with an answer and markers that meet Q.
abbrev pub Safe : {A : Type 0} → Acts A → Marks → (A → Marks → Type 0) → Type 0
Safe (done a) o Q = Q a o
Safe (act a m) o Q = SafeBy (handling a) o (λ x r. Safe (m x) r Q)

-- what an act finds
abbrev pub Finds : {X : Type 0} → Handling X → St → Type 0
Finds silent s = Unit {0}
Finds (leaves F R) s = F s
Finds halts s = Unit {0}

-- the kinds of the input fit 16 bits
pub record Bounded (e : Env) : Type 0 where
  pub kind : (i : ℕ) → get_or e.kinds i EOF < 65536

pub seen-small : (e : Env) → Bounded e → (n i : ℕ) → seen e.kinds n i < 65536
unfolding seen
seen-small e h n i = by-test (λ (x : ℕ). x < 65536) (eqb n 0) (get_or e.kinds i EOF) EOF (λ q. h.kind i) (λ q. omega arith)

-- What a run that is not refused has.
pub record WellMade (o : Marks) (s : St) : Type 0 where
  pub list : s.p.refused ≡ 0 → Live o (events s)

refused-sound : (o : Marks) (s : St) → (s.p.refused ≡ 0 → ⊥) → WellMade o s
refused-sound o s n = record { list = λ z. absurd (n z) }

pub at-event : (s : St) (m : ℕ) → Held s → event_at s m ≡ at (events s) m
unfolding event_at
at-event s m h = by (ltb m s.p.len) refl
  where
    by : (b : Bool) → ltb m s.p.len ≡ b → cond b (get_or s.room m (NoEvent 0 0)) (NoEvent 0 0) ≡ at (events s) m
    by true q = sym (get_or-take s.p.len s.room m (NoEvent 0 0) (ltb-true _ _ q))
    by false q = sym (get_or-eq_default (events s) (NoEvent 0 0) (rw (length-take-le s.p.len s.room h) (ltb-false _ _ q)))

pub count : (s : St) → Held s → length (events s) ≡ s.p.len
count s h = length-take-le s.p.len s.room h

-- Each way to change a state.
module _ (s : St) (held : Held s) where
  pushed : (o : Marks) (v : Event) → (s.p.refused ≡ 0 → s.p.len < 65536 → Live o (events s ++ v ∷ [])) → WellMade o (push_event v s)
  unfolding push_event
  pushed o v g =
      by-test (WellMade o) (live s.p) (cond (ltb s.p.len (holds (length s.room))) (added v s) (refuse 5 s)) s
      (λ q. by-test (WellMade o) (ltb s.p.len (holds (length s.room))) (added v s) (refuse 5 s)
      (λ l. let m : s.p.len < min (length s.room) 65536 = ltb-true _ _ l in record { list = λ y. rw (events-added s.room s.p.len v (omega arith)) (g (eqb-true _ _ q) (omega arith)) })
      (λ l. refused-sound o (refuse 5 s) (λ z. omega arith)))
      (λ q. refused-sound o s (eqb-false _ _ q))

  looking : (o : Marks) → WellMade o s → WellMade o (numbers (looked s.p) s)
  unfolding looked
  looking o h =
      by-test (λ (p : Parser). WellMade o (numbers p s)) (live s.p) (cond (ltb s.p.since most_looks) (counted s.p) (refusal 7 s.p)) s.p
      (λ q. by-test (λ (p : Parser). WellMade o (numbers p s)) (ltb s.p.since most_looks) (counted s.p) (refusal 7 s.p)
      (λ l. record { list = h.list })
      (λ l. refused-sound o (refuse 7 s) (λ z. omega arith)))
      (λ q. record { list = h.list })

  consuming : (o : Marks) (k n : ℕ) → (s.p.refused ≡ 0 → Sound (Token k n)) → WellMade o s → (b : Bool) → WellMade o (cond b (consume n (push_event (Token k n) s)) (numbers (halted 8 s.p) s))
  unfolding consume halted
  consuming o k n f h true =
      let p : WellMade o (push_event (Token k n) s) = pushed o (Token k n) (λ z l. live-add o (events s) (Token k n) refl refl (f z) (h.list z)) in
      by-test (WellMade o) (live (push_event (Token k n) s).p) (numbers (consumed n (push_event (Token k n) s).p) (push_event (Token k n) s)) (push_event (Token k n) s) (λ q. record { list = λ z. p.list (eqb-true _ _ q) }) (λ q. p)
  consuming o k n f h false =
      by-test (λ (p : Parser). WellMade o (numbers p s)) (live s.p) (refusal 8 s.p) s.p
      (λ q. refused-sound o (refuse 8 s) (λ z. omega arith))
      (λ q. record { list = h.list })

  bumped : (e : Env) (o : Marks) (k n : ℕ) → (s.p.refused ≡ 0 → Sound (Token k n)) → WellMade o s → WellMade o (do_bump e k n s)
  unfolding do_bump
  bumped e o k n f h = consuming o k n f h (enough e s.p n)

  failed : (o : Marks) (c a f : ℕ) → Sound (Error c a f) → WellMade o s → WellMade o (push_event (Error c a f) s)
  failed o c a f b h = pushed o (Error c a f) (λ z l. live-add o (events s) (Error c a f) refl refl b (h.list z))

  pub started : (o : Marks) → WellMade o s → WellMade (fresh s.p.len ∷ o) (push_event (Start TOMBSTONE 0) s)
  started o h =
      pushed (fresh s.p.len ∷ o) (Start TOMBSTONE 0)
      (λ z l. subst (λ (n : ℕ). Live (fresh n ∷ o) (events s ++ Start 0 0 ∷ [])) (count s held) (live-start o (events s) (h.list z)))

  -- a start that is rewritten
  pub rewrote : (m : ℕ) (v : Event) → m < s.p.len → events (rewritten m v s) ≡ set (events s) m v
  rewrote m v l = take-set-lt s.p.len s.room m v l

-- `complete`
completed : (s : St) → Held s → (i k : ℕ) {o o' : Marks} → T (node_kind k) → Closes i o o' → WellMade o s → WellMade o' (push_event Finish (named i k s))
unfolding named
completed s held i k {o} {o'} t c h = by (live s.p) refl
  where
    by : (b : Bool) → live s.p ≡ b → WellMade o' (push_event Finish (cond b (cond (is_start (event_at s i)) (rewritten i (with_kind k (event_at s i)) s) (refuse 8 s)) s))
    by true q =
        let z : s.p.refused ≡ 0 = eqb-true _ _ q in
        let g : Live o (events s) = h.list z in
        let w = closes_at i (length (events s)) (events s) c g.marks in
        let e : event_at s i ≡ at (events s) i = at-event s i held in
        let l : i < s.p.len = omega (arith, w.0, count s held) in
        let n = both-parts (ltb 0 k) (small k) t in
        let r : St = rewritten i (with_kind k (at (events s) i)) s in
        rw (e, bare-start (at (events s) i) w.1)
        (pushed (rewritten i (with_kind k (at (events s) i)) s) (rw (length-set s.room i (with_kind k (at (events s) i))) held) o' Finish
        (λ y m. rw (rewrote s held i (with_kind k (at (events s) i)) l) (live-complete (events s) i k w.1 (λ f. omega (arith, ltb→lt 0 k n.0)) (ltb→lt k 65536 n.1) c g)))
    by false q = pushed s held o' Finish (λ z l. absurd (eqb-false _ _ q z))

-- `abandon`
abandoned : (s : St) → Held s → (i : ℕ) {o o' : Marks} → Drops i o o' → WellMade o s → WellMade o' (dropped i s)
unfolding dropped
abandoned s held i {o} {o'} d h =
    by-test (WellMade o') (live s.p) (cond (eqb (i + 1) s.p.len) (cond (is_bare (event_at s i)) (popped s) (refuse 8 s)) s) s
    (λ q. by-test (WellMade o') (eqb (i + 1) s.p.len) (cond (is_bare (event_at s i)) (popped s) (refuse 8 s)) s
    (λ l. by-test (WellMade o') (is_bare (event_at s i)) (popped s) (refuse 8 s)
    (λ t. let e : i + 1 ≡ s.p.len = eqb-true _ _ l in record { list = λ z. rw (events-popped s.room s.p.len i (NoEvent 0 0) e) (live-pop i (events s) (count s held ∙ sym e) d (h.list (eqb-true _ _ q))) })
    (λ t. refused-sound o' (refuse 8 s) (λ z. omega arith)))
    (λ l. record { list = λ z. live-drop i (events s) d (h.list z) }))
    (λ q. refused-sound o' s (eqb-false _ _ q))

forward : (m to : ℕ) → m < to → to ≤ 65536 → gap m to ≡ to - m
forward m to l b = omega arith

-- the start at m points to the start at `to`
pointed : (s : St) → Held s → (m to : ℕ) {o' : Marks} → (s.p.refused ≡ 0 → (m < to) × (to ≤ 65536) × (is_start (at (events s) m) ≡ true) × Live o' (set (events s) m (with_distance (to - m) (at (events s) m)))) → WellMade o' (linked m (gap m to) s)
unfolding linked
pointed s held m to {o'} g = by (live s.p) refl
  where
    by : (b : Bool) → live s.p ≡ b → WellMade o' (cond b (cond (is_start (event_at s m)) (rewritten m (with_distance (gap m to) (event_at s m)) s) (refuse 8 s)) s)
    by true q =
        let w = g (eqb-true _ _ q) in
        let e : event_at s m ≡ at (events s) m = at-event s m held in
        let l : m < s.p.len = omega (arith, start-below (events s) m w.2, count s held) in
        rw (e, w.2, forward m to w.0 w.1) (record { list = λ z. rw (rewrote s held m (with_distance (to - m) (at (events s) m)) l) w.3 })
    by false q = refused-sound o' s (eqb-false _ _ q)

extended : (s : St) → Held s → s.p.len ≤ 65536 → (i j : ℕ) {o o' : Marks} → Extends i j o o' → WellMade o s → WellMade o' (linked i (gap i j) s)
extended s held few i j {o} {o'} t h =
    pointed s held i j
    (λ z. let g : Live o (events s) = h.list z in let w = extends-at i j (length (events s)) (events s) t g.marks in (w.0, omega (arith, w.1, count s held), w.2, live-extend (events s) i j w.2 w.3 w.0 t g))

preceded : (s : St) → Held s → Held (push_event (Start TOMBSTONE 0) s) → s.p.len ≤ 65536 → (i : ℕ) {o : Marks} → Has i o → WellMade o s → WellMade (made s.p.len ∷ o) (linked i (gap i s.p.len) (push_event (Start TOMBSTONE 0) s))
preceded s held after few i {o} c h =
    pointed (push_event (Start TOMBSTONE 0) s) after i s.p.len
    (λ z.
    let l : List Event = events (push_event (Start TOMBSTONE 0) s) in
    let g : Live (fresh s.p.len ∷ o) (events (push_event (Start TOMBSTONE 0) s)) = (started s held o h).list z in
    let w = has-at i s.p.len (events (push_event (Start TOMBSTONE 0) s)) c g.marks.2 in
    (w.0, few, w.1, live-precede (events (push_event (Start TOMBSTONE 0) s)) i s.p.len w.1 (bare-start (at (events (push_event (Start TOMBSTONE 0) s)) s.p.len) g.marks.1.0) w.0 c g))

-- a kind that is glued is one of the table's, and every other kind is its own token's
all_small : List (ℕ × Parts) → Bool
all_small [] = true
all_small (g ∷ gs) = both (small g.0) (all_small gs)

glued-small : (k : ℕ) (gs : List (ℕ × Parts)) → T (all_small gs) → (parts_in k gs ≡ One k) ⊎ (k < 65536)
unfolding all_small
glued-small k [] t = inl refl
glued-small k (g ∷ gs) t = by (eqb k g.0) refl (glued-small k gs (both-parts (small g.0) (all_small gs) t).1)
  where
    by : (b : Bool) → eqb k g.0 ≡ b → (parts_in k gs ≡ One k) ⊎ (k < 65536) → (cond b g.1 (parts_in k gs) ≡ One k) ⊎ (k < 65536)
    by true q r = inr (rw (eqb-true k g.0 q) (ltb→lt _ _ (both-parts (small g.0) (all_small gs) t).0))
    by false q r = r

stands-small : (e : Env) → Bounded e → (r i k : ℕ) → stands_at e r i (parts_of k) ≡ true → k < 65536
unfolding parts_of all_small
stands-small e b r i k h = by (glued-small k glued_kinds tt)
  where
    alone : (g : Parts) → g ≡ One k → stands_at e r i g ≡ true → k < 65536
    alone g q t = let u : seen e.kinds r i ≡ k = one (rw q at t) in omega (arith, u, seen-small e b r i)
      where
        one : stands_at e r i (One k) ≡ true → seen e.kinds r i ≡ k
        one t = unfold stands_at in eqb-true _ _ t

    by : (parts_in k glued_kinds ≡ One k) ⊎ (k < 65536) → k < 65536
    by (inl q) = alone (parts_in k glued_kinds) q h
    by (inr l) = l

eaten : (e : Env) → Bounded e → (s : St) → Held s → (k : ℕ) (o : Marks) → WellMade o s → WellMade o (step e (eats k) s).1
unfolding step
eaten e b s held k o h =
    by-test (λ (r : Bool × St). WellMade o r.1) (sees e s.p k) (true, do_bump e k (raw_count (parts_of k)) s) (false, s)
    (λ q. bumped s held e o k (raw_count (parts_of k)) (λ z. (stands-small e b s.p.refused (s.p.pos + 0) k q, (few-parts (parts_of k)).0, (few-parts (parts_of k)).1)) h)
    (λ q. h)

other : (c : ℕ) → T (not (eqb c 1)) → Other c
other c t q = rw (eq-eqb c 1 q) at t

-- An act of safe acts is refused, or what follows is safe from the markers that it leaves.
halted-refused : (n : ℕ) (p : Parser) → (n ≡ 0 → ⊥) → (halted n p).refused ≡ 0 → ⊥
unfolding halted
halted-refused n p h = by-test (λ (q : Parser). q.refused ≡ 0 → ⊥) (live p) (refusal n p) p (λ q. h) (λ q. eqb-false _ _ q)

pub record Next {A : Type 0} (e : Env) (a : Act) (m : Answer a → Acts A) (Q : A → Marks → Type 0) (s : St) : Type 0 where
  pub after : Marks
  pub safe : Safe (m (step e a s).0) after Q
  pub sound : WellMade after (step e a s).1

-- What a row promises, of an act in a state whose list is well made: it finds what it says, and the list is well made afterwards.
abbrev Lawful : (e : Env) (s : St) (o : Marks) (a : Act) → Handling (Answer a) → Type 0
Lawful e s o a silent = WellMade o (step e a s).1
Lawful e s o a (leaves F R) = (r : Marks) → R (step e a s).0 o r → (s.p.refused ≡ 0 → F s) × WellMade r (step e a s).1
Lawful e s o a halts = (step e a s).1.p.refused ≡ 0 → ⊥

module _ (e : Env) (b : Bounded e) (o : Marks) (s : St) (f : Fit s.p) (d : Held s) (h : WellMade o s) where
  lawful : (a : Act) → Lawful e s o a (handling a)
  unfolding step
  lawful (looks n) = looking s d o h
  lawful (peeks n k) = h
  lawful (eats k) = eaten e b s d k o h
  lawful takes = bumped s d e o (kind_ahead e s.p 0) 1 (λ y. (seen-small e b s.p.refused (s.p.pos + 0), omega arith, omega arith)) h
  lawful starts = λ r q. (λ z. tt, rw q (started s d o h))
  lawful (completes m k) = λ r q. (
    λ z. (ap is_bare (at-event s m d) ∙ (closes_at m (length (events s)) (events s) q.1 (h.list z).marks).1, ltb→lt 0 k (both-parts (ltb 0 k) (small k) q.0).0),
    completed s d m k q.0 q.1 h,
  )
  lawful (abandons m) = λ r q. (
    λ z. let w = drops-at m (length (events s)) (events s) q (h.list z).marks in (ap is_bare (at-event s m d) ∙ w.1, w.2),
    abandoned s d m q h,
  )
  lawful (precedes m) = λ r q. (
    λ z. ap is_start (at-event s m d) ∙ (has-at m (length (events s)) (events s) q.0 (h.list z).marks).1,
    rw q.1 (preceded s d (kept_step e Held (helds e) starts s d) f.short m q.0 h),
  )
  lawful (extends to m) = λ r q. (
    λ z.
        let g = (h.list z).marks in
        let w = extends-at m to (length (events s)) (events s) q g in
        (ap is_bare (at-event s m d) ∙ bare-extends m to (length (events s)) (events s) q g, ap is_start (at-event s to d) ∙ w.3, w.0),
    extended s d f.short m to q h,
  )
  lawful (fails c a) = λ r q.
      let b = both-parts (ordinary c) (small a) q.0 in
      let n = both-parts (small c) (not (eqb c 1)) b.0 in
      (λ z. other c n.1, rw q.1 (failed s d o c a 0 (ltb→lt _ _ n.0, ltb→lt _ _ b.1, omega arith, λ y. refl) h))
  lawful (lacks k) = λ r q.
      (λ z. tt, rw q.1 (failed s d o 1 k (kind_ahead e s.p 0) (omega arith, ltb→lt _ _ q.0, seen-small e b s.p.refused (s.p.pos + 0), λ n. absurd (n refl)) h))
  lawful (stops w) = halted-refused (stop_number w) s.p (stop-number w)
  lawful asks = h

  module _ {A : Type 0} (Q : A → Marks → Type 0) (a : Act) (m : Answer a → Acts A) where
    pub safe-step : Safe (act a m) o Q → ((step e a s).1.p.refused ≡ 0 → ⊥) ⊎ Next e a m Q s
    safe-step g = by (handling a) (lawful a) g
      where
        by : (c : Handling (Answer a)) → Lawful e s o a c → SafeBy c o (λ x r. Safe (m x) r Q) → ((step e a s).1.p.refused ≡ 0 → ⊥) ⊎ Next e a m Q s
        by silent l g = inr (record { after = o; safe = g _; sound = l })
        by (leaves F R) l g = let u = g (step e a s).0 in inr (record { after = u.0; safe = u.2; sound = (l u.0 u.1).1 })
        by halts l g = inl l

    -- what it finds, as long as the run is not refused
    pub safe-finds : Safe (act a m) o Q → s.p.refused ≡ 0 → Finds (handling a) s
    safe-finds g z = by (handling a) (lawful a) g
      where
        by : (c : Handling (Answer a)) → Lawful e s o a c → SafeBy c o (λ x r. Safe (m x) r Q) → Finds c s
        by silent l g = tt
        by (leaves F R) l g = let u = g (step e a s).0 in (l u.0 u.1).0 z
        by halts l g = tt

-- Safe acts from o end, unless they are refused, with markers that meet Q and a list that is well made.
pub safe-run : {A : Type 0} (e : Env) → Bounded e → (m : Acts A) (o : Marks) (Q : A → Marks → Type 0) (s : St) → Fit s.p → Held s → Safe m o Q → WellMade o s → (run e m s).1.p.refused ≡ 0
    → (o' : Marks) × Q (run e m s).0 o' × Live o' (events (run e m s).1)
unfolding run
safe-run e b (done a) o Q s f d g h z = (o, g, h.list z)
safe-run e b (act a m) o Q s f d g h z =
    by (safe-step e b o s f d h Q a m g)
    (λ o' g' h'. safe-run e b (m (step e a s).0) o' Q (step e a s).1 (kept_step e (λ (r : St). Fit r.p) (fits e) a s f) (kept_step e Held (helds e) a s d) g' h' z)
  where
    Ends : Type 0
    Ends = (o' : Marks) × Q (run e (m (step e a s).0) (step e a s).1).0 o' × Live o' (events (run e (m (step e a s).0) (step e a s).1).1)

    by : ((step e a s).1.p.refused ≡ 0 → ⊥) ⊎ Next e a m Q s → ((o' : Marks) → Safe (m (step e a s).0) o' Q → WellMade o' (step e a s).1 → Ends) → Ends
    by (inl n) k = absurd (n (sym (ap (λ (x : St). x.p.refused) (refused-run e (m (step e a s).0) (step e a s).1 n)) ∙ z))
    by (inr x) k = k x.after x.safe x.sound
