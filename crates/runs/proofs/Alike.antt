-- A run does not see what its room held: two states that agree on the numbers, on the room's size and on the events so far tell the same
-- at every act and stay so. Shown of each act, and so of every run. Assumes nothing.
use mathlib.Core.Path.{◌≡◌, refl, sym, ap, ap₂, ◌∙◌, subst}
use mathlib.Core.Bool.{Bool, true, false, cond}
use mathlib.Core.List.{List, [], ◌∷◌, ◌++◌}
use Prim.Native.Nat.{ℕ, ◌+◌, ◌-◌, ◌<◌}
use native.Mathlib.Omega.{arith}
use lib.ListN.{length, get_or, set, take, length-set}
use lib.Seq.{get_or-take, take-set-lt}
use lib.Dec.{eqb, ltb}
use borrow.Author.Tests.{ltb-true, eqb-true}
use Rattle.kinds.specs.Kinds.{TOMBSTONE}
use Rattle.input.specs.Input.{Env}
use Rattle.input.specs.Glue.{parts_of, raw_count}
use Rattle.event.specs.declared.Event.{Event}
use Rattle.event.specs.declared.Event.TheVariants.{Start, Finish, Token, Error, NoEvent}
use Rattle.event.specs.Event.{holds, is_start, is_bare, with_kind, with_distance}
use Rattle.runtime.specs.State.{Parser}
use Rattle.runtime.specs.State.{St, most_looks, live, refusal, holding, looked, halted, stop_number, numbers, refuse, rewritten, popped, event_at, push_event, enough, consume, consumed, do_bump, named, linked, dropped, gap}
use Rattle.runtime.specs.Cover.{events}
use Rattle.runtime.specs.Acts.{Act, Act.looks, Act.peeks, Act.eats, Act.takes, Act.starts, Act.completes, Act.abandons, Act.precedes, Act.extends, Act.fails, Act.lacks, Act.stops, Act.asks, Answer, kind_ahead, nth_sees, sees, stopped, step, Acts, Acts.done, Acts.act, run}
use Rattle.laws.proofs.Tests.{by-test, apart}
use Rattle.runtime.proofs.Kept.{found}
use Rattle.runs.proofs.Covered.{events-added, events-popped}

pub record Alike (s t : St) : Type 0 where
  pub same : s.p ≡ t.p
  pub size : length s.room ≡ length t.room
  pub so_far : events s ≡ events t

-- a choice by tests that tell the same
choose : {s t x y : St} (a b : Bool) → a ≡ b → (a ≡ true → Alike s x) → (a ≡ false → Alike t y) → Alike (cond a s t) (cond b x y)
choose true true q f g = f refl
choose true false q f g = apart (sym q)
choose false true q f g = apart q
choose false false q f g = g refl

-- other numbers, with as many events
renumbered : (f : Parser → Parser) (s t : St) → ((p : Parser) → (f p).len ≡ p.len) → Alike s t → Alike (numbers (f s.p) s) (numbers (f t.p) t)
renumbered f s t k h = record { same = ap f h.same; size = h.size; so_far = rw (k s.p, k t.p) h.so_far }

halted-length : (n : ℕ) (p : Parser) → (halted n p).len ≡ p.len
unfolding halted
halted-length n p = by-test (λ (q : Parser). q.len ≡ p.len) (live p) _ p (λ q. refl) (λ q. refl)

looked-length : (p : Parser) → (looked p).len ≡ p.len
unfolding looked
looked-length p = by-test (λ (q : Parser). q.len ≡ p.len) (live p) _ p (λ q. by-test (λ (r : Parser). r.len ≡ p.len) (ltb p.since most_looks) _ _ (λ l. refl) (λ l. refl)) (λ q. refl)

module _ (s t : St) (h : Alike s t) where
  length-same : s.p.len ≡ t.p.len
  length-same = ap (λ (p : Parser). p.len) h.same

  live_same : live s.p ≡ live t.p
  live_same = ap live h.same

  refuse-alike : (n : ℕ) → Alike (refuse n s) (refuse n t)
  refuse-alike n = renumbered (refusal n) s t (λ p. refl) h

  halt-alike : (n : ℕ) → Alike (numbers (halted n s.p) s) (numbers (halted n t.p) t)
  halt-alike n = renumbered (halted n) s t (halted-length n) h

  event-same : (i : ℕ) → event_at s i ≡ event_at t i
  unfolding event_at
  event-same i = rw (← length-same) (by (ltb i s.p.len) refl)
    where
      by : (b : Bool) → ltb i s.p.len ≡ b → cond b (get_or s.room i (NoEvent 0 0)) (NoEvent 0 0) ≡ cond b (get_or t.room i (NoEvent 0 0)) (NoEvent 0 0)
      by true q =
          let l : i < s.p.len = ltb-true _ _ q in
          sym (get_or-take s.p.len s.room i (NoEvent 0 0) l) ∙ ap (λ (es : List Event). get_or es i (NoEvent 0 0)) h.so_far ∙ get_or-take t.p.len t.room i (NoEvent 0 0) (omega (arith, length-same))
      by false q = refl

  push-alike : (v : Event) → Alike (push_event v s) (push_event v t)
  unfolding push_event
  push-alike v =
      choose (live s.p) (live t.p) live_same
      (λ q. choose (ltb s.p.len (holds (length s.room))) (ltb t.p.len (holds (length t.room))) (ap₂ (λ (x y : ℕ). ltb x (holds y)) length-same h.size)
      (λ l. let k : s.p.len < holds (length s.room) = ltb-true _ _ l in record {
        same = ap (λ (p : Parser). holding (p.len + 1) p) h.same;
        size = length-set s.room s.p.len v ∙ h.size ∙ sym (length-set t.room t.p.len v);
        so_far = events-added s.room s.p.len v (omega arith) ∙ ap (λ (es : List Event). es ++ v ∷ []) h.so_far ∙ sym (events-added t.room t.p.len v (omega (arith, length-same, h.size)));
      })
      (λ l. refuse-alike 5))
      (λ q. h)

  consume-alike : (n : ℕ) → Alike (consume n s) (consume n t)
  unfolding consume
  consume-alike n = choose (live s.p) (live t.p) live_same (λ q. renumbered (consumed n) s t (λ p. refl) h) (λ q. h)

  rewritten-alike : (m : ℕ) (v w : Event) → m < s.p.len → v ≡ w → Alike (rewritten m v s) (rewritten m w t)
  rewritten-alike m v w l e =
      record {
        same = h.same;
        size = length-set s.room m v ∙ h.size ∙ sym (length-set t.room m w);
        so_far = take-set-lt s.p.len s.room m v l ∙ ap₂ (λ (es : List Event) (x : Event). set es m x) h.so_far e ∙ sym (take-set-lt t.p.len t.room m w (omega (arith, length-same)));
      }

  changed-alike : (m : ℕ) (f : Event → Event)
      → Alike (cond (live s.p) (cond (is_start (event_at s m)) (rewritten m (f (event_at s m)) s) (refuse 8 s)) s) (cond (live t.p) (cond (is_start (event_at t m)) (rewritten m (f (event_at t m)) t) (refuse 8 t)) t)
  changed-alike m f =
      choose (live s.p) (live t.p) live_same
      (λ q. choose (is_start (event_at s m)) (is_start (event_at t m)) (ap is_start (event-same m)) (λ l. rewritten-alike m (f (event_at s m)) (f (event_at t m)) (found is_start s m refl l).0 (ap f (event-same m))) (λ l. refuse-alike 8))
      (λ q. h)

  dropped-alike : (m : ℕ) → Alike (dropped m s) (dropped m t)
  unfolding dropped
  dropped-alike m =
      choose (live s.p) (live t.p) live_same
      (λ q. choose (eqb (m + 1) s.p.len) (eqb (m + 1) t.p.len) (ap (eqb (m + 1)) length-same)
      (λ l. choose (is_bare (event_at s m)) (is_bare (event_at t m)) (ap is_bare (event-same m)) (λ b. less (eqb-true _ _ l)) (λ b. refuse-alike 8))
      (λ l. h))
      (λ q. h)
    where
      less : m + 1 ≡ s.p.len → Alike (popped s) (popped t)
      less l =
          record {
            same = ap (λ (p : Parser). holding (p.len - 1) p) h.same;
            size = length-set s.room (s.p.len - 1) _ ∙ h.size ∙ sym (length-set t.room (t.p.len - 1) _);
            so_far = events-popped s.room s.p.len m _ l ∙ ap (take m) h.so_far ∙ sym (events-popped t.room t.p.len m _ (l ∙ length-same));
          }

named-alike : (m k : ℕ) (s t : St) → Alike s t → Alike (named m k s) (named m k t)
unfolding named
named-alike m k s t h = changed-alike s t h m (with_kind k)

linked-alike : (m c d : ℕ) (s t : St) → c ≡ d → Alike s t → Alike (linked m c s) (linked m d t)
unfolding linked
linked-alike m c d s t q h = rw (← q) (changed-alike s t h m (with_distance c))

bump-alike : (e : Env) (j k n : ℕ) (s t : St) → j ≡ k → Alike s t → Alike (do_bump e j n s) (do_bump e k n t)
unfolding do_bump
bump-alike e j k n s t q h =
    rw (← q)
    (choose (enough e s.p n) (enough e t.p n) (ap (λ (p : Parser). enough e p n) h.same)
    (λ l. consume-alike (push_event (Token j n) s) (push_event (Token j n) t) (push-alike s t h (Token j n)) n)
    (λ l. halt-alike s t h 8))

-- what an act tells, and what it leaves
abbrev Both : (o : Act) → Answer o × St → Answer o × St → Type 0
Both o x y = (x.0 ≡ y.0) × Alike x.1 y.1

pub alike-step : (e : Env) (o : Act) (s t : St) → Alike s t → Both o (step e o s) (step e o t)
unfolding step
alike-step e (looks n) s t h = (ap (λ (p : Parser). kind_ahead e (looked p) n) h.same, renumbered looked s t looked-length h)
alike-step e (peeks n k) s t h = (ap (λ (p : Parser). nth_sees e p n k) h.same, h)
alike-step e (eats k) s t h = by (sees e s.p k) (sees e t.p k) (ap (λ (p : Parser). sees e p k) h.same)
  where
    by : (a b : Bool) → a ≡ b → Both (eats k) (cond a (true, do_bump e k (raw_count (parts_of k)) s) (false, s)) (cond b (true, do_bump e k (raw_count (parts_of k)) t) (false, t))
    by true true q = (refl, bump-alike e k k (raw_count (parts_of k)) s t refl h)
    by true false q = apart (sym q)
    by false true q = apart q
    by false false q = (refl, h)
alike-step e takes s t h = (refl, bump-alike e (kind_ahead e s.p 0) (kind_ahead e t.p 0) 1 s t (ap (λ (p : Parser). kind_ahead e p 0) h.same) h)
alike-step e starts s t h = (length-same s t h, push-alike s t h (Start TOMBSTONE 0))
alike-step e (completes m k) s t h = (refl, push-alike (named m k s) (named m k t) (named-alike m k s t h) Finish)
alike-step e (abandons m) s t h = (refl, dropped-alike s t h m)
alike-step e (precedes m) s t h = (length-same s t h, linked-alike m (gap m s.p.len) (gap m t.p.len) _ _ (ap (gap m) (length-same s t h)) (push-alike s t h (Start TOMBSTONE 0)))
alike-step e (extends to m) s t h = (refl, linked-alike m (gap m to) (gap m to) s t refl h)
alike-step e (fails c a) s t h = (refl, push-alike s t h (Error c a 0))
alike-step e (lacks k) s t h = (
  refl,
  subst (λ (p : Parser). Alike (push_event (Error 1 k (kind_ahead e s.p 0)) s) (push_event (Error 1 k (kind_ahead e p 0)) t)) h.same (push-alike s t h (Error 1 k (kind_ahead e s.p 0))),
)
alike-step e (stops w) s t h = (refl, halt-alike s t h (stop_number w))
alike-step e asks s t h = (ap stopped h.same, h)

pub alike-run : {A : Type 0} (e : Env) (m : Acts A) (s t : St) → Alike s t → ((run e m s).0 ≡ (run e m t).0) × Alike (run e m s).1 (run e m t).1
unfolding run
alike-run e (done a) s t h = (refl, h)
alike-run e (act o m) s t h =
    let b : Both o (step e o s) (step e o t) = alike-step e o s t h in
    subst (λ (x : Answer o). ((run e (m (step e o s).0) (step e o s).1).0 ≡ (run e (m x) (step e o t).1).0) × Alike (run e (m (step e o s).0) (step e o s).1).1 (run e (m x) (step e o t).1).1)
    b.0
    (alike-run e (m (step e o s).0) (step e o s).1 (step e o t).1 b.1)
