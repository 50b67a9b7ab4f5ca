-- A run's refusal is the first that it meets, and its place the tokens consumed by then. Assumes nothing.
use mathlib.Core.Path.{◌≡◌, refl, sym, ap, ap₂, ◌∙◌}
use mathlib.Core.Bool.{Bool, true, false, cond}
use Prim.Native.Nat.{ℕ, ◌+◌}
use native.Mathlib.Omega.{arith}
use lib.Dec.{eqb, ltb}
use lib.ListN.{length, set, length-set}
use borrow.Author.Tests.{eqb-true, eqb-false, eq-eqb, ne_eqb}
use Rattle.kinds.specs.Kinds.{TOMBSTONE}
use Rattle.event.specs.declared.Event.{Event}
use Rattle.event.specs.declared.Event.TheVariants.{Start, Finish, Token, Error}
use Rattle.event.specs.Event.{holds, is_start, is_bare, with_kind, with_distance}
use Rattle.runtime.specs.declared.parser.Stop.{Stop}
use Rattle.runtime.specs.declared.parser.Stop.TheVariants.{Deep, Panic}
use Rattle.input.specs.Input.{Env}
use Rattle.input.specs.Glue.{parts_of, raw_count}
use Rattle.runtime.specs.State.{St, looked, halted, stop_number, numbers, added, rewritten, refuse, popped, event_at, push_event, enough, consume, do_bump, named, linked, dropped, most_looks, counted, refusal, gap}
use Rattle.runtime.specs.Acts.{Act, Act.looks, Act.peeks, Act.eats, Act.takes, Act.starts, Act.completes, Act.abandons, Act.precedes, Act.extends, Act.fails, Act.lacks, Act.stops, Act.asks, kind_ahead, sees, step, Acts, Acts.done, Acts.act, run}
use Rattle.runtime.proofs.Runs.{refused-run}
use Rattle.answers.specs.Refusals.{adding, moving, marked, meets, met}

-- The numbers that a run can meet.
pub data Reason : ℕ → Type 0 where
  none : Reason 0
  room : Reason 5
  deep : Reason 6
  lookups : Reason 7
  panic : Reason 8

-- a state whose refusal is n, one that a run can meet, with the tokens of s where n is not 0
record Tells (s r : St) (n : ℕ) : Type 0 where
  number : r.p.refused ≡ n
  reason : Reason n
  place : (n ≡ 0 → ⊥) → r.p.pos ≡ s.p.pos

stop-reason : (w : Stop) → Reason (stop_number w)
stop-reason Deep = deep
stop-reason Panic = panic

module _ (s : St) (z : s.p.refused ≡ 0) where
  still : Tells s s 0
  still = record { number = z; reason = none; place = λ h. refl }

  refusing : (n : ℕ) → Reason n → Tells s (refuse n s) n
  refusing n t = record { number = refl; reason = t; place = λ h. refl }

  pushes : (v : Event) → Tells s (push_event v s) (adding s 0)
  unfolding push_event
  pushes v = rw (eq-eqb s.p.refused 0 z) (by (ltb s.p.len (holds (length s.room))))
    where
      by : (b : Bool) → Tells s (cond b (added v s) (refuse 5 s)) (cond b 0 5)
      by true = record { number = z; reason = none; place = λ h. refl }
      by false = refusing 5 room

  moves : (e : Env) (k n : ℕ) → Tells s (do_bump e k n s) (moving e n s)
  unfolding do_bump consume push_event halted
  moves e k n = rw (eq-eqb s.p.refused 0 z) (by (enough e s.p n) (ltb s.p.len (holds (length s.room))))
    where
      by : (b c : Bool) → Tells s (cond b (consume n (cond c (added (Token k n) s) (refuse 5 s))) (numbers (refusal 8 s.p) s)) (cond b (cond c 0 5) 8)
      by true true = record { number = rw (eq-eqb s.p.refused 0 z) z; reason = none; place = λ h. absurd (h refl) }
      by true false = refusing 5 room
      by false c = refusing 8 panic

  changes : (m : ℕ) (f : Event → Event) → Tells s (cond (is_start (event_at s m)) (rewritten m (f (event_at s m)) s) (refuse 8 s)) (marked s m 0)
  changes m f = by (is_start (event_at s m))
    where
      by : (b : Bool) → Tells s (cond b (rewritten m (f (event_at s m)) s) (refuse 8 s)) (cond b 0 8)
      by true = record { number = z; reason = none; place = λ h. refl }
      by false = refusing 8 panic

  looks-up : Tells s (numbers (looked s.p) s) (cond (ltb s.p.since most_looks) 0 7)
  unfolding looked
  looks-up = rw (eq-eqb s.p.refused 0 z) (by (ltb s.p.since most_looks))
    where
      by : (b : Bool) → Tells s (numbers (cond b (counted s.p) (refusal 7 s.p)) s) (cond b 0 7)
      by true = record { number = z; reason = none; place = λ h. refl }
      by false = refusing 7 lookups

  stopping : (n : ℕ) → Reason n → Tells s (numbers (halted n s.p) s) n
  unfolding halted
  stopping n t = rw (eq-eqb s.p.refused 0 z) (refusing n t)

  eating : (e : Env) (k : ℕ) → Tells s (step e (eats k) s).1 (meets e (eats k) s)
  unfolding step meets
  eating e k = by (sees e s.p k)
    where
      by : (b : Bool) → Tells s (cond {A = Bool × St} b (true, do_bump e k (raw_count (parts_of k)) s) (false, s)).1 (cond b (moving e (raw_count (parts_of k)) s) 0)
      by true = moves e k (raw_count (parts_of k))
      by false = still

  drops : (m : ℕ) → Tells s (dropped m s) (cond (eqb (m + 1) s.p.len) (cond (is_bare (event_at s m)) 0 8) 0)
  unfolding dropped
  drops m = rw (eq-eqb s.p.refused 0 z) (by (eqb (m + 1) s.p.len) (is_bare (event_at s m)))
    where
      by : (b c : Bool) → Tells s (cond b (cond c (popped s) (refuse 8 s)) s) (cond b (cond c 0 8) 0)
      by true true = record { number = z; reason = none; place = λ h. refl }
      by true false = refusing 8 panic
      by false c = still

  links : (m d : ℕ) → Tells s (linked m d s) (marked s m 0)
  unfolding linked
  links m d = rw (eq-eqb s.p.refused 0 z) (changes m (with_distance d))

-- a refused state is not changed by the second half of `complete` and of `precede`
push-refused : (n : ℕ) (v : Event) (s : St) → (n ≡ 0 → ⊥) → push_event v (refuse n s) ≡ refuse n s
unfolding push_event
push-refused n v s h = rw (ne_eqb n 0 h)

link-refused : (n m d : ℕ) (s : St) → (n ≡ 0 → ⊥) → linked m d (refuse n s) ≡ refuse n s
unfolding linked
link-refused n m d s h = rw (ne_eqb n 0 h)

module _ (s : St) (z : s.p.refused ≡ 0) where
  completing : (m k : ℕ) → Tells s (push_event Finish (named m k s)) (marked s m (adding s 0))
  unfolding named
  completing m k = rw (eq-eqb s.p.refused 0 z) (by (is_start (event_at s m)))
    where
      v : Event
      v = with_kind k (event_at s m)

      by : (b : Bool) → Tells s (push_event Finish (cond b (rewritten m (with_kind k (event_at s m)) s) (refuse 8 s))) (cond b (adding s 0) 8)
      by true =
          let t : Tells (rewritten m v s) (push_event Finish (rewritten m v s)) (adding (rewritten m v s) 0) = pushes (rewritten m v s) z Finish in
          let q : length (set s.room m v) ≡ length s.room = length-set s.room m v in
          record { number = rw q at t.number; reason = rw q at t.reason; place = rw q at t.place }
      by false = rw (push-refused 8 Finish s (λ h. omega arith)) (refusing s z 8 panic)

  preceding : (m d : ℕ) → Tells s (linked m d (push_event (Start TOMBSTONE 0) s)) (adding s (marked (added (Start TOMBSTONE 0) s) m 0))
  unfolding push_event
  preceding m d = rw (eq-eqb s.p.refused 0 z) (by (ltb s.p.len (holds (length s.room))))
    where
      by : (b : Bool) → Tells s (linked m d (cond b (added (Start TOMBSTONE 0) s) (refuse 5 s))) (cond b (marked (added (Start TOMBSTONE 0) s) m 0) 5)
      by true = let t = links (added (Start TOMBSTONE 0) s) z m d in record { number = t.number; reason = t.reason; place = t.place }
      by false = rw (link-refused 5 m d s (λ h. omega arith)) (refusing s z 5 room)

  -- what an act of a live run meets is its refusal
  steps : (e : Env) (o : Act) → Tells s (step e o s).1 (meets e o s)
  unfolding step meets
  steps e (looks n) = looks-up s z
  steps e (peeks n k) = still s z
  steps e (eats k) = eating s z e k
  steps e takes = moves s z e (kind_ahead e s.p 0) 1
  steps e starts = pushes s z (Start TOMBSTONE 0)
  steps e (completes m k) = completing m k
  steps e (abandons m) = drops s z m
  steps e (precedes m) = preceding m (gap m s.p.len)
  steps e (extends to m) = links s z m (gap m to)
  steps e (fails code arg) = pushes s z (Error code arg 0)
  steps e (lacks k) = pushes s z (Error 1 k (kind_ahead e s.p 0))
  steps e (stops why) = stopping s z (stop_number why) (stop-reason why)
  steps e asks = still s z

-- The run's refusal and place are what it meets first.
pub met-run : {A : Type 0} (e : Env) (m : Acts A) (s : St) → s.p.refused ≡ 0 → ◌≡◌ {A = ℕ × ℕ} ((run e m s).1.p.refused, (run e m s).1.p.pos) (met e m s)
unfolding run met
met-run e (done a) s z = ap (λ (n : ℕ). (n, s.p.pos)) z
met-run e (act o m) s z = by (eqb (meets e o s) 0) refl (met-run e (m (step e o s).0) (step e o s).1)
  where
    t : Tells s (step e o s).1 (meets e o s)
    t = steps s z e o

    r : St
    r = (run e (m (step e o s).0) (step e o s).1).1

    after : ℕ × ℕ
    after = met e (m (step e o s).0) (step e o s).1

    by : (b : Bool) → eqb (meets e o s) 0 ≡ b → ((step e o s).1.p.refused ≡ 0 → ◌≡◌ {A = ℕ × ℕ} (r.p.refused, r.p.pos) after)
        → ◌≡◌ {A = ℕ × ℕ} (r.p.refused, r.p.pos) (cond b after (meets e o s, s.p.pos))
    by true q h = h (t.number ∙ eqb-true (meets e o s) 0 q)
    by false q h =
        let n : meets e o s ≡ 0 → ⊥ = eqb-false (meets e o s) 0 q in
        let w : r ≡ (step e o s).1 = refused-run e (m (step e o s).0) (step e o s).1 (λ h. n (sym t.number ∙ h)) in
        rw w (ap₂ (λ (x y : ℕ). (x, y)) t.number (t.place n))

pub met-reason : {A : Type 0} (e : Env) (m : Acts A) (s : St) → s.p.refused ≡ 0 → Reason (met e m s).0
unfolding met
met-reason e (done a) s z = none
met-reason e (act o m) s z = by (eqb (meets e o s) 0) refl (met-reason e (m (step e o s).0) (step e o s).1)
  where
    t : Tells s (step e o s).1 (meets e o s)
    t = steps s z e o

    after : ℕ × ℕ
    after = met e (m (step e o s).0) (step e o s).1

    by : (b : Bool) → eqb (meets e o s) 0 ≡ b → ((step e o s).1.p.refused ≡ 0 → Reason after.0) → Reason (cond {A = ℕ × ℕ} b after (meets e o s, s.p.pos)).0
    by true q h = h (t.number ∙ eqb-true (meets e o s) 0 q)
    by false q h = t.reason
