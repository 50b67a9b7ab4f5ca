-- The numbers of a run that is refused: 5 to 8, whatever its acts. Assumes nothing.
use Rattle.std.proofs.Common.{◌≡◌, ℕ, ◌<◌, ◌≤◌, Bool, cond, ltb, length, refl, arith}
use Rattle.event.specs.declared.Event.{Event}
use Rattle.event.specs.declared.Event.TheVariants.{Token}
use Rattle.event.specs.Event.{holds, is_start, is_bare, with_kind, with_distance}
use Rattle.laws.proofs.Tests.{by-test}
use Rattle.input.specs.Input.{Env}
use Rattle.input.specs.Glue.{parts_of, raw_count}
use Rattle.runtime.specs.declared.parser.Stop.{Stop}
use Rattle.runtime.specs.declared.parser.Stop.TheVariants.{Deep, Panic}
use Rattle.runtime.specs.State.{St, Parser, view, most_looks, live, refusal, counted, consumed, looked, halted, stop_number, numbers, refuse, added, rewritten, popped, event_at, push_event, enough, consume, do_bump, named, linked, dropped, gap, Known}
use Rattle.runtime.specs.Acts.{Act, Act.looks, Act.peeks, Act.eats, Act.takes, Act.starts, Act.completes, Act.abandons, Act.precedes, Act.extends, Act.fails, Act.lacks, Act.stops, Act.asks, Acts, Acts.done, Acts.act, step, run, sees}

abbrev K : St → Type 0
K s = Known s.p

known-push : (v : Event) (s : St) → K s → K (push_event v s)
unfolding push_event
known-push v s h =
    by-test K (live s.p) (cond (ltb s.p.len (holds (length s.room))) (added v s) (refuse 5 s)) s
    (λ _. by-test K (ltb s.p.len (holds (length s.room))) (added v s) (refuse 5 s) (λ _. h) (λ _ z. (omega arith, omega arith)))
    (λ _. h)

known-named : (m k : ℕ) (s : St) → K s → K (named m k s)
unfolding named
known-named m k s h =
    by-test K (live s.p) (cond (is_start (event_at s m)) (rewritten m (with_kind k (event_at s m)) s) (refuse 8 s)) s
    (λ _. by-test K (is_start (event_at s m)) (rewritten m (with_kind k (event_at s m)) s) (refuse 8 s) (λ _. h) (λ _ z. (omega arith, omega arith)))
    (λ _. h)

known-linked : (m d : ℕ) (s : St) → K s → K (linked m d s)
unfolding linked
known-linked m d s h =
    by-test K (live s.p) (cond (is_start (event_at s m)) (rewritten m (with_distance d (event_at s m)) s) (refuse 8 s)) s
    (λ _. by-test K (is_start (event_at s m)) (rewritten m (with_distance d (event_at s m)) s) (refuse 8 s) (λ _. h) (λ _ z. (omega arith, omega arith)))
    (λ _. h)

known-dropped : (m : ℕ) (s : St) → K s → K (dropped m s)
unfolding dropped
known-dropped m s h =
    by-test K (live s.p) _ s
    (λ _. by-test K _ (cond (is_bare (event_at s m)) (popped s) (refuse 8 s)) s
    (λ _. by-test K (is_bare (event_at s m)) (popped s) (refuse 8 s) (λ _. h) (λ _ z. (omega arith, omega arith)))
    (λ _. h))
    (λ _. h)

known-halted : (n : ℕ) (p : Parser) → 5 ≤ n → n ≤ 8 → Known p → Known (halted n p)
unfolding halted
known-halted n p a b h = by-test Known (live p) (refusal n p) p (λ _ z. (a, b)) (λ _. h)

known-looked : (p : Parser) → Known p → Known (looked p)
unfolding looked
known-looked p h =
    by-test Known (live p) (cond (ltb p.since most_looks) (counted p) (refusal 7 p)) p
    (λ _. by-test Known (ltb p.since most_looks) (counted p) (refusal 7 p) (λ _. h) (λ _ z. (omega arith, omega arith)))
    (λ _. h)

known-consume : (n : ℕ) (s : St) → K s → K (consume n s)
unfolding consume
known-consume n s h = by-test K (live s.p) (numbers (consumed n s.p) s) s (λ _. h) (λ _. h)

known-bump : (e : Env) (k n : ℕ) (s : St) → K s → K (do_bump e k n s)
unfolding do_bump
known-bump e k n s h =
    by-test K (enough e s.p n) (consume n (push_event (Token k n) s)) (numbers (halted 8 s.p) s)
    (λ _. known-consume n (push_event (Token k n) s) (known-push (Token k n) s h))
    (λ _. known-halted 8 s.p (omega arith) (omega arith) h)

known-stop : (w : Stop) (p : Parser) → Known p → Known (halted (stop_number w) p)
known-stop Deep p h = known-halted 6 p (omega arith) (omega arith) h
known-stop Panic p h = known-halted 8 p (omega arith) (omega arith) h

known-step : (e : Env) (o : Act) (s : St) → K s → K (step e o s).1
unfolding step
known-step e (looks n) s h = known-looked s.p h
known-step e (peeks n k) s h = h
known-step e (eats k) s h = by-test (λ (r : Bool × St). K r.1) (sees e s.p k) _ _ (λ _. known-bump e k (raw_count (parts_of k)) s h) (λ _. h)
known-step e takes s h = known-bump e _ 1 s h
known-step e starts s h = known-push _ s h
known-step e (completes m k) s h = known-push _ _ (known-named m k s h)
known-step e (abandons m) s h = known-dropped m s h
known-step e (precedes m) s h = known-linked m _ _ (known-push _ s h)
known-step e (extends to m) s h = known-linked m _ s h
known-step e (fails code arg) s h = known-push _ s h
known-step e (lacks k) s h = known-push _ s h
known-step e (stops w) s h = known-stop w s.p h
known-step e asks s h = h

pub known-run : {A : Type 0} (e : Env) (m : Acts A) (s : St) → Known s.p → Known (run e m s).1.p
unfolding run
known-run e (done a) s h = h
known-run e (act o m) s h = known-run e (m (step e o s).0) (step e o s).1 (known-step e o s h)
