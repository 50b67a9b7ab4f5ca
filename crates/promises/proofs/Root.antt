-- The list of a source file: one start of its kind around a list that is well made by itself. Assumes nothing.
use mathlib.Core.Path.{◌≡◌, refl, sym, ap, ◌∙◌, subst}
use mathlib.Core.Bool.{Bool, true, false, cond}
use mathlib.Core.List.{List, [], ◌∷◌, ◌++◌}
use Prim.Native.Nat.{ℕ, ◌<◌, min}
use native.Mathlib.Omega.{arith}
use lib.Dec.{eqb, ltb}
use lib.ListN.{length, set}
use borrow.Author.Tests.{eqb-true, eqb-false, ltb-true}
use Rattle.kinds.specs.Kinds.{TOMBSTONE, SOURCE-FILE}
use Rattle.kinds.specs.Membership.{both}
use Rattle.event.specs.declared.Event.{Event}
use Rattle.event.specs.declared.Event.TheVariants.{Start, Finish, Token, Error, NoEvent}
use Rattle.event.specs.Event.{holds, is_start, is_bare, with_kind}
use Rattle.event.proofs.Encoding.{bare-start}
use Rattle.laws.proofs.Tests.{by-test, apart}
use Rattle.input.specs.Input.{Env}
use Rattle.runtime.specs.State.{St, view, new, live, added, rewritten, refuse, event_at, push_event, named, Fit}
use Rattle.runtime.specs.Cover.{events}
use Rattle.runtime.specs.Acts.{Act.starts, Acts, step, run, ◌>>=◌, complete}
use Rattle.runtime.proofs.Kept.{kept_step}
use Rattle.runtime.proofs.Laws.{run_bind}
use Rattle.runtime.proofs.Runs.{fits, Held, helds, held-run, refused-run}
use Rattle.runs.proofs.Covered.{events-added}
use Rattle.operators.specs.Operators.{Table}
use Rattle.grammar.specs.Items.{source_file_contents}
use Rattle.grammar.specs.Entry.{counted, deepest, source_file}
use Rattle.markers.proofs.Balance.{Balanced}
use Rattle.markers.proofs.Marks.{Marker.fresh, Marks, at, Fits, start-below}
use Rattle.markers.proofs.Live.{Live}
use Rattle.markers.proofs.Safe.{Bounded, at-event, count, started, rewrote, safe-run}
use Rattle.markers.proofs.Calculus.{Opens, Opens.base, Opens.extra}
use Rattle.markers.proofs.OfItems.{source-file-contents}
use Rattle.markers.proofs.OfEntry.{tidy}
use Rattle.promises.proofs.Passing.{Chain, chained}
use Rattle.promises.proofs.Done.{fit-new, begins, holds-none}

-- what `complete` leaves, where it is not refused
completed-events : (s : St) → Held s → (i k : ℕ) → is_start (at (events s) i) ≡ true → i < length (events s) → (push_event Finish (named i k s)).p.refused ≡ 0
    → events (push_event Finish (named i k s)) ≡ set (events s) i (with_kind k (at (events s) i)) ++ Finish ∷ []
unfolding named push_event
completed-events s h i k t l = by (live s.p) refl
  where
    r : St
    r = rewritten i (with_kind k (at (events s) i)) s

    in-room : (b c : Bool) → live s.p ≡ b → ltb s.p.len (holds (length (set s.room i (with_kind k (at (events s) i))))) ≡ c
        → (cond b (cond c (added Finish r) (refuse 5 r)) r).p.refused ≡ 0 → events (cond b (cond c (added Finish r) (refuse 5 r)) r) ≡ set (events s) i (with_kind k (at (events s) i)) ++ Finish ∷ []
    in-room true true q w z =
        let m : s.p.len < min (length (set s.room i (with_kind k (at (events s) i)))) 65536 = ltb-true _ _ w in
        events-added (set s.room i (with_kind k (at (events s) i))) s.p.len Finish (omega arith) ∙ ap (λ (es : List Event). es ++ Finish ∷ []) (rewrote s h i (with_kind k (at (events s) i)) (omega (arith, count s h)))
    in-room true false q w z = absurd (omega arith)
    in-room false c q w z = absurd (eqb-false _ _ q z)

    still : (push_event Finish s).p.refused ≡ 0 → s.p.refused ≡ 0
    still = by-test (λ (x : St). x.p.refused ≡ 0 → s.p.refused ≡ 0) (live s.p) (cond (ltb s.p.len (holds (length s.room))) (added Finish s) (refuse 5 s)) s (λ w z. eqb-true _ _ w) (λ w z. z)

    by : (b : Bool) → live s.p ≡ b
        → (push_event Finish (cond b (cond (is_start (event_at s i)) (rewritten i (with_kind k (event_at s i)) s) (refuse 8 s)) s)).p.refused ≡ 0
        → events (push_event Finish (cond b (cond (is_start (event_at s i)) (rewritten i (with_kind k (event_at s i)) s) (refuse 8 s)) s)) ≡ set (events s) i (with_kind k (at (events s) i)) ++ Finish ∷ []
    by true q = rw (at-event s i h, t) (in-room (live s.p) (ltb s.p.len (holds (length (set s.room i (with_kind k (at (events s) i)))))) refl refl)
    by false q = λ z. absurd (eqb-false _ _ q (still z))

-- the first event of a list at whose beginning a fresh marker stands
bottom : (i n : ℕ) (l : List Event) {t : Marks} → Opens (fresh i ∷ []) [] t → Fits n l t → is_bare (at l i) ≡ true
bottom i n l base h = h.1.0
bottom i n l (extra p) h = bottom i _ l p h.2

bare-is : (v : Event) → is_bare v ≡ true → v ≡ Start 0 0
bare-is (Start k d) h = by (eqb k 0) refl h
  where
    by : (b : Bool) → eqb k 0 ≡ b → both b (eqb d 0) ≡ true → Start k d ≡ Start 0 0
    by true q e = rw (eqb-true k 0 q, eqb-true d 0 e)
    by false q e = apart e
bare-is Finish h = apart h
bare-is (Token k n) h = apart h
bare-is (Error c a f) h = apart h
bare-is (NoEvent a b) h = apart h

-- a list that is a tombstone and a body, and the body
pub record Around (k : ℕ) (l : List Event) : Type 0 where
  pub body : List Event
  pub list : l ≡ Start k 0 ∷ (body ++ Finish ∷ [])
  pub balance : Balanced 0 body 0
  pub chain : Chain body

around : (k : ℕ) (l : List Event) {o : Marks} → is_bare (at l 0) ≡ true → Live o l → Around k (set l 0 (with_kind k (at l 0)) ++ Finish ∷ [])
around k [] b h = apart b
around k (v ∷ body) b h =
    let e : v ≡ Start 0 0 = bare-is v b in
    let c : Chain (v ∷ body) = chained (v ∷ body) h.links in
    record { body = body; list = rw e; balance = by (rw e at h.balance); chain = c.1 }
  where
    by : Balanced 0 (Start 0 0 ∷ body) 0 → Balanced 0 body 0
    by g = subst (λ (m : ℕ). Balanced m body 0) g.1 g.2

-- the list of a source file's run
module _ (e : Env) (b : Bounded e) (ops : Table) (ws : List ℕ) where
  abbrev contents : Acts (Unit {0})
  contents = source_file_contents (counted ops deepest) false

  abbrev opened : St
  opened = push_event (Start TOMBSTONE 0) (view new ws)

  abbrev read_all : St
  read_all = (run e contents opened).1

  runs_to : (run e (source_file ops) (view new ws)).1 ≡ push_event Finish (named 0 SOURCE-FILE read_all)
  unfolding source_file ◌>>=◌ run step
  runs_to = ap (λ (x : Unit {0} × St). x.1) (run_bind e contents _ opened)

  opened-fit : Fit opened.p
  unfolding step
  opened-fit = kept_step e (λ (r : St). Fit r.p) (fits e) starts (view new ws) fit-new

  opened-held : Held opened
  unfolding step
  opened-held = kept_step e Held (helds e) starts (view new ws) (holds-none ws)

  read_live : (push_event Finish (named 0 SOURCE-FILE read_all)).p.refused ≡ 0 → read_all.p.refused ≡ 0
  unfolding run step
  read_live z = by (eqb read_all.p.refused 0) refl
    where
      by : (c : Bool) → eqb read_all.p.refused 0 ≡ c → read_all.p.refused ≡ 0
      by true q = eqb-true _ _ q
      by false q = sym (ap (λ (s : St). s.p.refused) (refused-run e (complete 0 SOURCE-FILE) read_all (eqb-false _ _ q))) ∙ z

  pub source-around : (run e (source_file ops) (view new ws)).1.p.refused ≡ 0 → Around SOURCE-FILE (events (run e (source_file ops) (view new ws)).1)
  source-around z =
      let y : (push_event Finish (named 0 SOURCE-FILE read_all)).p.refused ≡ 0 = sym (ap (λ (s : St). s.p.refused) runs_to) ∙ z in
      let held : Held read_all = held-run e contents opened opened-held in
      let w = safe-run e b contents (fresh 0 ∷ []) (λ a t. Opens (fresh 0 ∷ []) [] t) opened opened-fit opened-held ((source-file-contents (counted ops deepest) (tidy ops deepest) false).runs (fresh 0 ∷ []) (fresh 0 ∷ []) base) (started (view new ws) (holds-none ws) [] (begins ws)) (read_live y) in
      let t : is_bare (at (events read_all) 0) ≡ true = bottom 0 (length (events read_all)) (events read_all) w.1 w.2.marks in
      let st : is_start (at (events read_all) 0) ≡ true = bare-start (at (events read_all) 0) t in
      rw (runs_to, completed-events read_all held 0 SOURCE-FILE st (start-below (events read_all) 0 st) y) (around SOURCE-FILE (events read_all) t w.2)
