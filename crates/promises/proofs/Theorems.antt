-- What is promised of every parse, in one place; docs/PROOFS.md has a sentence for each. Assumes nothing.
use mathlib.Core.Path.{◌≡◌, refl, sym, ap, ◌∙◌, subst}
use mathlib.Core.Bool.{Bool, true, false, cond}
use mathlib.Core.List.{List, [], ◌∷◌, ◌++◌}
use Prim.Native.Nat.{ℕ, suc, ◌≤◌}
use native.Mathlib.Omega.{arith}
use lib.Dec.{ltb}
use lib.ListN.{length, get_or, replicate, length-append}
use borrow.Author.Tests.{ltb-false}
use Rattle.kinds.specs.Kinds.{SOURCE-FILE}
use Rattle.event.specs.declared.Event.{Event}
use Rattle.event.specs.declared.Event.TheVariants.{Start, Finish, NoEvent}
use Rattle.event.specs.Event.{events_of, words_of, tombstone}
use Rattle.event.proofs.Rooms.{events-words}
use Rattle.input.specs.Input.{env}
use Rattle.runtime.specs.State.{view, new}
use Rattle.runtime.specs.Cover.{Covers, events}
use Rattle.runtime.specs.Acts.{run}
use Rattle.runtime.proofs.Runs.{inside-run}
use Rattle.operators.specs.Operators.{table_of}
use Rattle.records.specs.declared.Step.TheVariants.{Enter as enter}
use Rattle.records.specs.Record.{bytes, over}
use Rattle.stepfile.specs.Answer as S
use Rattle.stepfile.specs.File.{file_read}
use Rattle.lists.specs.Answer.{Numbers, says}
use Rattle.lists.specs.Check.{checked}
use Rattle.own.specs.Own.{need}
use Rattle.turns.specs.Process.{process, steps_of, file}
use Rattle.events.specs.Resolve.{ends, resolved}
use Rattle.listed.specs.Shape.{closes, from, others, plain}
use Rattle.listed.specs.WellFormed.{WellFormed}
use Rattle.listed.proofs.Order.{in_order}
use Rattle.listed.proofs.Checking.{passing-formed}
use Rattle.listed.proofs.Theorems.{passing-resolves, passing-closes, entered-once}
use Rattle.parse.specs.declared.Entry.{Entry}
use Rattle.parse.specs.declared.Entry.TheVariants.{SourceFile}
use Rattle.parse.specs.Parse.{Lent, Outcome, not_permitted, acts_of, ran, leaves, parsed}
use Rattle.answers.proofs.Theorems.{hands_out, done-when}
use Rattle.markers.proofs.Balance.{Balanced}
use Rattle.markers.proofs.Marks.{Marker.fresh, Marker.made, Marker.shut, Marks}
use Rattle.markers.proofs.Safe.{Safe}
use Rattle.markers.proofs.Discipline.{Orderly, safe-orderly, covered}
use Rattle.markers.proofs.Calculus.{weaken, Opens, Opens.base, Opens.extra}
use Rattle.answers.specs.Handed.{handed, steps_in}
use Rattle.promises.specs.Promised.{CoverSteps, raw_sum, Rooted}
use Rattle.promises.proofs.Passing.{Chain, scan-passes, live-passes}
use Rattle.promises.proofs.Done.{kinds-small, orderly, fit-new, begins, holds-none, bounded, ended, well-made, event-count, few-events, handed-list}
use Rattle.promises.proofs.Covering.{cover-steps, cover-sum}
use Rattle.promises.proofs.Tree.{rooted}
use Rattle.promises.proofs.Root.{Around, source-around}
use Rattle.promises.proofs.Written.{rooted-nests, file-good}

-- no marker is open
abbrev pub AllShut : Marks → Type 0
AllShut [] = Unit {0}
AllShut (fresh i ∷ o) = ⊥
AllShut (made i ∷ o) = ⊥
AllShut (shut i ∷ o) = AllShut o

tree : (body : List Event) → Balanced 0 body 0 → Chain body → Rooted SOURCE-FILE (steps_of (process (Start SOURCE-FILE 0 ∷ (body ++ Finish ∷ []))).steps)
tree body b c =
    let n : length (body ++ Finish ∷ []) ≡ suc (length body) = length-append body (Finish ∷ []) ∙ omega arith in
    rw n (rooted SOURCE-FILE body (λ z. omega arith) c (ap (λ (x : Numbers). x.code) (scan-passes body 0 0 b c)))

-- A run that is begun handles its markers well at each of its acts, refused or not: `complete`, `abandon`, `precede` and `extend_to` always
-- find a start at their marker, and `error` is never called with code 1.
pub markers-proper : (l : Lent) → not_permitted l ≡ false → Orderly (env l.kinds l.joints) (acts_of l.entry l.mode) (view new l.room)
markers-proper l h =
    safe-orderly (env l.kinds l.joints) (record { kind = kinds-small l.kinds (ltb-false _ _ h) }) (acts_of l.entry l.mode) [] (λ a o. Opens [] [] o) (view new l.room) fit-new (holds-none l.room) ((orderly l.entry l.mode).runs [] [] base) (begins l.room)

-- Its token events cover the tokens that it has consumed, and each error says what it stood at: of code 1 it has found the kind of the token
-- behind those covered before it, EOF behind the last, and of other codes nothing.
pub run-covered : (l : Lent) → not_permitted l ≡ false → Covers (env l.kinds l.joints) 0 (events (ran l)) (ran l).p.pos
run-covered l h = covered (env l.kinds l.joints) (acts_of l.entry l.mode) l.room (markers-proper l h)

module _ (l : Lent) (done : (parsed l).answer.code ≡ 0) where
  count-said : (parsed l).answer.events ≡ (ran l).p.len
  count-said = ap (λ (o : Outcome). o.answer.events) (hands_out l done)

  place-said : (parsed l).answer.place ≡ (ran l).p.pos
  place-said = ap (λ (o : Outcome). o.answer.place) (hands_out l done)

  -- The list that a done parse hands out passes the check.
  pub list-passes : checked (handed (parsed l)) ≡ says 0 (parsed l).answer.events
  list-passes =
      let w = well-made l done in
      rw (handed-list l done) (live-passes w.0 (events (ran l)) w.2 (few-events l done) ∙ ap (says 0) (event-count l done ∙ sym count-said))

  passes : (checked (handed (parsed l))).code ≡ 0
  passes = ap (λ (n : Numbers). n.code) list-passes

  -- So it is well formed, in the words of the rules.
  pub list-formed : WellFormed (events_of (handed (parsed l)))
  list-formed = (passing-formed (handed (parsed l)) passes).2

  -- It resolves, given room: the bytes needed are said, tombstones and the step file are left.
  pub list-resolves : (out : List ℕ) → need (events_of (handed (parsed l))) ≤ length out
      → resolved (handed (parsed l)) out
      ≡ ends (says 0 (need (events_of (handed (parsed l))))) (words_of (replicate (length (events_of (handed (parsed l)))) tombstone)) (over out 0 (file (process (events_of (handed (parsed l)))).steps))
  list-resolves out h = passing-resolves (handed (parsed l)) passes out h

  -- Its steps start and end at depth 0 and are never below.
  pub steps-close : closes 0 (steps_in (parsed l)) ≡ true
  steps-close = passing-closes (handed (parsed l)) passes

  -- Each completed start is entered exactly once,
  pub starts-entered : (i k d : ℕ) → get_or (events_of (handed (parsed l))) i (NoEvent 0 0) ≡ Start k d → (k ≡ 0 → ⊥) → from i (process (events_of (handed (parsed l)))).steps ≡ enter k ∷ []
  starts-entered i k d = entered-once (events_of (handed (parsed l))) i k d

  -- and tokens, errors and finishes keep their order.
  pub steps-ordered : others (process (events_of (handed (parsed l)))).steps ≡ plain 0 (events_of (handed (parsed l)))
  steps-ordered = in_order (events_of (handed (parsed l)))

  list_read : events_of (handed (parsed l)) ≡ events (ran l)
  list_read = rw (handed-list l done) (events-words (events (ran l)) (well-made l done).2.sounds)

  -- The token steps cover the tokens consumed, in order, each with its kind or glue, and each error of code 1 says what stands behind them,
  pub steps-cover : CoverSteps (env l.kinds l.joints) 0 (steps_in (parsed l)) (parsed l).answer.place
  steps-cover =
      rw (list_read, place-said)
      (cover-steps (env l.kinds l.joints) (events (ran l)) 0 (ran l).p.pos (run-covered l (done-when l done 4)))

  -- and their raw counts add up to the tokens consumed.
  pub raw-counts : raw_sum (steps_in (parsed l)) ≡ (parsed l).answer.place
  raw-counts = let g = cover-sum (env l.kinds l.joints) (steps_in (parsed l)) 0 (parsed l).answer.place steps-cover in omega (arith, g)

  module _ (source : l.entry ≡ SourceFile) where
    -- From the source-file entry every token is consumed,
    pub all-consumed : (parsed l).answer.place ≡ length l.kinds
    all-consumed =
        place-said ∙ by l.entry source (ended l done).1 (inside-run (env l.kinds l.joints) (acts_of l.entry l.mode) (view new l.room) (omega arith))
      where
        by : (e : Entry) → e ≡ SourceFile → leaves e (length l.kinds) (ran l).p.pos ≡ 0 → (ran l).p.pos ≤ length l.kinds → (ran l).p.pos ≡ length l.kinds
        by e q z m = on (ltb (ran l).p.pos (length l.kinds)) refl (rw q at z)
          where
            on : (b : Bool) → ltb (ran l).p.pos (length l.kinds) ≡ b → ◌≡◌ {A = ℕ} (cond b 8 0) 0 → (ran l).p.pos ≡ length l.kinds
            on true w x = absurd (omega arith)
            on false w x = let g : length l.kinds ≤ (ran l).p.pos = ltb-false _ _ w in omega arith

    -- so the steps cover the whole input,
    pub source-covered : CoverSteps (env l.kinds l.joints) 0 (steps_in (parsed l)) (length l.kinds)
    source-covered = subst (λ (n : ℕ). CoverSteps (env l.kinds l.joints) 0 (steps_in (parsed l)) n) all-consumed steps-cover

    -- and the tree has one root, SOURCE_FILE.
    pub source-rooted : Rooted SOURCE-FILE (steps_in (parsed l))
    source-rooted = rw (list_read, surrounded.list) (tree surrounded.body surrounded.balance surrounded.chain)
      where
        surrounded : Around SOURCE-FILE (events (ran l))
        surrounded =
            subst (λ (e : Entry). (run (env l.kinds l.joints) (acts_of e l.mode) (view new l.room)).1.p.refused ≡ 0 → Around SOURCE-FILE (events (run (env l.kinds l.joints) (acts_of e l.mode) (view new l.room)).1))
            (sym source)
            (source-around (env l.kinds l.joints) (bounded l done) (table_of l.mode) l.room)
            (ended l done).0

    -- So its step file is good: the whole-file call says its bytes and its steps.
    pub source-good : file_read (bytes (steps_in (parsed l))) ≡ S.says 0 (length (bytes (steps_in (parsed l)))) (length (steps_in (parsed l)))
    source-good = file-good (handed (parsed l)) (rooted-nests SOURCE-FILE (steps_in (parsed l)) source-rooted)

-- Nothing is left open: from no marker an entry's acts end, whatever is seen on the way, with completed markers alone. Each other one was
-- abandoned, or extended to a completed one.
pub none_open : (entry : Entry) (mode : ℕ) → Safe (acts_of entry mode) [] (λ a o. AllShut o)
none_open entry mode = weaken (acts_of entry mode) [] (λ a o. Opens [] [] o) (λ a o. AllShut o) (λ a o p. shut-all p) ((orderly entry mode).runs [] [] base)
  where
    shut-all : {o : Marks} → Opens [] [] o → AllShut o
    shut-all base = tt
    shut-all (extra p) = shut-all p
