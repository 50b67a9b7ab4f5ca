-- The run behind a done parse: it is not refused, its kinds fit, and its list is well made. Assumes nothing.
use mathlib.Core.Path.{◌≡◌, refl, sym, ap, ◌∙◌}
use mathlib.Core.Bool.{Bool, true, false, cond}
use mathlib.Core.List.{List, [], ◌∷◌}
use Prim.Native.Nat.{ℕ, zero, suc, ◌*◌, ◌≤◌, ◌<◌}
use native.Mathlib.Omega.{arith}
use lib.Dec.{T, eqb, ltb→lt}
use lib.ListN.{length, get_or, take}
use lib.Seq.{take_at, length-take-le}
use borrow.Author.Tests.{eqb-true, eqb-false, ltb-false}
use Rattle.kinds.specs.Kinds.{EOF}
use Rattle.kinds.specs.Membership.{one_of, both}
use Rattle.kinds.specs.Sets.{PERMITTED}
use Rattle.kinds.proofs.Laws.{both-parts}
use Rattle.input.specs.Input.{env}
use Rattle.event.specs.Event.{words_of}
use Rattle.laws.proofs.Tests.{apart}
use Rattle.event.proofs.Rooms.{length-words}
use Rattle.runtime.specs.State.{view, new, live, Fit}
use Rattle.runtime.specs.Cover.{events}
use Rattle.runtime.proofs.Runs.{fit-run, Held, held-run}
use Rattle.operators.specs.Operators.{table_of}
use Rattle.parse.specs.declared.Entry.{Entry}
use Rattle.parse.specs.declared.Entry.TheVariants.{SourceFile, Item, Expression}
use Rattle.parse.specs.Parse.{Lent, Outcome, first_fault, acts_of, ran, leaves, parsed}
use Rattle.answers.specs.Refusals.{reason}
use Rattle.answers.proofs.Reached.{Reason, Reason.none, Reason.room, Reason.deep, Reason.lookups, Reason.panic}
use Rattle.answers.proofs.Theorems.{is-reason, has-reason, done-when, hands_out}
use Rattle.markers.proofs.Marks.{Marks}
use Rattle.markers.proofs.Live.{Live, live-none}
use Rattle.markers.proofs.Safe.{small, Bounded, WellMade, safe-run}
use Rattle.markers.proofs.Calculus.{Opens, Opens.base, Run, none as no-marker}
use Rattle.markers.proofs.OfEntry.{source-file, one-item, one-expression}

-- permitted kinds fit 16 bits
all_small : List ℕ → Bool
all_small [] = true
all_small (x ∷ xs) = both (small x) (all_small xs)

listed_small : (xs : List ℕ) (k : ℕ) → T (all_small xs) → one_of xs k ≡ true → k < 65536
unfolding all_small one_of
listed_small [] k t h = apart h
listed_small (x ∷ xs) k t h = by (eqb k x) refl h (listed_small xs k (both-parts (small x) (all_small xs) t).1)
  where
    by : (b : Bool) → eqb k x ≡ b → cond b true (one_of xs k) ≡ true → (one_of xs k ≡ true → k < 65536) → k < 65536
    by true q e r = rw (eqb-true k x q) (ltb→lt _ _ (both-parts (small x) (all_small xs) t).0)
    by false q e r = r e

pub kinds-small : (ks : List ℕ) → length ks ≤ first_fault ks → (i : ℕ) → get_or ks i EOF < 65536
unfolding first_fault all_small
kinds-small [] h i = omega arith
kinds-small (k ∷ ks) h i = by (one_of PERMITTED k) refl h i (kinds-small ks)
  where
    by : (b : Bool) → one_of PERMITTED k ≡ b → suc (length ks) ≤ cond b (suc (first_fault ks)) 0 → (i : ℕ) → (length ks ≤ first_fault ks → (j : ℕ) → get_or ks j EOF < 65536) → get_or (k ∷ ks) i EOF < 65536
    by true q g zero r = listed_small PERMITTED k tt q
    by true q g (suc i) r = r (omega arith) i
    by false q g i r = absurd (omega arith)

-- every entry takes no marker and leaves none
pub orderly : (entry : Entry) (mode : ℕ) → Run [] (acts_of entry mode) no-marker
orderly SourceFile mode = source-file (table_of mode)
orderly Item mode = one-item (table_of mode)
orderly Expression mode = one-expression (table_of mode)

pub fit-new : Fit new
fit-new = record { few = omega arith; near = omega arith; all = omega arith; short = omega arith }

pub begins : (ws : List ℕ) → WellMade [] (view new ws)
begins ws = record { list = λ z. live-none }

pub holds-none : (ws : List ℕ) → Held (view new ws)
holds-none ws = omega arith

module _ (l : Lent) (done : (parsed l).answer.code ≡ 0) where
  pub bounded : Bounded (env l.kinds l.joints)
  bounded = record { kind = kinds-small l.kinds (ltb-false _ _ (done-when l done 4)) }

  no-reason : reason l ≡ 0
  no-reason = by (reason l) (has-reason l) refl
    where
      by : (n : ℕ) → Reason n → n ≡ reason l → reason l ≡ 0
      by n none e = sym e
      by n room e = apart (sym (done-when l done 5) ∙ ap (λ (x : ℕ). eqb x 5) (sym e))
      by n deep e = apart (sym (done-when l done 6) ∙ ap (λ (x : ℕ). eqb x 6) (sym e))
      by n lookups e = apart (sym (done-when l done 7) ∙ ap (λ (x : ℕ). eqb x 7) (sym e))
      by n panic e = apart (sym (done-when l done 8) ∙ ap (λ (x : ℕ). eqb x 8) (sym e))

  -- not refused, and no token left that must not be
  pub ended : ((ran l).p.refused ≡ 0) × (leaves l.entry (length l.kinds) (ran l).p.pos ≡ 0)
  ended = by (live (ran l).p) refl (is-reason l ∙ no-reason)
    where
      by : (b : Bool) → live (ran l).p ≡ b → cond b (leaves l.entry (length l.kinds) (ran l).p.pos) (ran l).p.refused ≡ 0 → ((ran l).p.refused ≡ 0) × (leaves l.entry (length l.kinds) (ran l).p.pos ≡ 0)
      by true q e = (eqb-true _ _ q, e)
      by false q e = absurd (eqb-false _ _ q e)

  pub well-made : (o : Marks) × Opens [] [] o × Live o (events (ran l))
  well-made = safe-run (env l.kinds l.joints) bounded (acts_of l.entry l.mode) [] (λ a o. Opens [] [] o) (view new l.room) fit-new (holds-none l.room) ((orderly l.entry l.mode).runs [] [] base) (begins l.room) ended.0

  pub event-count : length (events (ran l)) ≡ (ran l).p.len
  event-count = length-take-le (ran l).p.len (ran l).room (held-run (env l.kinds l.joints) (acts_of l.entry l.mode) (view new l.room) (holds-none l.room))

  pub few-events : length (events (ran l)) ≤ 65536
  few-events = rw event-count (fit-run (env l.kinds l.joints) (acts_of l.entry l.mode) (view new l.room) fit-new).short

  -- the list that is handed out is the run's
  pub handed-list : take ((parsed l).answer.events * 2) (parsed l).room ≡ words_of (events (ran l))
  handed-list =
      ap (λ (o : Outcome). take (o.answer.events * 2) o.room) (hands_out l done)
      ∙ take_at (words_of (events (ran l))) _ ((ran l).p.len * 2) (length-words (events (ran l)) ∙ ap (λ (n : ℕ). n * 2) event-count)
