-- What a parse depends on, of all that it is lent: not on what the room held, and on no joint bit but that of a token which another
-- follows. Assumes nothing.
use mathlib.Core.Path.{◌≡◌, refl, sym, ap, ap₂, ◌∙◌}
use mathlib.Core.Logic.{◌⊎◌, inl, inr}
use mathlib.Core.Bool.{Bool, true, false, cond}
use mathlib.Core.List.{List, ◌++◌}
use Prim.Native.Nat.{ℕ, ◌-◌, ◌*◌, ◌≤◌, ◌<◌}
use native.Mathlib.Omega.{arith}
use lib.Dec.{eqb}
use lib.ListN.{length, replicate}
use Rattle.event.specs.declared.Event.{Event}
use Rattle.event.specs.Event.{event_words, words_of}
use Rattle.event.proofs.Rooms.{length-events}
use Rattle.input.specs.Input.{env}
use Rattle.runtime.specs.State.{Parser}
use Rattle.runtime.specs.State.{St, view, new}
use Rattle.runtime.specs.Cover.{events}
use Rattle.runs.proofs.Alike.{Alike, alike-run}
use Rattle.runs.proofs.Joints.{Agree, joints-run}
use Rattle.parse.specs.Parse.{Lent, Outcome, lent, ends, says, refuses, bad_mode, too_many, few_joints, first_fault, not_permitted, acts_of, ran, number_of, settled, parsed}

-- what is lent, with another room, and with other joint words
abbrev pub in_room : Lent → List ℕ → Lent
in_room l room = lent l.entry l.mode l.kinds l.joints room

abbrev pub with_joints : Lent → List ℕ → Lent
with_joints l joints = lent l.entry l.mode l.kinds joints l.room

-- the outcome of a run is told by its numbers and its events
settled_same : (n size : ℕ) (s t : St) → s.p ≡ t.p → events s ≡ events t → settled n size s ≡ settled n size t
unfolding settled
settled_same n size s t q e =
    ap₂ (λ (p : Parser) (es : List Event). cond (eqb n 0) (ends (says 0 p.pos p.len p.looks) (words_of es ++ replicate (size - p.len * event_words) 0)) (ends (refuses n p.pos) (replicate size 0))) q e

-- the outcome of a run, and what four tests make of it
abbrev ended : Lent → Outcome
ended l = settled (number_of l.entry (length l.kinds) (ran l).p) (length l.room) (ran l)

abbrev chosen : Bool → Bool → Bool → Bool → Lent → Outcome
chosen a b c d l = cond a (ends (refuses 1 0) l.room) (cond b (ends (refuses 2 0) l.room) (cond c (ends (refuses 3 0) l.room) (cond d (ends (refuses 4 (first_fault l.kinds)) l.room) (ended l))))

early : {A : Type 0} (n : ℕ) → 1 ≤ n → n ≤ 4 → (n ≡ 0) ⊎ (4 < n) → A
early n p q (inl z) = absurd (omega arith)
early n p q (inr z) = absurd (omega arith)

module _ (l : Lent) (room : List ℕ) (size : length room ≡ length l.room) where
  run-alike : Alike (ran (in_room l room)) (ran l)
  run-alike =
      (alike-run (env l.kinds l.joints) (acts_of l.entry l.mode) (view new room) (view new l.room)
      (record { same = refl; size = length-events room ∙ omega (arith, size) ∙ sym (length-events l.room); so_far = refl })
      ).1

  ended_same : ended (in_room l room) ≡ ended l
  ended_same =
      ap₂ (λ (p : Parser) (n : ℕ). settled (number_of l.entry (length l.kinds) p) n (ran (in_room l room))) run-alike.same size
      ∙ settled_same (number_of l.entry (length l.kinds) (ran l).p) (length l.room) (ran (in_room l room)) (ran l) run-alike.same run-alike.so_far

  chosen-same : (a b c d : Bool) → ((chosen a b c d l).answer.code ≡ 0) ⊎ (4 < (chosen a b c d l).answer.code) → chosen a b c d (in_room l room) ≡ chosen a b c d l
  chosen-same true b c d h = early 1 (omega arith) (omega arith) h
  chosen-same false true c d h = early 2 (omega arith) (omega arith) h
  chosen-same false false true d h = early 3 (omega arith) (omega arith) h
  chosen-same false false false true h = early 4 (omega arith) (omega arith) h
  chosen-same false false false false h = ended_same

  -- What a parse says and leaves that is done, or refused with 5 to 8, does not depend on what the room held, but for its length.
  pub room-forgotten : ((parsed l).answer.code ≡ 0) ⊎ (4 < (parsed l).answer.code) → parsed (in_room l room) ≡ parsed l
  unfolding parsed
  room-forgotten = chosen-same (bad_mode l) (too_many l) (few_joints l) (not_permitted l)

-- Further joint words and bits are ignored: where two lists of joint words are both long enough, or both too short, and agree on each token
-- that another follows, a parse says and leaves the same.
pub joints-ignored : (l : Lent) (joints : List ℕ) → few_joints (with_joints l joints) ≡ few_joints l → Agree l.kinds joints l.joints → parsed (with_joints l joints) ≡ parsed l
unfolding parsed
joints-ignored l joints few agree =
    ap₂ (λ (b : Bool) (s : St). cond (bad_mode l) (ends (refuses 1 0) l.room) (cond (too_many l) (ends (refuses 2 0) l.room) (cond b (ends (refuses 3 0) l.room) (cond (not_permitted l) (ends (refuses 4 (first_fault l.kinds)) l.room) (settled (number_of l.entry (length l.kinds) s.p) (length l.room) s)))))
    few
    (ap (λ (x : Unit {0} × St). x.1) (joints-run l.kinds joints l.joints agree (acts_of l.entry l.mode) (view new l.room)))
