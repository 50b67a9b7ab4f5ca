-- What is proved of a parse beside its contract; docs/PROOFS.md has a sentence for each. Assumes nothing.
use mathlib.Core.Path.{◌≡◌, refl, sym, ap, ◌∙◌}
use mathlib.Core.Logic.{◌⊎◌, inl, inr}
use mathlib.Core.Bool.{Bool, true, false, cond}
use mathlib.Core.List.{List, [], ◌∷◌}
use Prim.Native.Nat.{ℕ, zero, suc, ◌+◌, ◌<◌}
use native.Mathlib.Omega.{arith}
use lib.Dec.{eqb, ltb}
use lib.ListN.{length, get_or}
use borrow.Author.Tests.{eqb-true, ne_eqb}
use Rattle.kinds.specs.Membership.{one_of}
use Rattle.kinds.specs.Sets.{PERMITTED}
use Rattle.input.specs.Input.{env}
use Rattle.runtime.specs.State.{view, new}
use Rattle.laws.proofs.Tests.{by-test, apart}
use Rattle.parse.specs.declared.Entry.{Entry}
use Rattle.parse.specs.declared.Entry.TheVariants.{SourceFile, Item, Expression}
use Rattle.std.proofs.Common.{Result, Ok, Err}
use Rattle.parse.specs.declared.Parsed.{Parsed}
use Rattle.parse.specs.declared.Refusal.{Refusal}
use Rattle.parse.specs.declared.Refusal.TheVariants.{Mode, TooMany, FewJoints, Kind, NoRoom, Deep, Lookups, Panic}
use Rattle.parse.specs.Answer.{numbers}
use Rattle.parse.specs.Parse.{Answer}
use Rattle.parse.specs.Parse.{Lent, Outcome, ends, refuses, bad_mode, too_many, few_joints, first_fault, not_permitted, acts_of, ran, leaves, number_of, settled, parsed}
use Rattle.answers.specs.Refusals.{reaches, reason, conditions, condition, first, place_of, left_by, handed_out, row}
use Rattle.answers.proofs.Reached.{met-run, met-reason, Reason, Reason.none, Reason.room, Reason.deep, Reason.lookups, Reason.panic}

-- the result that has these numbers: so no two results have the same
abbrev said : Answer → Result Parsed Refusal
said a =
    cond (eqb a.code 0) (Ok (record { tokens = a.place; events = a.events; lookups = a.lookups }))
    (cond (eqb a.code 1) (Err Mode)
    (cond (eqb a.code 2) (Err TooMany)
    (cond (eqb a.code 3) (Err FewJoints)
    (cond (eqb a.code 4) (Err (Kind a.place))
    (cond (eqb a.code 5) (Err (NoRoom a.place))
    (cond (eqb a.code 6) (Err (Deep a.place))
    (cond (eqb a.code 7) (Err (Lookups a.place)) (Err (Panic a.place)))))))))

is-said : (r : Result Parsed Refusal) → said (numbers r) ≡ r
is-said (Ok p) = refl
is-said (Err Mode) = refl
is-said (Err TooMany) = refl
is-said (Err FewJoints) = refl
is-said (Err (Kind n)) = refl
is-said (Err (NoRoom n)) = refl
is-said (Err (Deep n)) = refl
is-said (Err (Lookups n)) = refl
is-said (Err (Panic n)) = refl

-- Two results that meet the contract of `parse` are equal, with the rooms that they leave.
pub parse-unique : (l : Lent) (a b : Result Parsed Refusal) (r t : List ℕ) → parsed l ≡ ends (numbers a) r → parsed l ≡ ends (numbers b) t → (a ≡ b) × (r ≡ t)
parse-unique l a b r t p q =
    let e : ends (numbers a) r ≡ ends (numbers b) t = sym p ∙ q in
    (sym (is-said a) ∙ ap (λ (o : Outcome). said o.answer) e ∙ is-said b, ap (λ (o : Outcome). o.room) e)

-- the run's number and place, and what it meets
module _ (l : Lent) where
  pub meeting : ◌≡◌ {A = ℕ × ℕ} ((ran l).p.refused, (ran l).p.pos) (reaches l)
  meeting = met-run (env l.kinds l.joints) (acts_of l.entry l.mode) (view new l.room) refl

  pub is-reason : number_of l.entry (length l.kinds) (ran l).p ≡ reason l
  is-reason = ap (λ (x : ℕ × ℕ). cond (eqb x.0 0) (leaves l.entry (length l.kinds) x.1) x.0) meeting

  left-reason : (e : Entry) (n i : ℕ) → Reason (leaves e n i)
  left-reason SourceFile n i = by-test Reason (ltb i n) 8 0 (λ q. panic) (λ q. none)
  left-reason Item n i = none
  left-reason Expression n i = none

  pub has-reason : Reason (reason l)
  has-reason =
      by-test Reason (eqb (reaches l).0 0) (leaves l.entry (length l.kinds) (reaches l).1) (reaches l).0
      (λ q. left-reason l.entry (length l.kinds) (reaches l).1)
      (λ q. met-reason (env l.kinds l.joints) (acts_of l.entry l.mode) (view new l.room) refl)

  -- Demand 1: a parse answers as the row of the first condition that holds, or hands out its list.
  pub parsed-row : parsed l ≡ row (first (conditions l) 0) l
  unfolding parsed settled
  parsed-row = by (bad_mode l) (too_many l) (few_joints l) (not_permitted l)
    where
      ending : (n : ℕ) → Reason n → number_of l.entry (length l.kinds) (ran l).p ≡ n
          → settled n (length l.room) (ran l) ≡ row (first (false ∷ false ∷ false ∷ false ∷ false ∷ eqb n 5 ∷ eqb n 6 ∷ eqb n 7 ∷ eqb n 8 ∷ []) 0) l
      ending n none e = refl
      ending n room e = rw (ap (λ (x : ℕ × ℕ). x.1) meeting)
      ending n deep e = rw (ap (λ (x : ℕ × ℕ). x.1) meeting)
      ending n lookups e = rw (ap (λ (x : ℕ × ℕ). x.1) meeting)
      ending n panic e = rw (ap (λ (x : ℕ × ℕ). x.1) meeting)

      last : Outcome
      last = settled (number_of l.entry (length l.kinds) (ran l).p) (length l.room) (ran l)

      by : (a b c d : Bool) → cond a (ends (refuses 1 0) l.room) (cond b (ends (refuses 2 0) l.room) (cond c (ends (refuses 3 0) l.room) (cond d (ends (refuses 4 (first_fault l.kinds)) l.room) last)))
          ≡ row (first (false ∷ a ∷ b ∷ c ∷ d ∷ eqb (reason l) 5 ∷ eqb (reason l) 6 ∷ eqb (reason l) 7 ∷ eqb (reason l) 8 ∷ []) 0) l
      by true b c d = refl
      by false true c d = refl
      by false false true d = refl
      by false false false true = refl
      by false false false false = rw is-reason (ending (reason l) has-reason is-reason)

-- The first that holds of a list: it holds and none before it does; and where there is one, it is found.
first-is : (bs : List Bool) (i n : ℕ) → get_or bs n false ≡ true → ((m : ℕ) → m < n → get_or bs m false ≡ false) → first bs i ≡ i + n
first-is [] i n h k = apart h
first-is (b ∷ bs) i zero h k = rw h (omega arith)
first-is (b ∷ bs) i (suc n) h k = rw (k 0 (omega arith)) (first-is bs (suc i) n h (λ m l. k (suc m) (omega arith)) ∙ omega arith)

record Found (bs : List Bool) (i n : ℕ) : Type 0 where
  is : first bs i ≡ i + n
  holds : get_or bs n false ≡ true
  before : (m : ℕ) → m < n → get_or bs m false ≡ false

record Absent (bs : List Bool) (i : ℕ) : Type 0 where
  is : first bs i ≡ 0
  nowhere : (n : ℕ) → get_or bs n false ≡ false

find : (bs : List Bool) (i : ℕ) → Absent bs i ⊎ ((n : ℕ) × Found bs i n)
find [] i = inl (record { is = refl; nowhere = λ n. refl })
find (true ∷ bs) i = inr (0, record { is = omega arith; holds = refl; before = λ m l. absurd (omega arith) })
find (false ∷ bs) i = by (find bs (suc i))
  where
    by : Absent bs (suc i) ⊎ ((n : ℕ) × Found bs (suc i) n) → Absent (false ∷ bs) i ⊎ ((n : ℕ) × Found (false ∷ bs) i n)
    by (inl a) = inl (record { is = a.is; nowhere = none-at a })
      where
        none-at : Absent bs (suc i) → (n : ℕ) → get_or (false ∷ bs) n false ≡ false
        none-at a zero = refl
        none-at a (suc n) = a.nowhere n
    by (inr (n, f)) = inr (suc n, record { is = f.is ∙ omega arith; holds = f.holds; before = ahead f })
      where
        ahead : Found bs (suc i) n → (m : ℕ) → m < suc n → get_or (false ∷ bs) m false ≡ false
        ahead f zero l = refl
        ahead f (suc m) l = f.before m (omega arith)

-- A number is given exactly when its condition holds and none before it does: condition 1, then 2, 3, 4; of 5 to 8 at most one holds,
-- the first that the run reaches.
pub record Given (n : ℕ) (l : Lent) : Type 0 where
  pub holds : condition n l ≡ true
  pub before : (m : ℕ) → m < n → condition m l ≡ false

module _ (l : Lent) where
  row-code : (n : ℕ) → (row n l).answer.code ≡ n
  row-code n = by (eqb n 0) refl
    where
      by : (b : Bool) → eqb n 0 ≡ b → (cond b (handed_out l) (ends (refuses n (place_of n l)) (left_by n l))).answer.code ≡ n
      by true q = sym (eqb-true n 0 q)
      by false q = refl

  code-first : (parsed l).answer.code ≡ first (conditions l) 0
  code-first = ap (λ (o : Outcome). o.answer.code) (parsed-row l) ∙ row-code (first (conditions l) 0)

  pub given : (n : ℕ) → (n ≡ 0 → ⊥) → (parsed l).answer.code ≡ n → Given n l
  given n z e = by (find (conditions l) 0)
    where
      by : Absent (conditions l) 0 ⊎ ((m : ℕ) × Found (conditions l) 0 m) → Given n l
      by (inl a) = absurd (z (sym e ∙ code-first ∙ a.is))
      by (inr (m, f)) =
          let q : m ≡ n = omega (arith, f.is, code-first, e) in
          record { holds = rw q at f.holds; before = rw q at f.before }

  pub gives : (n : ℕ) → Given n l → (parsed l).answer.code ≡ n
  gives n g = code-first ∙ first-is (conditions l) 0 n g.holds g.before ∙ omega arith

  -- done exactly when no condition holds
  pub done-when : (parsed l).answer.code ≡ 0 → (n : ℕ) → condition n l ≡ false
  done-when e = by (find (conditions l) 0)
    where
      by : Absent (conditions l) 0 ⊎ ((m : ℕ) × Found (conditions l) 0 m) → (n : ℕ) → condition n l ≡ false
      by (inl a) n = a.nowhere n
      by (inr (m, f)) n = let q : m ≡ 0 = omega (arith, f.is, code-first, e) in apart (rw q at f.holds)

  pub when-done : ((n : ℕ) → condition n l ≡ false) → (parsed l).answer.code ≡ 0
  when-done h = by (find (conditions l) 0)
    where
      by : Absent (conditions l) 0 ⊎ ((m : ℕ) × Found (conditions l) 0 m) → (parsed l).answer.code ≡ 0
      by (inl a) = code-first ∙ a.is
      by (inr (m, f)) = apart (sym (h m) ∙ f.holds)

  -- A done parse hands out its run's list; a refused one has its number's place, no events and no lookups, and leaves the room that its
  -- number leaves.
  pub hands_out : (parsed l).answer.code ≡ 0 → parsed l ≡ handed_out l
  hands_out e = parsed-row l ∙ ap (λ (n : ℕ). row n l) (sym code-first ∙ e)

  pub refused-row : (n : ℕ) → (n ≡ 0 → ⊥) → (parsed l).answer.code ≡ n → parsed l ≡ ends (refuses n (place_of n l)) (left_by n l)
  refused-row n z e = parsed-row l ∙ ap (λ (m : ℕ). row m l) (sym code-first ∙ e) ∙ rw (ne_eqb n 0 z)

-- The place of a 4 is the first token whose kind is not permitted.
pub fault-first : (ks : List ℕ) (i : ℕ) → i < first_fault ks → one_of PERMITTED (get_or ks i 0) ≡ true
unfolding first_fault
fault-first [] i h = absurd (omega arith)
fault-first (k ∷ ks) zero h = by (one_of PERMITTED k) refl h
  where
    by : (b : Bool) → one_of PERMITTED k ≡ b → 0 < cond b (suc (first_fault ks)) 0 → one_of PERMITTED k ≡ true
    by true q h = q
    by false q h = absurd (omega arith)
fault-first (k ∷ ks) (suc i) h = fault-first ks i (by (one_of PERMITTED k) h)
  where
    by : (b : Bool) → suc i < cond b (suc (first_fault ks)) 0 → i < first_fault ks
    by true h = omega arith
    by false h = absurd (omega arith)

pub fault-there : (ks : List ℕ) → first_fault ks < length ks → one_of PERMITTED (get_or ks (first_fault ks) 0) ≡ false
unfolding first_fault
fault-there [] h = absurd (omega arith)
fault-there (k ∷ ks) h = by (one_of PERMITTED k) refl h (fault-there ks)
  where
    by : (b : Bool) → one_of PERMITTED k ≡ b → cond b (suc (first_fault ks)) 0 < suc (length ks) → (first_fault ks < length ks → one_of PERMITTED (get_or ks (first_fault ks) 0) ≡ false)
        → one_of PERMITTED (get_or (k ∷ ks) (cond b (suc (first_fault ks)) 0) 0) ≡ false
    by true q h r = r (omega arith)
    by false q h r = q
