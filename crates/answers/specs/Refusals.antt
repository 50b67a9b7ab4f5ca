-- When a run meets a refusal: the conditions 5 to 8 of docs/RULES.md section 3, at the act of a live run that meets one. Assumes nothing:
-- these are definitions.
use Rattle.std.specs.Prelude.{Bool, false, cond, List, [], ◌∷◌, ◌++◌, ℕ, suc, ◌+◌, ◌-◌, ◌*◌, eqb, ltb, length, get_or, replicate}
use Rattle.kinds.specs.Kinds.{TOMBSTONE}
use Rattle.event.specs.declared.Event.TheVariants.{Start}
use Rattle.event.specs.Event.{event_words, words_of, holds, is_start, is_bare}
use Rattle.input.specs.Input.{Env, env}
use Rattle.input.specs.Glue.{parts_of, raw_count}
use Rattle.runtime.specs.Cover.{events}
use Rattle.runtime.specs.State.{St, view, new, most_looks, stop_number, added, event_at, enough}
use Rattle.runtime.specs.Acts.{Act, Act.looks, Act.peeks, Act.eats, Act.takes, Act.starts, Act.completes, Act.abandons, Act.precedes, Act.extends, Act.fails, Act.lacks, Act.stops, Act.asks, sees, step, Acts, Acts.done, Acts.act}
use Rattle.parse.specs.Parse.{Lent, Outcome, ends, says, refuses, bad_mode, too_many, few_joints, first_fault, not_permitted, acts_of, ran, leaves}

-- 5: one more event than the room holds; else n
abbrev pub adding : St → ℕ → ℕ
adding s n = cond (ltb s.p.len (holds (length s.room))) n 5

-- 8: a token past the last
abbrev pub moving : Env → ℕ → St → ℕ
moving e n s = cond (enough e s.p n) (adding s 0) 8

-- 8: a marker whose position holds no start; else n
abbrev pub marked : St → ℕ → ℕ → ℕ
marked s m n = cond (is_start (event_at s m)) n 8

-- The number that an act meets, 0 for none. 7: the 10,001st lookup. 6 and 8: the grammar's own stops. `complete` looks at its marker
-- first and `precede` adds its start first; `abandon` minds a last event only.
unfoldable pub meets : Env → Act → St → ℕ
meets e (looks n) s = cond (ltb s.p.since most_looks) 0 7
meets e (peeks n k) s = 0
meets e (eats k) s = cond (sees e s.p k) (moving e (raw_count (parts_of k)) s) 0
meets e takes s = moving e 1 s
meets e starts s = adding s 0
meets e (completes m k) s = marked s m (adding s 0)
meets e (abandons m) s = cond (eqb (m + 1) s.p.len) (cond (is_bare (event_at s m)) 0 8) 0
meets e (precedes m) s = adding s (marked (added (Start TOMBSTONE 0) s) m 0)
meets e (extends to m) s = marked s m 0
meets e (fails code arg) s = adding s 0
meets e (lacks k) s = adding s 0
meets e (stops why) s = stop_number why
meets e asks s = 0

-- The first number that a run meets, and the tokens consumed by then; 0 and all that it consumes where it meets none.
unfoldable pub met : {A : Type 0} → Env → Acts A → St → ℕ × ℕ
met e (done a) s = (0, s.p.pos)
met e (act o m) s = cond (eqb (meets e o s) 0) (met e (m (step e o s).0) (step e o s).1) (meets e o s, s.p.pos)

-- What the run of all that is lent meets, and the tokens consumed by then; 8 where a source file's ends with a token left.
abbrev pub reaches : Lent → ℕ × ℕ
reaches l = met (env l.kinds l.joints) (acts_of l.entry l.mode) (view new l.room)

abbrev pub reason : Lent → ℕ
reason l = cond (eqb (reaches l).0 0) (leaves l.entry (length l.kinds) (reaches l).1) (reaches l).0

-- The conditions of docs/RULES.md section 3, each at its number; number 0 is none.
abbrev pub conditions : Lent → List Bool
conditions l = false ∷ bad_mode l ∷ too_many l ∷ few_joints l ∷ not_permitted l ∷ eqb (reason l) 5 ∷ eqb (reason l) 6 ∷ eqb (reason l) 7 ∷ eqb (reason l) 8 ∷ []

abbrev pub condition : ℕ → Lent → Bool
condition n l = get_or (conditions l) n false

-- the first of a list that holds, counted from i; 0 for none
abbrev pub first : List Bool → ℕ → ℕ
first [] i = 0
first (b ∷ bs) i = cond b i (first bs (suc i))

-- The table of that section: the place of a refusal, the room that it leaves, and what a done parse says and leaves.
abbrev pub place_of : ℕ → Lent → ℕ
place_of n l = cond (ltb n 4) 0 (cond (ltb n 5) (first_fault l.kinds) (reaches l).1)

abbrev pub left_by : ℕ → Lent → List ℕ
left_by n l = cond (ltb n 5) l.room (replicate (length l.room) 0)

abbrev pub handed_out : Lent → Outcome
handed_out l = ends (says 0 (ran l).p.pos (ran l).p.len (ran l).p.looks) (words_of (events (ran l)) ++ replicate (length l.room - (ran l).p.len * event_words) 0)

abbrev pub row : ℕ → Lent → Outcome
row n l = cond (eqb n 0) (handed_out l) (ends (refuses n (place_of n l)) (left_by n l))
