-- All that a parse says and leaves, from all that it is lent (docs/RULES.md, sections 1 to 4). Assumes nothing: these are definitions.
use Rattle.std.specs.Prelude.{Bool, cond, List, [], ◌∷◌, ◌++◌, ℕ, suc, ◌+◌, ◌-◌, ◌*◌, ◌/◌, eqb, ltb, length, take, replicate}
use Rattle.kinds.specs.Membership.{one_of}
use Rattle.kinds.specs.Sets.{PERMITTED}
use Rattle.runtime.specs.State.{Parser}
use Rattle.input.specs.Input.{env, most_tokens}
use Rattle.event.specs.Event.{event_words, words_of}
use Rattle.runtime.specs.State.{St, view, new, live}
use Rattle.runtime.specs.Cover.{events}
use Rattle.runtime.specs.Acts.{Acts, run}
use Rattle.operators.specs.Operators.{table_of}
use Rattle.grammar.specs.Entry.{source_file, one_item, one_expression}
use Rattle.parse.specs.declared.Entry.{Entry}
use Rattle.parse.specs.declared.Entry.TheVariants.{SourceFile, Item, Expression}

-- all that is lent
pub record Lent : Type 0 where
  pub entry : Entry
  pub mode : ℕ
  pub kinds : List ℕ
  pub joints : List ℕ
  pub room : List ℕ

abbrev pub lent : Entry → ℕ → List ℕ → List ℕ → List ℕ → Lent
lent entry mode kinds joints room = record { entry = entry; mode = mode; kinds = kinds; joints = joints; room = room }

-- an answer's number, place, events and lookups
pub record Answer : Type 0 where
  pub code : ℕ
  pub place : ℕ
  pub events : ℕ
  pub lookups : ℕ

-- all that is answered and left
pub record Outcome : Type 0 where
  pub answer : Answer
  pub room : List ℕ

abbrev pub ends : Answer → List ℕ → Outcome
ends a ws = record { answer = a; room = ws }

abbrev pub says : ℕ → ℕ → ℕ → ℕ → Answer
says code place events lookups = record { code = code; place = place; events = events; lookups = lookups }

-- a refusal has neither events nor lookups
abbrev pub refuses : ℕ → ℕ → Answer
refuses code place = says code place 0 0

-- What is tested before the run, in this order: a mode that is neither 0 nor 1; too many tokens; too few joint words; a kind that is
-- not permitted, at the first such token.
abbrev pub bad_mode : Lent → Bool
bad_mode l = ltb 1 l.mode

abbrev pub too_many : Lent → Bool
too_many l = ltb most_tokens (length l.kinds)

abbrev pub few_joints : Lent → Bool
few_joints l = ltb (length l.joints) ((length l.kinds + 63) / 64)

unfoldable pub first_fault : List ℕ → ℕ
first_fault [] = 0
first_fault (k ∷ ks) = cond (one_of PERMITTED k) (suc (first_fault ks)) 0

abbrev pub not_permitted : Lent → Bool
not_permitted l = ltb (first_fault l.kinds) (length l.kinds)

pub record Test : Type 0 where
  pub number : ℕ
  pub holds : Lent → Bool
  pub place : Lent → ℕ

abbrev test : ℕ → (Lent → Bool) → (Lent → ℕ) → Test
test n f at = record { number = n; holds = f; place = at }

abbrev nowhere : Lent → ℕ
nowhere l = 0

abbrev pub tests : List Test
tests = test 1 bad_mode nowhere ∷ test 2 too_many nowhere ∷ test 3 few_joints nowhere ∷ test 4 not_permitted (λ (l : Lent). first_fault l.kinds) ∷ []

-- the first test that holds refuses, and leaves the room as it is
abbrev pub tested : List Test → Lent → Outcome → Outcome
tested [] l o = o
tested (t ∷ ts) l o = cond (t.holds l) (ends (refuses t.number (t.place l)) l.room) (tested ts l o)

-- The run of an entry, from no events.
abbrev pub acts_of : Entry → ℕ → Acts (Unit {0})
acts_of SourceFile mode = source_file (table_of mode)
acts_of Item mode = one_item (table_of mode)
acts_of Expression mode = one_expression (table_of mode)

abbrev pub ran : Lent → St
ran l = (run (env l.kinds l.joints) (acts_of l.entry l.mode) (view new l.room)).1

-- The number of a run of so many tokens: its refusal, else 0; a source file that ends with a token left is refused with 8.
abbrev pub leaves : Entry → ℕ → ℕ → ℕ
leaves SourceFile tokens pos = cond (ltb pos tokens) 8 0
leaves Item tokens pos = 0
leaves Expression tokens pos = 0

abbrev pub number_of : Entry → ℕ → Parser → ℕ
number_of entry tokens p = cond (live p) (leaves entry tokens p.pos) p.refused

-- words from a place on made zero
abbrev pub zeroed : ℕ → List ℕ → List ℕ
zeroed n ws = take n ws ++ replicate (length ws - n) 0

-- What a run with a number comes to in a room of so many words: done, its events' words and zeros after them; refused, zeros.
unfoldable pub settled : ℕ → ℕ → St → Outcome
settled n size s =
    cond (eqb n 0) (ends (says 0 s.p.pos s.p.len s.p.looks) (words_of (events s) ++ replicate (size - s.p.len * event_words) 0))
    (ends (refuses n s.p.pos) (replicate size 0))

unfoldable pub parsed : Lent → Outcome
parsed l = tested tests l (settled (number_of l.entry (length l.kinds) (ran l).p) (length l.room) (ran l))
