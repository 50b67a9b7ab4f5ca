-- When the check and the resolution refuse, with which number and place, and what a resolution leaves (docs/RULES.md, section 3), in words
-- of their own.
use Rattle.std.specs.Prelude.{ℕ, ◌+◌, ◌*◌, ◌/◌, ◌%◌, ◌<◌, ◌≡◌, Bool, false, not, List, eqb, length, replicate}
use Rattle.event.specs.declared.Event.{Event}
use Rattle.event.specs.declared.Event.TheVariants.{Start, Finish, Token, Error, NoEvent}
use Rattle.event.specs.Event.{event_words, most_events, events_of, words_of, tombstone, is_token}
use Rattle.records.specs.Record.{over}
use Rattle.lists.specs.Answer.{Numbers, says}
use Rattle.turns.specs.Process.{process, file}
use Rattle.events.specs.Resolve.{Outcome, ends}
use Rattle.listed.specs.WellFormed.{is_node, is_finish, count, Fault}

-- an error of code 1, which has what was found, and one of another code
abbrev pub is_expected : Event → Bool
is_expected (Start k d) = false
is_expected Finish = false
is_expected (Token k n) = false
is_expected (Error c x f) = eqb c 1
is_expected (NoEvent a b) = false

abbrev pub is_error : Event → Bool
is_error (Start k d) = false
is_error Finish = false
is_error (Token k n) = false
is_error (Error c x f) = not (eqb c 1)
is_error (NoEvent a b) = false

-- The bytes that a list's steps take: an enter has 6, a leave 4, a token 7, an error 8 and, with what was found, 10.
abbrev pub needed : List Event → ℕ
needed es = 6 * count is_node es + 4 * count is_finish es + 7 * count is_token es + 8 * count is_error es + 10 * count is_expected es

-- The conditions of the check, each with its number and place: too many events, an odd number of words, a list that is not well formed.
pub data Faulty (ws : List ℕ) : ℕ → ℕ → Type 0 where
  long : most_events < length ws / event_words → Faulty ws 2 0
  odd : (length ws % event_words ≡ 0 → ⊥) → Faulty ws 9 (length ws / event_words)
  fault : length ws % event_words ≡ 0 → (i : ℕ) → Fault (events_of ws) i → Faulty ws 9 i

-- The resolution has these and one more: a step room that is too small.
pub data Refused (ws out : List ℕ) : ℕ → ℕ → Type 0 where
  list : (n p : ℕ) → Faulty ws n p → Refused ws out n p
  small : length out < needed (events_of ws) → Refused ws out 10 (needed (events_of ws))

-- a condition that holds, and none of a number before its own does
pub record First (C : ℕ → ℕ → Type 0) (n p : ℕ) : Type 0 where
  pub holds : C n p
  pub before : (m q : ℕ) → m < n → C m q → ⊥

-- What the check says: done where no condition holds, else the first that holds.
pub data Checks (ws : List ℕ) : Numbers → Type 0 where
  passes : ((n p : ℕ) → Faulty ws n p → ⊥) → Checks ws (says 0 (length ws / event_words))
  fails : (n p : ℕ) → First (Faulty ws) n p → Checks ws (says n p)

-- What a resolution says and leaves: bare tombstones and the step file; or all that is lent as it was.
pub data Resolves (ws out : List ℕ) : Outcome → Type 0 where
  done : ((n p : ℕ) → Refused ws out n p → ⊥)
      → Resolves ws out (ends (says 0 (needed (events_of ws))) (words_of (replicate (length (events_of ws)) tombstone)) (over out 0 (file (process (events_of ws)).steps)))
  refuses : (n p : ℕ) → First (Refused ws out) n p → Resolves ws out (ends (says n p) ws out)
