-- All that lexing and parsing together say and leave, from all that they are lent; the parse of a text alone; and what is promised of it. Assumes
-- nothing: these are definitions.
use Rattle.std.specs.Prelude.{◌≡◌, Bool, cond, List, [], ◌∷◌, ◌++◌, ℕ, zero, suc, ◌+◌, ◌/◌, ◌≤◌, ◌<◌, eqb, length, get_or, take, replicate}
use Rattle.std.proofs.Math.Option.{Option, none, some}
use Rattle.kinds.specs.Kinds.{SOURCE-FILE}
use Rattle.input.specs.declared.Parts.{Parts}
use Rattle.input.specs.declared.Parts.TheVariants.{One, Two, Three}
use Rattle.input.specs.Input.{env}
use Rattle.input.specs.Glue.{parts_of}
use Rattle.records.specs.declared.Step.{Step}
use Rattle.records.specs.declared.Step.TheVariants.{Enter as enter, Leave as leave, Token as taken, Error as failed, Expected as wanted}
use Rattle.lexical.specs.Lexed.{Token, nothing, lexed}
use Rattle.lexical.specs.Rules.{rules}
use Rattle.lex.specs.Lexing.{kinds_in, joints_in, put_bits, lexing}
use Rattle.lex.specs.Lexing as X
use Rattle.readings.specs.Readings.{Reading, size, start_of, Once}
use Rattle.parse.specs.declared.Entry.{Entry}
use Rattle.parse.specs.Parse.{parsed}
use Rattle.parse.specs.Parse as P
use Rattle.answers.specs.Handed.{steps_in}
use Rattle.promises.specs.Promised.{raw_of, CoverSteps, Rooted}

-- all that is lent: what is to be parsed and how, the lexer's three rooms, and the room for events
pub record Lent : Type 0 where
  pub entry : Entry
  pub mode : ℕ
  pub text : List ℕ
  pub kinds : List ℕ
  pub joints : List ℕ
  pub tokens : List ℕ
  pub room : List ℕ

abbrev pub lent : Entry → ℕ → List ℕ → List ℕ → List ℕ → List ℕ → List ℕ → Lent
lent entry mode text kinds joints tokens room = record { entry = entry; mode = mode; text = text; kinds = kinds; joints = joints; tokens = tokens; room = room }

-- what the lexer is lent of it, and what it says and leaves
abbrev pub lex_lent : Lent → X.Lent
lex_lent l = X.lent l.text l.kinds l.joints l.tokens

abbrev pub read : Lent → X.Outcome
read l = lexing (lex_lent l)

-- the parse of what the lexer left: so many kinds as it says, and its joint words
abbrev pub parse_lent : Lent → X.Outcome → P.Lent
parse_lent l o = P.lent l.entry l.mode (take o.answer.kinds o.kinds) o.joints l.room

abbrev pub read_parsed : Lent → P.Outcome
read_parsed l = parsed (parse_lent l (read l))

-- all that is answered and left: where the lexer refuses there is no parse
pub record Outcome : Type 0 where
  pub lex : X.Outcome
  pub parse : Option P.Outcome

abbrev pub ends : X.Outcome → Option P.Outcome → Outcome
ends lex parse = record { lex = lex; parse = parse }

unfoldable pub from_text : Lent → Outcome
from_text l = ends (read l) (cond (eqb (read l).answer.code 0) (some (read_parsed l)) none)

-- ---- the parse of a text alone

-- the kinds of a text's tokens that are no trivia, and words of their joint bits
abbrev pub kinds_of : List ℕ → List ℕ
kinds_of text = kinds_in (lexed rules text)

abbrev pub joint_words : List Bool → List ℕ
joint_words bits = put_bits 0 bits (replicate ((length bits + 63) / 64) 0)

abbrev pub joints_of : List ℕ → List ℕ
joints_of text = joint_words (joints_in (lexed rules text))

abbrev pub text_lent : Entry → ℕ → List ℕ → List ℕ → P.Lent
text_lent entry mode text room = P.lent entry mode (kinds_of text) (joints_of text) room

abbrev pub parsed_text : Entry → ℕ → List ℕ → List ℕ → P.Outcome
parsed_text entry mode text room = parsed (text_lent entry mode text room)

-- ---- what the steps of a parse stand for

-- so many tokens stand before step i
unfoldable pub raw_to : List Step → ℕ → ℕ
raw_to [] i = 0
raw_to (s ∷ ss) zero = 0
raw_to (s ∷ ss) (suc i) = raw_of s + raw_to ss i

-- step i is a token step, and token t is one of those that it stands for
pub record InStep (ss : List Step) (i t : ℕ) : Type 0 where
  pub kind : ℕ
  pub raw : ℕ
  pub is : get_or ss i leave ≡ taken kind raw
  pub begun : raw_to ss i ≤ t
  pub unended : t < raw_to ss i + raw

-- it is in one step and in no other
pub record StepOnce (ss : List Step) (t : ℕ) : Type 0 where
  pub number : ℕ
  pub in-it : InStep ss number t
  pub only : (j : ℕ) → InStep ss j t → j ≡ number

-- the kinds of the tokens that a step stands for: its own, or those that it is glued of
abbrev pub part_kinds : Parts → List ℕ
part_kinds (One a) = a ∷ []
part_kinds (Two a b) = a ∷ b ∷ []
part_kinds (Three a b c) = a ∷ b ∷ c ∷ []

abbrev pub step_kinds : Step → List ℕ
step_kinds (enter k) = []
step_kinds leave = []
step_kinds (taken k n) = cond (eqb n 1) (k ∷ []) (part_kinds (parts_of k))
step_kinds (failed c a) = []
step_kinds (wanted k f) = []

unfoldable pub steps_kinds : List Step → List ℕ
steps_kinds [] = []
steps_kinds (s ∷ ss) = step_kinds s ++ steps_kinds ss

-- ---- what is promised of a text and a done parse of it, where the text reads as some tokens

-- The tokens tile the text: each is the right one, none is empty, their lengths add up, and each byte is in exactly one.
pub record TextTiled (text : List ℕ) (ts : List Token) : Type 0 where
  pub tiles : Reading text ts
  pub some : (i : ℕ) → i < length ts → 1 ≤ size (get_or ts i nothing)
  pub lengths : start_of ts (length ts) ≡ length text
  pub bytes : (b : ℕ) → b < length text → Once ts b

-- The parse consumed the tokens that are no trivia; each is in exactly one token step; left to right the steps cover them, each with its kind or its
-- glue; and the kinds that the steps stand for are theirs, in their order. The steps are one tree, whose root is SOURCE_FILE.
pub record TextCovered (ts : List Token) (o : P.Outcome) : Type 0 where
  pub consumed : o.answer.place ≡ length (kinds_in ts)
  pub once : (t : ℕ) → t < length (kinds_in ts) → StepOnce (steps_in o) t
  pub covers : CoverSteps (env (kinds_in ts) (joint_words (joints_in ts))) 0 (steps_in o) (length (kinds_in ts))
  pub kinds : steps_kinds (steps_in o) ≡ kinds_in ts
  pub rooted : Rooted SOURCE-FILE (steps_in o)
