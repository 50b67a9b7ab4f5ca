-- What an exported call returns and leaves, from what the call behind it says.
use Rattle.std.specs.Prelude.{ℕ, zero, suc, cond, List, [], eqb, ltb, length, set}
use Rattle.lists.specs.Check.{checked}
use Rattle.events.specs.Resolve.{Outcome, ends, panics, resolved}
use Rattle.parse.specs.Parse.{Answer}
use Rattle.parse.specs.declared.Entry.TheVariants.{SourceFile, Item, Expression}
use Rattle.parse.specs.Parse as P
use Rattle.lex.specs.Answer as L
use Rattle.lex.specs.Lexing.{lent, lexing}
use Rattle.lex.specs.Lexing as X

-- the number returned, the words, the step room and the answer room
pub data Call : Type 0 where
  returns : ℕ → List ℕ → List ℕ → List ℕ → Call
  crashes : Call

-- an end returns its number, with its place in the first word of the answer room
abbrev pub told : List ℕ → Outcome → Call
told room (ends a ws out) = returns a.code ws out (set room 0 a.place)
told room panics = crashes

-- an answer room of no word is told by 100, and nothing happens
unfoldable pub with_room : List ℕ → List ℕ → List ℕ → Outcome → Call
with_room room ws out o = cond (eqb (length room) 0) (returns 100 ws out room) (told room o)

-- the check has no step room
abbrev pub checks : List ℕ → List ℕ → Call
checks ws room = with_room room ws [] (ends (checked ws) ws [])

abbrev pub resolves : List ℕ → List ℕ → List ℕ → Call
resolves ws out room = with_room room ws out (resolved ws out)

-- A parse: place, events and lookups in the first three words.
abbrev pub three : Answer → List ℕ → List ℕ
three a room = set (set (set room 0 a.place) 1 a.events) 2 a.lookups

unfoldable pub told_parse : List ℕ → P.Outcome → Call
told_parse room o = returns o.answer.code o.room [] (three o.answer room)

-- entry 0 is the source file, 1 an item, 2 an expression; another one is told by 101
abbrev pub entered : ℕ → ℕ → List ℕ → List ℕ → List ℕ → P.Outcome
entered zero mode kinds joints ws = P.parsed (P.lent SourceFile mode kinds joints ws)
entered (suc zero) mode kinds joints ws = P.parsed (P.lent Item mode kinds joints ws)
entered (suc (suc zero)) mode kinds joints ws = P.parsed (P.lent Expression mode kinds joints ws)
entered (suc (suc (suc n))) mode kinds joints ws = P.ends (P.refuses 101 0) ws

unfoldable pub parses : ℕ → ℕ → List ℕ → List ℕ → List ℕ → List ℕ → Call
parses entry mode kinds joints ws room = cond (ltb (length room) 3) (returns 100 ws [] room) (told_parse room (entered entry mode kinds joints ws))

-- A lexing: the number returned, the three rooms and the answer room, with place and kinds in its first two words.
pub record LexCall : Type 0 where
  pub number : ℕ
  pub kinds : List ℕ
  pub joints : List ℕ
  pub tokens : List ℕ
  pub answer : List ℕ

abbrev pub lex_returns : ℕ → List ℕ → List ℕ → List ℕ → List ℕ → LexCall
lex_returns n kinds joints tokens answer = record { number = n; kinds = kinds; joints = joints; tokens = tokens; answer = answer }

abbrev pub two : L.Answer → List ℕ → List ℕ
two a room = set (set room 0 a.place) 1 a.kinds

abbrev pub told_lex : List ℕ → X.Outcome → LexCall
told_lex room o = lex_returns o.answer.code o.kinds o.joints o.tokens (two o.answer room)

unfoldable pub lexes : List ℕ → List ℕ → List ℕ → List ℕ → List ℕ → LexCall
lexes text kinds joints tokens room = cond (ltb (length room) 2) (lex_returns 100 kinds joints tokens room) (told_lex room (lexing (lent text kinds joints tokens)))
