-- What a call says: the number, place and number of kinds of docs/RULES.md, section 3, for each case of its result.
use Rattle.std.specs.Prelude.{ℕ, Result, Ok, Err}
use Rattle.lex.specs.declared.Lexed.{Lexed}
use Rattle.lex.specs.declared.Refusal.{Refusal}
use Rattle.lex.specs.declared.Refusal.TheVariants.{TooLong, NoRoom}

-- what is said of a text: a number of docs/RULES.md and its place; and the kinds that are handed out
pub record Answer : Type 0 where
  pub code : ℕ
  pub place : ℕ
  pub kinds : ℕ

-- done, the place is the number of all tokens; a refusal has no kinds
abbrev pub numbers : Result Lexed Refusal → Answer
numbers (Ok l) = record { code = 0; place = l.tokens; kinds = l.kinds }
numbers (Err TooLong) = record { code = 14; place = 0; kinds = 0 }
numbers (Err (NoRoom n)) = record { code = 15; place = n; kinds = 0 }
