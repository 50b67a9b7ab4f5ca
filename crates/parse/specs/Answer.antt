-- The number, place and counts of docs/RULES.md, section 3, for what a parse says. Assumes nothing: these are definitions.
use Rattle.std.specs.Prelude.{◌≡◌, ℕ, Result, Ok, Err}
use Rattle.runtime.specs.State.{Parser}
use Rattle.parse.specs.declared.Entry.{Entry}
use Rattle.parse.specs.declared.Parsed.{Parsed}
use Rattle.parse.specs.declared.Refusal.{Refusal}
use Rattle.parse.specs.declared.Refusal.TheVariants.{Mode, TooMany, FewJoints, Kind, NoRoom, Deep, Lookups, Panic}
use Rattle.parse.specs.Parse.{Answer, says, refuses, number_of}

-- each refusal's: it has neither events nor lookups
abbrev pub refused : Refusal → Answer
refused Mode = refuses 1 0
refused TooMany = refuses 2 0
refused FewJoints = refuses 3 0
refused (Kind at) = refuses 4 at
refused (NoRoom at) = refuses 5 at
refused (Deep at) = refuses 6 at
refused (Lookups at) = refuses 7 at
refused (Panic at) = refuses 8 at

-- what a parse says, as an answer
abbrev pub numbers : Result Parsed Refusal → Answer
numbers (Ok p) = says 0 p.tokens p.events p.lookups
numbers (Err r) = refused r

-- a run of an entry over so many tokens, which has a number, is refused so
pub record Faults (entry : Entry) (tokens : ℕ) (p : Parser) (r : Refusal) : Type 0 where
  pub number : number_of entry tokens p ≡ 0 → ⊥
  pub same : refused r ≡ refuses (number_of entry tokens p) p.pos
