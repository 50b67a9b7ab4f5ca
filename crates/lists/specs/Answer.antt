-- What a call says: the number and place of docs/RULES.md, section 3, for each outcome.
use Rattle.std.specs.Prelude.{ℕ, Result, Ok, Err}
use Rattle.lists.specs.declared.Refusal.{Refusal}
use Rattle.lists.specs.declared.Refusal.TheVariants.{TooLong, Faulty, NoRoom}

pub record Numbers : Type 0 where
  pub code : ℕ
  pub place : ℕ

abbrev pub says : ℕ → ℕ → Numbers
says n p = record { code = n; place = p }

abbrev pub refused : Refusal → Numbers
refused TooLong = says 2 0
refused (Faulty i) = says 9 i
refused (NoRoom n) = says 10 n

abbrev pub numbers : Result ℕ Refusal → Numbers
numbers (Ok n) = says 0 n
numbers (Err e) = refused e
