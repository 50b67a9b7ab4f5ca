-- What the calls say: the number, place and records of docs/RULES.md, section 3, for each outcome.
use Rattle.std.specs.Prelude.{ℕ, Result, Ok, Err}
use Rattle.stepfile.specs.declared.Counts.{Counts}
use Rattle.stepfile.specs.declared.Refusal.{Refusal}
use Rattle.stepfile.specs.declared.Refusal.TheVariants.{Cut, Unsound, Unnested}
use Rattle.stepfile.specs.declared.Fault.TheVariants as F
use Rattle.stepfile.specs.Front.{Found}

pub record Numbers : Type 0 where
  pub code : ℕ
  pub place : ℕ
  pub records : ℕ

-- a good file has a number of records, a refused one none
abbrev pub says : ℕ → ℕ → ℕ → Numbers
says c p n = record { code = c; place = p; records = n }

abbrev pub refuses : ℕ → ℕ → Numbers
refuses c p = says c p 0

abbrev pub refused : Refusal → Numbers
refused (Cut p) = refuses 11 p
refused (Unsound p) = refuses 12 p
refused (Unnested p) = refuses 13 p

abbrev pub numbers : Result Counts Refusal → Numbers
numbers (Ok n) = says 0 n.bytes n.records
numbers (Err e) = refused e

-- The one-step call says 11 and 12 at place 0, and no number at a step and at the end.
abbrev pub number_of : Found → ℕ
number_of (Ok s) = 0
number_of (Err F.Cut) = 11
number_of (Err F.Unsound) = 12
