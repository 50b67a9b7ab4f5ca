-- What an exported call of the reader returns and leaves, from what the call behind it says.
use Rattle.std.specs.Prelude.{ℕ, cond, List, [], ◌∷◌, ◌++◌, ltb, length, drop, Some, None, Ok, Err}
use Rattle.records.specs.declared.Step.{Step}
use Rattle.records.specs.declared.Step.TheVariants.{Enter, Leave, Token, Error, Expected}
use Rattle.stepfile.specs.Front.{Found}
use Rattle.stepfile.specs.Front.{front, taken}
use Rattle.stepfile.specs.Answer.{number_of}
use Rattle.stepfile.specs.File.{file_read}

-- the number returned, and the answer room
pub record Call : Type 0 where
  pub code : ℕ
  pub answer : List ℕ

abbrev pub returns : ℕ → List ℕ → Call
returns n room = record { code = n; answer = room }

-- A number with the words of the answer, in a room that has as many: else 100, and nothing happens.
unfoldable pub told : List ℕ → ℕ → List ℕ → Call
told room n ws = cond (ltb (length room) (length ws)) (returns 100 room) (returns n (ws ++ drop (length ws) room))

-- the whole file: place and records
abbrev pub reads_file : List ℕ → List ℕ → Call
reads_file bs room = told room (file_read bs).code ((file_read bs).place ∷ (file_read bs).records ∷ [])

-- record kind and payload's numbers (docs/RULES.md, section 7), 0 for those that a record lacks; at no step all are 0
abbrev pub fields_of : Step → List ℕ
fields_of (Enter k) = 1 ∷ k ∷ 0 ∷ 0 ∷ []
fields_of Leave = 2 ∷ 0 ∷ 0 ∷ 0 ∷ []
fields_of (Token k n) = 3 ∷ k ∷ n ∷ 0 ∷ []
fields_of (Error c x) = 4 ∷ c ∷ x ∷ 0 ∷ []
fields_of (Expected k f) = 5 ∷ 1 ∷ k ∷ f ∷ []

abbrev pub fields : Found → List ℕ
fields (Ok (Some s)) = fields_of s
fields (Ok None) = 0 ∷ 0 ∷ 0 ∷ 0 ∷ []
fields (Err f) = 0 ∷ 0 ∷ 0 ∷ 0 ∷ []

-- One step: where the rest begins, and the fields. The last word is for records with more numbers: there are none.
abbrev pub six : Found → List ℕ
six f = taken f ∷ (fields f ++ (0 ∷ []))

abbrev pub reads_step : List ℕ → List ℕ → Call
reads_step bs room = told room (number_of (front bs)) (six (front bs))
