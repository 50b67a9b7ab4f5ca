-- What a good file is and when one is refused (docs/RULES.md, sections 3 and 7), in words of their own: nothing here reads a file.
use Rattle.std.specs.Prelude.{ℕ, ◌+◌, ◌-◌, ◌≤◌, ◌<◌, ◌≡◌, cond, List, [], ◌∷◌, ◌++◌, ltb, length, get_or, take, Some, None, Ok, Err}
use Rattle.records.specs.declared.Step.{Step}
use Rattle.records.specs.declared.Step.TheVariants.{Enter, Leave, Token, Error, Expected}
use Rattle.records.specs.Record.{record_of, bytes, Sound, Sounds}
use Rattle.stepfile.specs.Front.{Found}
use Rattle.stepfile.specs.declared.Fault.TheVariants as F
use Rattle.stepfile.specs.Front.{two}
use Rattle.stepfile.specs.Answer.{Numbers, says, refuses}

-- a list of bytes, as what is lent is
abbrev pub Bytes : List ℕ → Type 0
Bytes bs = (i : ℕ) → get_or bs i 0 < 256

-- What stands at the front: nothing; fewer bytes than the four of a head and those that its length says; the record of a sound step; a whole
-- record that is none of a sound step.
pub data Stands (bs : List ℕ) : Found → Type 0 where
  nothing : bs ≡ [] → Stands bs (Ok None)
  past : 0 < length bs → length bs < 4 + two bs 0 → Stands bs (Err F.Cut)
  step : (s : Step) (more : List ℕ) → Sound s → bs ≡ record_of s ++ more → Stands bs (Ok (Some s))
  other : 0 < length bs → 4 + two bs 0 ≤ length bs → ((s : Step) (more : List ℕ) → Sound s → bs ≡ record_of s ++ more → ⊥) → Stands bs (Err F.Unsound)

-- how many nodes some steps enter, and how many they leave: the depth is what the first has above the second
unfoldable pub enters : List Step → ℕ
enters [] = 0
enters (Enter k ∷ ss) = 1 + enters ss
enters (Leave ∷ ss) = enters ss
enters (Token k n ∷ ss) = enters ss
enters (Error c x ∷ ss) = enters ss
enters (Expected k f ∷ ss) = enters ss

unfoldable pub leaves : List Step → ℕ
leaves [] = 0
leaves (Enter k ∷ ss) = leaves ss
leaves (Leave ∷ ss) = 1 + leaves ss
leaves (Token k n ∷ ss) = leaves ss
leaves (Error c x ∷ ss) = leaves ss
leaves (Expected k f ∷ ss) = leaves ss

-- after the first i steps the depth is above zero
abbrev pub Above : List Step → ℕ → Type 0
Above ss i = leaves (take i ss) < enters (take i ss)

-- A good file: the records of sound steps, one at least; the depth is zero after the last, and above zero after every earlier one.
pub record Good (bs : List ℕ) : Type 0 where
  pub steps : List Step
  pub sound : Sounds steps
  pub file : bs ≡ bytes steps
  pub some : 0 < length steps
  pub zero : enters steps ≡ leaves steps
  pub above : (i : ℕ) → 0 < i → i < length steps → Above steps i

-- A file up to place p: sound records, none of which begins at depth zero but the first, and none takes the depth below zero.
pub record Upto (bs : List ℕ) (p : ℕ) : Type 0 where
  pub steps : List Step
  pub rest : List ℕ
  pub sound : Sounds steps
  pub file : bs ≡ bytes steps ++ rest
  pub place : p ≡ length (bytes steps)
  pub begins : (i : ℕ) → 0 < i → i < length steps → Above steps i
  pub never : (i : ℕ) → i ≤ length steps → leaves (take i steps) ≤ enters (take i steps)

-- 11: a record runs past the end: fewer bytes are left than the four of its head and those that its length says
pub record Cut (bs : List ℕ) (p : ℕ) : Type 0 where
  pub upto : Upto bs p
  pub some : 0 < length upto.rest
  pub past : length upto.rest < 4 + two upto.rest 0

-- 12: a whole record, which is no enter of 2 bytes, no leave of none, no token of 3 with a raw count of 1 to 3, no error of 4 and none of 6
-- with code 1
pub record Unsound (bs : List ℕ) (p : ℕ) : Type 0 where
  pub upto : Upto bs p
  pub some : 0 < length upto.rest
  pub whole : 4 + two upto.rest 0 ≤ length upto.rest
  pub no-enter : two upto.rest 2 ≡ 1 → two upto.rest 0 ≡ 2 → ⊥
  pub no-leave : two upto.rest 2 ≡ 2 → two upto.rest 0 ≡ 0 → ⊥
  pub no-token : two upto.rest 2 ≡ 3 → two upto.rest 0 ≡ 3 → 0 < get_or upto.rest 6 0 → get_or upto.rest 6 0 ≤ 3 → ⊥
  pub no-error : two upto.rest 2 ≡ 4 → two upto.rest 0 ≡ 4 → ⊥
  pub no-expected : two upto.rest 2 ≡ 5 → two upto.rest 0 ≡ 6 → two upto.rest 4 ≡ 1 → ⊥

-- 13: a sound record that is not the first begins at depth zero, or takes the depth below zero; or the file ends without a record, or at a
-- depth above zero
pub data Breaks (ss : List Step) (rest : List ℕ) : Type 0 where
  again : (s : Step) (more : List ℕ) → Sound s → rest ≡ record_of s ++ more → 0 < length ss → enters ss ≡ leaves ss → Breaks ss rest
  below : (s : Step) (more : List ℕ) → Sound s → rest ≡ record_of s ++ more → enters (ss ++ s ∷ []) < leaves (ss ++ s ∷ []) → Breaks ss rest
  none : ss ≡ [] → rest ≡ [] → Breaks ss rest
  inside : rest ≡ [] → leaves ss < enters ss → Breaks ss rest

pub record Unnested (bs : List ℕ) (p : ℕ) : Type 0 where
  pub upto : Upto bs p
  pub breaks : Breaks upto.steps upto.rest

-- The one answer to a file: it is good, or it is refused for what holds of it.
pub data Verdict (bs : List ℕ) : Numbers → Type 0 where
  good : (g : Good bs) → Verdict bs (says 0 (length bs) (length g.steps))
  cut : (p : ℕ) → Cut bs p → Verdict bs (refuses 11 p)
  unsound : (p : ℕ) → Unsound bs p → Verdict bs (refuses 12 p)
  unnested : (p : ℕ) → Unnested bs p → Verdict bs (refuses 13 p)

-- where the record begins that holds byte n of a file of steps: n itself, where a record begins there
unfoldable pub holds : List Step → ℕ → ℕ
holds [] n = 0
holds (s ∷ ss) n = cond (ltb n (length (record_of s))) 0 (length (record_of s) + holds ss (n - length (record_of s)))
