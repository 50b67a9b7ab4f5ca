-- What is promised of the steps of a parse: that they cover tokens, and that they are one tree. Assumes nothing: these are definitions.
use Rattle.std.specs.Prelude.{◌≡◌, true, List, [], ◌∷◌, ℕ, ◌+◌}
use Rattle.input.specs.Input.{Env, kind}
use Rattle.runtime.specs.Cover.{Stands}
use Rattle.records.specs.declared.Step.{Step}
use Rattle.records.specs.declared.Step.TheVariants.{Enter as enter, Leave as leave, Token as token, Error as error, Expected as expected}
use Rattle.stepfile.specs.Nesting.{nests}

-- A token step says what stands at i: its raw count of tokens, of its kind or glued to it with the joint bits that this needs. A step that
-- says what was found says the kind of the token at i, and no other error has code 1. Steps cover the tokens from i up to j when their
-- token steps, left to right, are about all of them, none left out and none twice.
abbrev pub SaysAt : Env → ℕ → Step → Type 0
SaysAt e i (enter k) = Unit {0}
SaysAt e i leave = Unit {0}
SaysAt e i (token k n) = Stands e i k n
SaysAt e i (error c a) = c ≡ 1 → ⊥
SaysAt e i (expected k f) = f ≡ kind e.kinds i

abbrev pub raw_of : Step → ℕ
raw_of (enter k) = 0
raw_of leave = 0
raw_of (token k n) = n
raw_of (error c a) = 0
raw_of (expected k f) = 0

abbrev pub CoverSteps : Env → ℕ → List Step → ℕ → Type 0
CoverSteps e i [] j = i ≡ j
CoverSteps e i (s ∷ ss) j = SaysAt e i s × CoverSteps e (i + raw_of s) ss j

-- the raw counts, added up
unfoldable pub raw_sum : List Step → ℕ
raw_sum [] = 0
raw_sum (s ∷ ss) = raw_of s + raw_sum ss

-- One tree whose root is a node of a kind: behind its enter, the steps leave the last node that is open with the last step, and not before.
pub record Rooted (k : ℕ) (ss : List Step) : Type 0 where
  pub rest : List Step
  pub first : ss ≡ enter k ∷ rest
  pub whole : nests 1 1 rest ≡ true
