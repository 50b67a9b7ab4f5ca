-- What the contracts of the code inside cite: two words that say an event, and a wide write.
use Rattle.std.specs.Prelude.{ℕ, ◌+◌, ◌*◌, ◌/◌, ◌%◌, ◌≡◌, List, [], ◌∷◌, ◌++◌, length, take, drop, Option, Some, None}
use Rattle.event.specs.declared.Event.TheVariants.{NoEvent}
use Rattle.records.specs.declared.Step.{Step}
use Rattle.event.specs.Event.{decode}

-- one step, or none
abbrev pub listed : Option Step → List Step
listed (Some s) = s ∷ []
listed None = []

-- two words that say an event
abbrev pub Say : ℕ → ℕ → Type 0
Say a b = decode a b ≡ NoEvent a b → ⊥

-- the first four bytes of a record as a number (docs/RULES.md, section 7): payload length and record kind
abbrev head : ℕ → ℕ → ℕ
head size kind = size + 65536 * kind

-- by the tag of an event: an enter, a leave, a token
abbrev pub heads : List ℕ
heads = 0 ∷ head 2 1 ∷ head 0 2 ∷ head 3 3 ∷ []

-- a number in eight bytes
abbrev pub le64 : ℕ → List ℕ
le64 n =
    n % 256 ∷ n / 256 % 256 ∷ n / 65536 % 256 ∷ n / 16777216 % 256
    ∷ n / 4294967296 % 256 ∷ n / 1099511627776 % 256 ∷ n / 281474976710656 % 256 ∷ n / 72057594037927936 % 256 ∷ []

-- What a writer leaves of room l that wrote vs at place i and maybe more behind it, but nothing from place e on.
pub record Laid (l : List ℕ) (i : ℕ) (vs : List ℕ) (e past : ℕ) (room : List ℕ) : Type 0 where
  pub place : past ≡ i + length vs
  pub front : take past room ≡ take i l ++ vs
  pub back : drop e room ≡ drop e l
