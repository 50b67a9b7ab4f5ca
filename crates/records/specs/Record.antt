-- Records of a step file (docs/RULES.md, section 7; the steps are those of output.rs).
use Rattle.std.specs.Prelude.{ℕ, ◌+◌, ◌/◌, ◌%◌, ◌≤◌, ◌<◌, ◌≡◌, List, [], ◌∷◌, ◌++◌, length, take, drop}
use Rattle.records.specs.declared.Step.{Step}
use Rattle.records.specs.declared.Step.TheVariants.{Enter, Leave, Token, Error, Expected}

-- a number in two bytes, little-endian
abbrev pub le16 : ℕ → List ℕ
le16 n = n % 256 ∷ (n / 256 ∷ [])

-- payload length, record kind, payload
abbrev pub framed : ℕ → List ℕ → List ℕ
framed kind payload = le16 (length payload) ++ le16 kind ++ payload

abbrev pub record_of : Step → List ℕ
record_of (Enter k) = framed 1 (le16 k)
record_of Leave = framed 2 []
record_of (Token k n) = framed 3 (le16 k ++ (n ∷ []))
record_of (Error c x) = framed 4 (le16 c ++ le16 x)
record_of (Expected k f) = framed 5 (le16 1 ++ le16 k ++ le16 f)

-- no record has more bytes than these
abbrev pub step_bytes : ℕ
step_bytes = 10

unfoldable pub bytes : List Step → List ℕ
bytes [] = []
bytes (s ∷ ss) = record_of s ++ bytes ss

-- a step whose numbers are those that a record can hold: 16 bits for a kind, a code and an argument, 1 to 3 for a raw count
abbrev pub Sound : Step → Type 0
Sound (Enter k) = k < 65536
Sound Leave = Unit {0}
Sound (Token k n) = (k < 65536) × (0 < n) × (n ≤ 3)
Sound (Error c x) = (c < 65536) × (x < 65536)
Sound (Expected k f) = (k < 65536) × (f < 65536)

abbrev pub Sounds : List Step → Type 0
Sounds [] = Unit {0}
Sounds (s ∷ ss) = Sound s × Sounds ss

-- a list with vs written over what stands from place i on
abbrev pub over : List ℕ → ℕ → List ℕ → List ℕ
over l i vs = take i l ++ vs ++ drop (i + length vs) l

-- what a writer leaves of room l that wrote vs at place i: the place past it, and the room
pub record Wrote (l : List ℕ) (i : ℕ) (vs : List ℕ) (past : ℕ) (room : List ℕ) : Type 0 where
  pub place : past ≡ i + length vs
  pub bytes : room ≡ over l i vs
