-- Expressions as they are written: bytes by their characters. Assumes nothing: these are definitions.
use Rattle.std.specs.Prelude.{List, [], ◌∷◌, ℕ}
use Prim.Native.Char.{Char, code}
use Prim.Native.String as S
use Rattle.lexical.specs.Regular.{of, but, Re, empty, one, seq, alt, star}

infixr 40 ◌▸◌
infixr 30 ◌or◌
abbrev pub ◌▸◌ : Re → Re → Re
r ▸ s = seq r s

abbrev pub ◌or◌ : Re → Re → Re
r or s = alt r s

abbrev pub opt : Re → Re
opt r = r or empty

abbrev pub plus : Re → Re
plus r = r ▸ star r

-- the bytes of a text of ASCII characters
abbrev pub bytes : S.String → List ℕ
bytes S.[] = []
bytes (S.◌∷◌ c s) = code c ∷ bytes s

-- a range of bytes
abbrev pub from : Char → Char → List (ℕ × ℕ)
from a b = (code a, code b) ∷ []

abbrev pub singles : List ℕ → List (ℕ × ℕ)
singles [] = []
singles (b ∷ bs) = (b, b) ∷ singles bs

abbrev pub or-of : S.String → List (ℕ × ℕ)
or-of s = singles (bytes s)

-- one byte, of the text's or none of the text's
abbrev pub any_of : S.String → Re
any_of s = one (of (or-of s))

abbrev pub none_of : S.String → Re
none_of s = one (but (or-of s))

abbrev pub in_a_row : List ℕ → Re
in_a_row [] = empty
in_a_row (b ∷ []) = one (of ((b, b) ∷ []))
in_a_row (b ∷ c ∷ bs) = one (of ((b, b) ∷ [])) ▸ in_a_row (c ∷ bs)

-- just this text
abbrev pub text : S.String → Re
text s = in_a_row (bytes s)
