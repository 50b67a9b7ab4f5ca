-- Where the bytes of a text stand, and where its tokens begin (docs/RULES.md, section 10). Assumes nothing: these are definitions.
use Rattle.std.specs.Prelude.{ℕ, zero, suc, ◌+◌, ◌*◌, ◌-◌, ◌/◌, ◌≤◌, ◌<◌, min, ◌≡◌, Bool, cond, true, false, not, List, ◌⊎◌, eqb, length, get_or}
use Rattle.kinds.specs.Kinds.{WHITESPACE, COMMENT}
use Rattle.position.specs.declared.Position.{Position}

-- Whether a line ends with byte i of a text: with LF, and with CR where no LF follows it.
unfoldable pub ends : List ℕ → ℕ → Bool
ends t i = cond (eqb (get_or t i 0) 10) true (cond (eqb (get_or t i 0) 13) (not (eqb (get_or t (i + 1) 0) 10)) false)

-- the lines that end before byte n
unfoldable pub ended : List ℕ → ℕ → ℕ
ended t zero = 0
ended t (suc n) = cond (ends t n) (ended t n + 1) (ended t n)

-- the first byte of the line of byte n: the one behind the last end of a line before n
unfoldable pub began : List ℕ → ℕ → ℕ
began t zero = 0
began t (suc n) = cond (ends t n) (suc n) (began t n)

-- The line and the column of byte n; of the end of the text where n is its length.
abbrev pub position : List ℕ → ℕ → Position
position t n = record { line = ended t n + 1; column = n - began t n + 1 }

-- A list of tokens has two words for each, trivia too: its kind and its bytes.
abbrev pub count : List ℕ → ℕ
count ws = length ws / 2

abbrev pub kind_of : List ℕ → ℕ → ℕ
kind_of ws i = get_or ws (2 * i) 0

abbrev pub size_of : List ℕ → ℕ → ℕ
size_of ws i = get_or ws (2 * i + 1) 0

unfoldable pub is_trivia : ℕ → Bool
is_trivia kind = cond (eqb kind WHITESPACE) true (eqb kind COMMENT)

-- the bytes of the first i tokens, and how many of them are no trivia
unfoldable pub offset : List ℕ → ℕ → ℕ
offset ws zero = 0
offset ws (suc i) = offset ws i + size_of ws i

unfoldable pub passed : List ℕ → ℕ → ℕ
passed ws zero = 0
passed ws (suc i) = cond (is_trivia (kind_of ws i)) (passed ws i) (passed ws i + 1)

-- the first byte of token i; no list leads past the end of the text
abbrev pub byte_of : List ℕ → List ℕ → ℕ → ℕ
byte_of t ws i = min (offset ws i) (length t)

-- The token with place p: the first that is no trivia and has so many before it that are none; where there is none, the end of the list.
unfoldable pub is_at : List ℕ → ℕ → ℕ → Bool
is_at ws p i = cond (is_trivia (kind_of ws i)) false (eqb (passed ws i) p)

-- from token i on, in so many rounds
unfoldable pub seek : List ℕ → ℕ → ℕ → ℕ → ℕ
seek ws p zero i = i
seek ws p (suc n) i = cond (is_at ws p i) i (seek ws p n (suc i))

abbrev pub token_of : List ℕ → ℕ → ℕ
token_of ws p = seek ws p (count ws) 0

-- The line and the column of the token with place p; of the end of the text where there is none, if the list is that of the whole text.
abbrev pub position_of : List ℕ → List ℕ → ℕ → Position
position_of t ws p = position t (byte_of t ws (token_of ws p))

-- The same without a search: token i has place p, or no token has it and i is the end of the list. Only one i is so (proofs/Theorems).
abbrev pub At : List ℕ → ℕ → ℕ → Type 0
At ws p i = ((i < count ws) × (is_trivia (kind_of ws i) ≡ false) × (passed ws i ≡ p)) ⊎ ((i ≡ count ws) × (passed ws i ≤ p))
