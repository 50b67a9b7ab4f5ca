-- All that the lexer says and leaves, from all that it is lent (docs/RULES.md, section 12). Assumes nothing: these are definitions.
use Rattle.std.specs.Prelude.{Bool, false, not, cond, List, [], ◌∷◌, ◌++◌, ℕ, suc, ◌+◌, ◌*◌, ◌/◌, ◌%◌, ◌^◌, ltb, leb, length, get_or, drop, set}
use Rattle.kinds.specs.Kinds.{WHITESPACE, COMMENT}
use Rattle.kinds.specs.Membership.{both, one_of}
use Rattle.lexical.specs.Lexed.{Token, nothing, token, lexed, words}
use Rattle.lexical.specs.Rules.{rules}
use Rattle.lex.specs.Answer.{Answer}

-- `is_trivia`
abbrev pub is_trivia : ℕ → Bool
is_trivia k = one_of (WHITESPACE ∷ COMMENT ∷ []) k

-- the kinds of the tokens that are no trivia
unfoldable pub kinds_in : List Token → List ℕ
kinds_in [] = []
kinds_in (nothing ∷ ts) = kinds_in ts
kinds_in (token k n ∷ ts) = cond (is_trivia k) (kinds_in ts) (k ∷ kinds_in ts)

-- whether the next byte begins a token that is no trivia
abbrev pub touched : List Token → Bool
touched [] = false
touched (nothing ∷ ts) = false
touched (token k n ∷ ts) = not (is_trivia k)

-- their joint bits
unfoldable pub joints_in : List Token → List Bool
joints_in [] = []
joints_in (nothing ∷ ts) = joints_in ts
joints_in (token k n ∷ ts) = cond (is_trivia k) (joints_in ts) (touched ts ∷ joints_in ts)

-- a word with its bit j made 0 or 1: what is above it, the bit, what is below it
abbrev pub with_bit : ℕ → ℕ → Bool → ℕ
with_bit w j b = (w / 2 ^ j / 2 * 2 + cond b 1 0) * 2 ^ j + w % 2 ^ j

-- words of 64 bits with bit i made 0 or 1, lowest first
abbrev pub put_bit : List ℕ → ℕ → Bool → List ℕ
put_bit ws i b = set ws (i / 64) (with_bit (get_or ws (i / 64) 0) (i % 64) b)

-- and with some bits from bit i on
unfoldable pub put_bits : ℕ → List Bool → List ℕ → List ℕ
put_bits i [] ws = ws
put_bits i (b ∷ bs) ws = put_bits (suc i) bs (put_bit ws i b)

-- a list at the front of a room, whose rest stays
abbrev pub at_front : List ℕ → List ℕ → List ℕ
at_front xs room = xs ++ drop (length xs) room

-- all that is lent
pub record Lent : Type 0 where
  pub text : List ℕ
  pub kinds : List ℕ
  pub joints : List ℕ
  pub tokens : List ℕ

abbrev pub lent : List ℕ → List ℕ → List ℕ → List ℕ → Lent
lent text kinds joints tokens = record { text = text; kinds = kinds; joints = joints; tokens = tokens }

-- all that is answered and left
pub record Outcome : Type 0 where
  pub answer : Answer
  pub kinds : List ℕ
  pub joints : List ℕ
  pub tokens : List ℕ

abbrev pub ends : Answer → List ℕ → List ℕ → List ℕ → Outcome
ends a kinds joints tokens = record { answer = a; kinds = kinds; joints = joints; tokens = tokens }

-- an answer's number, place and number of kinds; a refusal has no kinds
abbrev pub says : ℕ → ℕ → ℕ → Answer
says code place kinds = record { code = code; place = place; kinds = kinds }

-- at most so many bytes are read
abbrev pub most_text : ℕ
most_text = 65536

-- so many tokens, and so many of them no trivia, fit: two words for each token, a number for each kind, 64 joint bits to a word
abbrev pub fit : ℕ → ℕ → ℕ → ℕ → ℕ → Bool
fit all some kinds joints tokens = both (leb (2 * all) tokens) (both (leb some kinds) (leb ((some + 63) / 64) joints))

abbrev pub fits : List Token → Lent → Bool
fits ts l = fit (length ts) (length (kinds_in ts)) (length l.kinds) (length l.joints) (length l.tokens)

abbrev pub refuses : ℕ → ℕ → Lent → Outcome
refuses code place l = ends (says code place 0) l.kinds l.joints l.tokens

abbrev pub writes : List Token → Lent → Outcome
writes ts l = ends (says 0 (length ts) (length (kinds_in ts))) (at_front (kinds_in ts) l.kinds) (put_bits 0 (joints_in ts) l.joints) (at_front (words ts) l.tokens)

-- the tokens of a text in the rooms, or 15
abbrev pub placed : List Token → Lent → Outcome
placed ts l = cond (fits ts l) (writes ts l) (refuses 15 (length ts) l)

unfoldable pub lexing : Lent → Outcome
lexing l = cond (ltb most_text (length l.text)) (refuses 14 0 l) (placed (lexed rules l.text) l)
