-- What a text reads as, when lexing refuses, what it leaves, and where tokens stand (docs/RULES.md), in words of their own: nothing here lexes.
use Rattle.std.specs.Prelude.{◌≡◌, false, List, [], ◌∷◌, ◌++◌, ◌⊎◌, ℕ, zero, suc, ◌+◌, ◌*◌, ◌≤◌, ◌<◌, length, get_or, take, drop}
use Rattle.kinds.specs.Kinds.{WHITESPACE, COMMENT}
use Rattle.kinds.specs.Membership.{bit}
use Rattle.lexical.specs.Lexed.{Token, nothing, token, Longest, Tiles, words}
use Rattle.lexical.specs.Rules.{rules}
use Rattle.lex.specs.Lexing.{kinds_in, joints_in, put_bits, Lent, Outcome, ends, says}

-- A text reads as some tokens: each is the longest that a rule takes, of the first such rule, and they stand one behind the other up to the end.
abbrev pub Reading : List ℕ → List Token → Type 0
Reading text ts = Tiles rules text ts

-- ---- conditions

-- a room is too small for some tokens: two words for each, a number for each kind, and 64 joint bits to a word
pub data Small (ts : List Token) (l : Lent) : Type 0 where
  few_words : length l.tokens < 2 * length ts → Small ts l
  few-kinds : length l.kinds < length (kinds_in ts) → Small ts l
  few_bits : 64 * length l.joints < length (kinds_in ts) → Small ts l

-- The conditions, each with its number and place: a text that is too long, and one that is not, for whose reading a room is too small.
pub data Refused (l : Lent) : ℕ → ℕ → Type 0 where
  long : 65536 < length l.text → Refused l 14 0
  small : length l.text ≤ 65536 → (ts : List Token) → Reading l.text ts → Small ts l → Refused l 15 (length ts)

-- What lexing says and leaves: a refusal leaves the rooms as they were; a done run writes its tokens in front, and all behind them stays.
pub data Answers (l : Lent) : Outcome → Type 0 where
  refuses : (n p : ℕ) → Refused l n p → Answers l (ends (says n p 0) l.kinds l.joints l.tokens)
  done : ((n p : ℕ) → Refused l n p → ⊥) → (ts : List Token) → Reading l.text ts
      → Answers l (ends (says 0 (length ts) (length (kinds_in ts))) (kinds_in ts ++ drop (length (kinds_in ts)) l.kinds) (put_bits 0 (joints_in ts) l.joints) (words ts ++ drop (length (words ts)) l.tokens))

-- ---- what is left

abbrev pub kind : Token → ℕ
kind nothing = 0
kind (token k n) = k

abbrev pub size : Token → ℕ
size nothing = 0
size (token k n) = n

-- The rooms behind a done run, place by place: the kinds and joint bits of the tokens that are no trivia, kind and length of each token, and all
-- behind them as it was.
pub record Left (ts : List Token) (l : Lent) (o : Outcome) : Type 0 where
  pub kinds-size : length o.kinds ≡ length l.kinds
  pub joints-size : length o.joints ≡ length l.joints
  pub tokens-size : length o.tokens ≡ length l.tokens
  pub kind-there : (i : ℕ) → i < length (kinds_in ts) → get_or o.kinds i 0 ≡ get_or (kinds_in ts) i 0
  pub kind-stays : (i : ℕ) → length (kinds_in ts) ≤ i → get_or o.kinds i 0 ≡ get_or l.kinds i 0
  pub joint-there : (i : ℕ) → i < length (kinds_in ts) → bit o.joints i ≡ get_or (joints_in ts) i false
  pub joint-stays : (i : ℕ) → length (kinds_in ts) ≤ i → bit o.joints i ≡ bit l.joints i
  pub token-kind : (i : ℕ) → i < length ts → get_or o.tokens (2 * i) 0 ≡ kind (get_or ts i nothing)
  pub token-size : (i : ℕ) → i < length ts → get_or o.tokens (2 * i + 1) 0 ≡ size (get_or ts i nothing)
  pub word-stays : (i : ℕ) → 2 * length ts ≤ i → get_or o.tokens i 0 ≡ get_or l.tokens i 0

abbrev pub Trivia : ℕ → Type 0
Trivia k = (k ≡ WHITESPACE) ⊎ (k ≡ COMMENT)

-- token j is there and is no trivia, and its number among those that are none: so many of them stand before it
pub record Other (ts : List Token) (j : ℕ) : Type 0 where
  pub there : j < length ts
  pub other : Trivia (kind (get_or ts j nothing)) → ⊥

abbrev pub number_of : List Token → ℕ → ℕ
number_of ts j = length (kinds_in (take j ts))

-- one token that is no trivia has number i, and no other has
pub record Numbered (ts : List Token) (i : ℕ) : Type 0 where
  pub place : ℕ
  pub counts : Other ts place
  pub number : number_of ts place ≡ i
  pub only : (j : ℕ) → Other ts j → number_of ts j ≡ i → j ≡ place

-- a text begins with a token that is no trivia
pub record Begins (text : List ℕ) : Type 0 where
  pub first : ℕ
  pub bytes : ℕ
  pub right : Longest rules text first bytes
  pub other : Trivia first → ⊥

-- ---- places

-- the first byte of token i: the lengths before it
unfoldable pub start_of : List Token → ℕ → ℕ
start_of [] i = 0
start_of (t ∷ ts) zero = 0
start_of (t ∷ ts) (suc i) = size t + start_of ts i

-- byte b is in token i
pub record In (ts : List Token) (i b : ℕ) : Type 0 where
  pub there : i < length ts
  pub begun : start_of ts i ≤ b
  pub unended : b < start_of ts i + size (get_or ts i nothing)

-- it is in one token and in no other
pub record Once (ts : List Token) (b : ℕ) : Type 0 where
  pub number : ℕ
  pub in-it : In ts number b
  pub only : (j : ℕ) → In ts j b → j ≡ number
