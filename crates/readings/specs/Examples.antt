-- Texts with the kinds and joint bits of their tokens, and whole calls, computed. Assumes nothing.
use Rattle.std.specs.Prelude.{◌≡◌, refl, Bool, true, false, List, [], ◌∷◌, ◌++◌, map, ℕ, zero, suc, length, replicate}
use Rattle.kinds.specs.Kinds.{PRAGMA, ANNOTATION, IDENT, HARDWAREIDENT, FLOAT-NUMBER, INT-NUMBER, BIT-STRING, STRING, ERROR, EQ, MINUS, R-ANGLE, DOT, STAR, SLASH, SEMICOLON, DOLLAR, WHITESPACE, COMMENT}
use Rattle.kinds.specs.Membership.{one_of}
use Rattle.lexical.specs.Texts.{bytes}
use Rattle.lexical.specs.Lexed.{tokens, lexed, words}
use Rattle.lexical.specs.Rules.{rules}
use Rattle.lex.specs.Lexing.{kinds_in, joints_in, put_bits, Lent, lent, Outcome, ends, says, refuses, lexing}

-- ---- kinds and joint bits

-- a kind that is joint, and one that is not
abbrev ~ : ℕ → ℕ × Bool
~ k = (k, true)

abbrev alone : ℕ → ℕ × Bool
alone k = (k, false)

-- a text, the number of all its tokens, and the kinds of those that are no trivia
record Row : Type 0 where
  text : List ℕ
  all : ℕ
  kinds : List (ℕ × Bool)

abbrev row : List ℕ → ℕ → List (ℕ × Bool) → Row
row t n ks = record { text = t; all = n; kinds = ks }

abbrev pairs : List ℕ → List Bool → List (ℕ × Bool)
pairs [] bs = []
pairs (k ∷ ks) [] = []
pairs (k ∷ ks) (b ∷ bs) = (k, b) ∷ pairs ks bs

abbrev got : Row → Row
got r = row r.text (length (lexed rules r.text)) (pairs (kinds_in (lexed rules r.text)) (joints_in (lexed rules r.text)))

rows : List Row
rows =
    row [] 0 []
    ∷ row (bytes "a==b") 4 (~ IDENT ∷ ~ EQ ∷ ~ EQ ∷ alone IDENT ∷ [])
    ∷ row (bytes "a=/**/=b") 5 (~ IDENT ∷ alone EQ ∷ ~ EQ ∷ alone IDENT ∷ [])
    ∷ row (bytes "a-->b") 5 (~ IDENT ∷ ~ MINUS ∷ ~ MINUS ∷ ~ R-ANGLE ∷ alone IDENT ∷ [])
    ∷ row (bytes "1...2") 3 (~ FLOAT-NUMBER ∷ ~ DOT ∷ alone FLOAT-NUMBER ∷ [])
    ∷ row (bytes "1_0.5e-1_0") 1 (alone FLOAT-NUMBER ∷ [])
    ∷ row (bytes "100ns") 2 (~ INT-NUMBER ∷ alone IDENT ∷ [])
    ∷ row (bytes "2.5 us") 3 (alone FLOAT-NUMBER ∷ alone IDENT ∷ [])
    ∷ row (bytes "\"0_1\"") 1 (alone BIT-STRING ∷ [])
    ∷ row (bytes "\"0__1\"") 1 (alone STRING ∷ [])
    ∷ row (bytes "\"\"") 2 (~ ERROR ∷ alone ERROR ∷ [])
    ∷ row (bytes "/* a */ b */") 6 (alone IDENT ∷ ~ STAR ∷ alone SLASH ∷ [])
    ∷ row (bytes "/*/") 3 (~ SLASH ∷ ~ STAR ∷ alone SLASH ∷ [])
    ∷ row (bytes "#pragma x // y\nz") 3 (alone PRAGMA ∷ alone IDENT ∷ [])
    ∷ row (bytes "@bind x;\nh q;") 6 (alone ANNOTATION ∷ alone IDENT ∷ ~ IDENT ∷ alone SEMICOLON ∷ [])
    ∷ row (bytes "$0a") 2 (~ HARDWAREIDENT ∷ alone IDENT ∷ [])
    ∷ row (bytes "$q") 2 (~ DOLLAR ∷ alone IDENT ∷ [])
    -- `µ`
    ∷ row (194 ∷ 181 ∷ []) 2 (~ ERROR ∷ alone ERROR ∷ [])
    -- trivia alone, and a token behind white space
    ∷ row (bytes " \n// a") 2 []
    ∷ row (bytes "\t;") 2 (alone SEMICOLON ∷ [])
    ∷ []

table : map got rows ≡ rows
unfolding rows tokens kinds_in joints_in one_of
table = refl

-- ---- whole calls

-- what is lent, and what is answered and left
record Call : Type 0 where
  given : Lent
  back : Outcome

abbrev call : Lent → Outcome → Call
call l o = record { given = l; back = o }

abbrev made : Call → Call
made c = call c.given (lexing c.given)

-- rooms with something in them: a number in all places, a word of 64 ones
abbrev rooms : List ℕ → ℕ → ℕ → ℕ → Lent
rooms t kinds joints tokens = lent t (replicate kinds 7) (replicate joints 18446744073709551615) (replicate tokens 9)

-- some numbers, again and again
abbrev times : ℕ → List ℕ → List ℕ
times zero xs = []
times (suc n) xs = xs ++ times n xs

-- `a == b;`: seven tokens, of which five are no trivia
text : List ℕ
text = bytes "a == b;"

calls : List Call
calls =
    -- no text in no room
    call (rooms [] 0 0 0) (ends (says 0 0 0) [] [] [])
    -- rooms that just hold it: bits 0, 2 and 4 are 0, and the further bits of the joint word stay
    ∷ call (rooms text 5 1 14)
    (ends (says 0 7 5) (IDENT ∷ EQ ∷ EQ ∷ IDENT ∷ SEMICOLON ∷ []) (18446744073709551594 ∷ [])
    (IDENT ∷ 1 ∷ WHITESPACE ∷ 1 ∷ EQ ∷ 1 ∷ EQ ∷ 1 ∷ WHITESPACE ∷ 1 ∷ IDENT ∷ 1 ∷ SEMICOLON ∷ 1 ∷ []))
    -- larger ones: all behind it stays
    ∷ call (rooms text 6 2 15)
    (ends (says 0 7 5) (IDENT ∷ EQ ∷ EQ ∷ IDENT ∷ SEMICOLON ∷ 7 ∷ []) (18446744073709551594 ∷ 18446744073709551615 ∷ [])
    (IDENT ∷ 1 ∷ WHITESPACE ∷ 1 ∷ EQ ∷ 1 ∷ EQ ∷ 1 ∷ WHITESPACE ∷ 1 ∷ IDENT ∷ 1 ∷ SEMICOLON ∷ 1 ∷ 9 ∷ []))
    -- each room one short
    ∷ call (rooms text 4 1 14) (refuses 15 7 (rooms text 4 1 14))
    ∷ call (rooms text 5 0 14) (refuses 15 7 (rooms text 5 0 14))
    ∷ call (rooms text 5 1 13) (refuses 15 7 (rooms text 5 1 13))
    -- a comment alone needs two words and nothing else
    ∷ call (rooms (bytes "//") 0 0 2) (ends (says 0 1 0) [] [] (COMMENT ∷ 2 ∷ []))
    -- 65 tokens need two joint words: the last one's bit is the first of the second word
    ∷ call (rooms (replicate 65 59) 65 2 130)
    (ends (says 0 65 65) (replicate 65 SEMICOLON) (18446744073709551615 ∷ 18446744073709551614 ∷ []) (times 65 (SEMICOLON ∷ 1 ∷ [])))
    ∷ call (rooms (replicate 65 59) 65 1 130) (refuses 15 65 (rooms (replicate 65 59) 65 1 130))
    ∷ []

called : map made calls ≡ calls
unfolding calls text lexing tokens kinds_in joints_in put_bits words one_of
called = refl

-- 65,537 bytes are too many
too_long : (lexing (rooms (replicate 65537 59) 1 1 2)).answer ≡ says 14 0 0
unfolding lexing
too_long = refl
