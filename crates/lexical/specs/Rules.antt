-- The lexical rules, in their order (docs/LEXER.md has the same list in words, with the source of each). Assumes nothing: these are definitions.
use Rattle.std.specs.Prelude.{List, [], ◌∷◌, ◌++◌, ℕ}
use Rattle.kinds.specs.Kinds.{WHITESPACE, COMMENT, PRAGMA, ANNOTATION, UNDERSCORE, IDENT, HARDWAREIDENT, FLOAT-NUMBER, INT-NUMBER, BIT-STRING, STRING, ERROR}
use Rattle.lexical.specs.Regular.{of, but, Re, one, star}
use Rattle.lexical.specs.Texts.{◌▸◌, ◌or◌, opt, plus, text, any_of, none_of, from, or-of}
use Rattle.lexical.specs.Lexed.{Rule}
use Rattle.lexical.specs.Words.{keywords, types, marks}

-- ---- parts

abbrev pub digit : Re
digit = one (of (from "0" "9"))

abbrev pub letters : List (ℕ × ℕ)
letters = from "A" "Z" ++ from "a" "z" ++ from "_" "_"

abbrev pub letter : Re
letter = one (of letters)

abbrev pub letter-or-digit : Re
letter-or-digit = one (of (letters ++ from "0" "9"))

-- a byte of the line
abbrev pub in-line : Re
in-line = none_of "\r\n"

-- digits with single underscores between them
abbrev pub spaced : Re → Re
spaced d = d ▸ star (opt (text "_") ▸ d)

abbrev pub D : Re
D = spaced digit

-- an exponent
abbrev pub X : Re
X = any_of "eE" ▸ opt (any_of "+-") ▸ D

abbrev pub quoted : Re → Re → Re
quoted q r = q ▸ plus r ▸ q

abbrev pub hex : Re
hex = one (of (from "0" "9" ++ from "a" "f" ++ from "A" "F"))

-- ---- the rules

-- 1 to 6: trivia, and what goes on to the end of the line
abbrev pub lines : List Rule
lines =
    (WHITESPACE, plus (any_of " \t\r\n"))
    ∷ (COMMENT, text "//" ▸ star in-line)
    ∷ (COMMENT, text "/*" ▸ star (none_of "*" or plus (text "*") ▸ none_of "*/") ▸ plus (text "*") ▸ text "/")
    ∷ (PRAGMA, text "#pragma" ▸ star in-line)
    ∷ (PRAGMA, text "pragma" ▸ opt (one (but (letters ++ from "0" "9" ++ or-of "\r\n")) ▸ star in-line))
    ∷ (ANNOTATION, text "@" ▸ letter ▸ star in-line)
    ∷ []

-- 7: a word is a keyword, a type or `_`, else an identifier
abbrev pub words : List Rule
words = keywords ++ types ++ (UNDERSCORE, text "_") ∷ (IDENT, letter ▸ star letter-or-digit) ∷ []

-- 8 to 12: hardware qubits, numbers, strings
abbrev pub literals : List Rule
literals =
    (HARDWAREIDENT, text "$" ▸ plus digit)
    ∷ (FLOAT-NUMBER, D ▸ text "." ▸ opt D ▸ opt X or text "." ▸ D ▸ opt X or D ▸ X)
    ∷ (INT-NUMBER, text "0" ▸ any_of "bB" ▸ spaced (any_of "01") or text "0o" ▸ spaced (one (of (from "0" "7"))) or text "0" ▸ any_of "xX" ▸ spaced hex or D)
    ∷ (BIT-STRING, text "\"" ▸ spaced (any_of "01") ▸ text "\"")
    ∷ (STRING, quoted (text "\"") (none_of "\"\r\n\t") or quoted (text "'") (none_of "'\r\n\t"))
    ∷ []

-- 13: the marks
abbrev pub known : List Rule
known = lines ++ words ++ literals ++ marks

-- 14: and any one byte
abbrev pub rules : List Rule
rules = known ++ (ERROR, one (but [])) ∷ []
