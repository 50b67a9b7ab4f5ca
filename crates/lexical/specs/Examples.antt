-- Texts and their tokens, computed: kind and length of each. Assumes nothing.
use Rattle.std.specs.Prelude.{◌≡◌, refl, List, [], ◌∷◌, map, ℕ}
use Rattle.lexical.specs.Lexed.{Token, token, tokens, lexed}
use Rattle.lexical.specs.Texts.{bytes}
use Rattle.kinds.specs.Kinds.{WHITESPACE, COMMENT, PRAGMA, ANNOTATION, IDENT, HARDWAREIDENT, FLOAT-NUMBER, INT-NUMBER, BIT-STRING, STRING, ERROR, EQ, MINUS, R-ANGLE, DOT, STAR, SLASH, SEMICOLON, DOLLAR, DEFCAL-KW, UNDERSCORE}
use Rattle.lexical.specs.Rules.{rules}

-- a text and its tokens; the last is the bytes of a micro sign
rows : List (List ℕ × List Token)
rows =
    (bytes "a==b", token IDENT 1 ∷ token EQ 1 ∷ token EQ 1 ∷ token IDENT 1 ∷ []) ∷
    (bytes "a=/**/=b", token IDENT 1 ∷ token EQ 1 ∷ token COMMENT 4 ∷ token EQ 1 ∷ token IDENT 1 ∷ []) ∷
    (bytes "a-->b", token IDENT 1 ∷ token MINUS 1 ∷ token MINUS 1 ∷ token R-ANGLE 1 ∷ token IDENT 1 ∷ []) ∷
    (bytes "1...2", token FLOAT-NUMBER 2 ∷ token DOT 1 ∷ token FLOAT-NUMBER 2 ∷ []) ∷
    (bytes "1_0.5e-1_0", token FLOAT-NUMBER 10 ∷ []) ∷
    (bytes "100ns", token INT-NUMBER 3 ∷ token IDENT 2 ∷ []) ∷
    (bytes "2.5 us", token FLOAT-NUMBER 3 ∷ token WHITESPACE 1 ∷ token IDENT 2 ∷ []) ∷
    (bytes "\"0_1\"", token BIT-STRING 5 ∷ []) ∷
    (bytes "\"0__1\"", token STRING 6 ∷ []) ∷
    (bytes "\"\"", token ERROR 1 ∷ token ERROR 1 ∷ []) ∷
    (bytes "/* a */ b */", token COMMENT 7 ∷ token WHITESPACE 1 ∷ token IDENT 1 ∷ token WHITESPACE 1 ∷ token STAR 1 ∷ token SLASH 1 ∷ []) ∷
    (bytes "/*/", token SLASH 1 ∷ token STAR 1 ∷ token SLASH 1 ∷ []) ∷
    (bytes "#pragma x // y\nz", token PRAGMA 14 ∷ token WHITESPACE 1 ∷ token IDENT 1 ∷ []) ∷
    (bytes "@bind x;\nh q;", token ANNOTATION 8 ∷ token WHITESPACE 1 ∷ token IDENT 1 ∷ token WHITESPACE 1 ∷ token IDENT 1 ∷ token SEMICOLON 1 ∷ []) ∷
    (bytes "$0a", token HARDWAREIDENT 2 ∷ token IDENT 1 ∷ []) ∷
    (bytes "$q", token DOLLAR 1 ∷ token IDENT 1 ∷ []) ∷
    (bytes "defcal pragmatic _", token DEFCAL-KW 6 ∷ token WHITESPACE 1 ∷ token IDENT 9 ∷ token WHITESPACE 1 ∷ token UNDERSCORE 1 ∷ []) ∷
    (bytes "1__0", token INT-NUMBER 1 ∷ token IDENT 3 ∷ []) ∷
    (bytes "0x_f 0b12", token INT-NUMBER 1 ∷ token IDENT 3 ∷ token WHITESPACE 1 ∷ token INT-NUMBER 3 ∷ token INT-NUMBER 1 ∷ []) ∷
    (194 ∷ 181 ∷ [], token ERROR 1 ∷ token ERROR 1 ∷ []) ∷
    []

table : map (λ r. lexed rules r.0) rows ≡ map (λ r. r.1) rows
unfolding rows tokens
table = refl
