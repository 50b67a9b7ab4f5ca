-- What is left of the rules in each state. Written by tools/states; ./check compares the two. Assumes nothing: these are definitions.
use mathlib.Core.List.{List, [], ◌∷◌}
use Rattle.kinds.specs.Kinds.{SEMICOLON, COMMA, L-PAREN, R-PAREN, L-CURLY, R-CURLY, L-BRACK, R-BRACK, L-ANGLE, R-ANGLE, AT, POUND, TILDE, QUESTION, DOLLAR, AMP, PIPE, PLUS, STAR, SLASH, CARET, PERCENT, UNDERSCORE, DOT, COLON, EQ, BANG, MINUS, O-P-E-N-Q-A-S-M-KW, INCLUDE-KW, PRAGMA-KW, DEF-KW, DEFCALGRAMMAR-KW, CAL-KW, DEFCAL-KW, GATE-KW, DELAY-KW, RESET-KW, MEASURE-KW, LET-KW, BOX-KW, EXTERN-KW, CONST-KW, BARRIER-KW, GPHASE-KW, IF-KW, ELSE-KW, FOR-KW, IN-KW, WHILE-KW, CONTINUE-KW, RETURN-KW, BREAK-KW, END-KW, SWITCH-KW, CASE-KW, DEFAULT-KW, INPUT-KW, OUTPUT-KW, READONLY-KW, MUTABLE-KW, QREG-KW, CREG-KW, QUBIT-KW, VOID-KW, ARRAY-KW, CTRL-KW, NEGCTRL-KW, INV-KW, POW-KW, FALSE-KW, TRUE-KW, INT-NUMBER, FLOAT-NUMBER, STRING, BIT-STRING, FLOAT-TY, INT-TY, UINT-TY, COMPLEX-TY, BOOL-TY, BIT-TY, DURATION-TY, STRETCH-TY, ANGLE-TY, ERROR, IDENT, HARDWAREIDENT, WHITESPACE, COMMENT, PRAGMA, ANNOTATION}
use Rattle.lexical.specs.Regular.{of, but, empty, one, star}
use Rattle.lexical.specs.Lexed.{Rule}
use Rattle.lexical.specs.Texts.{◌▸◌, ◌or◌, text}
use Rattle.lexical.specs.Rules.{digit, letter, letter-or-digit, in-line, D, X, rules}

-- the first has no rule left, the second is the start
unfoldable pub states : List (List Rule)
states =
    ([]) ∷
    (rules) ∷
    ((STRING, star (one (but ((34, 34) ∷ (13, 13) ∷ (10, 10) ∷ (9, 9) ∷ []))) ▸ text "\"") ∷ []) ∷
    ((BIT-STRING, star ((text "_" or empty) ▸ one (of ((48, 48) ∷ (49, 49) ∷ []))) ▸ text "\"") ∷ (STRING, star (one (but ((34, 34) ∷ (13, 13) ∷ (10, 10) ∷ (9, 9) ∷ []))) ▸ text "\"") ∷ []) ∷
    ((PRAGMA, text "ragma" ▸ star in-line) ∷ []) ∷
    ((STRING, star (one (but ((39, 39) ∷ (13, 13) ∷ (10, 10) ∷ (9, 9) ∷ []))) ▸ text "'") ∷ []) ∷
    ((COMMENT, star (one (but ((42, 42) ∷ [])) or (text "*" ▸ star (text "*")) ▸ one (but ((42, 42) ∷ (47, 47) ∷ []))) ▸ (text "*" ▸ star (text "*")) ▸ text "/") ∷ []) ∷
    ((INT-NUMBER, one (of ((48, 48) ∷ (49, 49) ∷ [])) ▸ star ((text "_" or empty) ▸ one (of ((48, 48) ∷ (49, 49) ∷ [])))) ∷ []) ∷
    ((FLOAT-NUMBER, (one (of ((43, 43) ∷ (45, 45) ∷ [])) or empty) ▸ D) ∷ []) ∷
    ((INT-NUMBER, one (of ((48, 57) ∷ (97, 102) ∷ (65, 70) ∷ [])) ▸ star ((text "_" or empty) ▸ one (of ((48, 57) ∷ (97, 102) ∷ (65, 70) ∷ [])))) ∷ []) ∷
    ((FLOAT-NUMBER, D ▸ text "." ▸ (D or empty) ▸ (X or empty) or D ▸ X) ∷ (INT-NUMBER, D) ∷ []) ∷
    ((INT-NUMBER, one (of ((48, 55) ∷ [])) ▸ star ((text "_" or empty) ▸ one (of ((48, 55) ∷ [])))) ∷ []) ∷
    ((BIT-STRING, (one (of ((48, 48) ∷ (49, 49) ∷ [])) ▸ star ((text "_" or empty) ▸ one (of ((48, 48) ∷ (49, 49) ∷ [])))) ▸ text "\"") ∷ (STRING, star (one (but ((34, 34) ∷ (13, 13) ∷ (10, 10) ∷ (9, 9) ∷ []))) ▸ text "\"") ∷ []) ∷
    ((PRAGMA, text "agma" ▸ star in-line) ∷ []) ∷
    ((FLOAT-NUMBER, D ▸ (X or empty)) ∷ []) ∷
    ((COMMENT, ((star (text "*") ▸ one (but ((42, 42) ∷ (47, 47) ∷ []))) ▸ star (one (but ((42, 42) ∷ [])) or (text "*" ▸ star (text "*")) ▸ one (but ((42, 42) ∷ (47, 47) ∷ [])))) ▸ (text "*" ▸ star (text "*")) ▸ text "/" or star (text "*") ▸ text "/") ∷ []) ∷
    ((FLOAT-NUMBER, D) ∷ []) ∷
    ((PRAGMA, text "gma" ▸ star in-line) ∷ []) ∷
    ((PRAGMA, text "ma" ▸ star in-line) ∷ []) ∷
    ((PRAGMA, text "a" ▸ star in-line) ∷ []) ∷
    ((WHITESPACE, star (one (of ((32, 32) ∷ (9, 9) ∷ (13, 13) ∷ (10, 10) ∷ [])))) ∷ (ERROR, empty) ∷ []) ∷
    ((BIT-STRING, (one (of ((48, 48) ∷ (49, 49) ∷ [])) ▸ star ((text "_" or empty) ▸ one (of ((48, 48) ∷ (49, 49) ∷ [])))) ▸ text "\"") ∷ (STRING, (one (but ((34, 34) ∷ (13, 13) ∷ (10, 10) ∷ (9, 9) ∷ [])) ▸ star (one (but ((34, 34) ∷ (13, 13) ∷ (10, 10) ∷ (9, 9) ∷ [])))) ▸ text "\"") ∷ (ERROR, empty) ∷ []) ∷
    ((PRAGMA, text "pragma" ▸ star in-line) ∷ (POUND, empty) ∷ (ERROR, empty) ∷ []) ∷
    ((HARDWAREIDENT, digit ▸ star digit) ∷ (DOLLAR, empty) ∷ (ERROR, empty) ∷ []) ∷
    ((STRING, (one (but ((39, 39) ∷ (13, 13) ∷ (10, 10) ∷ (9, 9) ∷ [])) ▸ star (one (but ((39, 39) ∷ (13, 13) ∷ (10, 10) ∷ (9, 9) ∷ [])))) ▸ text "'") ∷ (ERROR, empty) ∷ []) ∷
    ((FLOAT-NUMBER, D ▸ (X or empty)) ∷ (DOT, empty) ∷ (ERROR, empty) ∷ []) ∷
    ((COMMENT, text "/" ▸ star in-line) ∷ (COMMENT, text "*" ▸ star (one (but ((42, 42) ∷ [])) or (text "*" ▸ star (text "*")) ▸ one (but ((42, 42) ∷ (47, 47) ∷ []))) ▸ (text "*" ▸ star (text "*")) ▸ text "/") ∷ (SLASH, empty) ∷ (ERROR, empty) ∷ []) ∷
    ((FLOAT-NUMBER, star ((text "_" or empty) ▸ digit) ▸ text "." ▸ (D or empty) ▸ (X or empty) or star ((text "_" or empty) ▸ digit) ▸ X) ∷ (INT-NUMBER, one (of ((98, 98) ∷ (66, 66) ∷ [])) ▸ one (of ((48, 48) ∷ (49, 49) ∷ [])) ▸ star ((text "_" or empty) ▸ one (of ((48, 48) ∷ (49, 49) ∷ []))) or text "o" ▸ one (of ((48, 55) ∷ [])) ▸ star ((text "_" or empty) ▸ one (of ((48, 55) ∷ []))) or one (of ((120, 120) ∷ (88, 88) ∷ [])) ▸ one (of ((48, 57) ∷ (97, 102) ∷ (65, 70) ∷ [])) ▸ star ((text "_" or empty) ▸ one (of ((48, 57) ∷ (97, 102) ∷ (65, 70) ∷ []))) or star ((text "_" or empty) ▸ digit)) ∷ (ERROR, empty) ∷ []) ∷
    ((FLOAT-NUMBER, star ((text "_" or empty) ▸ digit) ▸ text "." ▸ (D or empty) ▸ (X or empty) or star ((text "_" or empty) ▸ digit) ▸ X) ∷ (INT-NUMBER, star ((text "_" or empty) ▸ digit)) ∷ (ERROR, empty) ∷ []) ∷
    ((ANNOTATION, letter ▸ star in-line) ∷ (AT, empty) ∷ (ERROR, empty) ∷ []) ∷
    ((IDENT, star letter-or-digit) ∷ (ERROR, empty) ∷ []) ∷
    ((O-P-E-N-Q-A-S-M-KW, text "PENQASM") ∷ (IDENT, star letter-or-digit) ∷ (ERROR, empty) ∷ []) ∷
    ((UNDERSCORE, empty) ∷ (IDENT, star letter-or-digit) ∷ (UNDERSCORE, empty) ∷ (ERROR, empty) ∷ []) ∷
    ((ARRAY-KW, text "rray") ∷ (ANGLE-TY, text "ngle") ∷ (IDENT, star letter-or-digit) ∷ (ERROR, empty) ∷ []) ∷
    ((BOX-KW, text "ox") ∷ (BARRIER-KW, text "arrier") ∷ (BREAK-KW, text "reak") ∷ (BOOL-TY, text "ool") ∷ (BIT-TY, text "it") ∷ (IDENT, star letter-or-digit) ∷ (ERROR, empty) ∷ []) ∷
    ((CAL-KW, text "al") ∷ (CONST-KW, text "onst") ∷ (CONTINUE-KW, text "ontinue") ∷ (CASE-KW, text "ase") ∷ (CREG-KW, text "reg") ∷ (CTRL-KW, text "trl") ∷ (COMPLEX-TY, text "omplex") ∷ (IDENT, star letter-or-digit) ∷ (ERROR, empty) ∷ []) ∷
    ((DEF-KW, text "ef") ∷ (DEFCALGRAMMAR-KW, text "efcalgrammar") ∷ (DEFCAL-KW, text "efcal") ∷ (DELAY-KW, text "elay") ∷ (DEFAULT-KW, text "efault") ∷ (DURATION-TY, text "uration") ∷ (IDENT, star letter-or-digit) ∷ (ERROR, empty) ∷ []) ∷
    ((EXTERN-KW, text "xtern") ∷ (ELSE-KW, text "lse") ∷ (END-KW, text "nd") ∷ (IDENT, star letter-or-digit) ∷ (ERROR, empty) ∷ []) ∷
    ((FOR-KW, text "or") ∷ (FALSE-KW, text "alse") ∷ (FLOAT-TY, text "loat") ∷ (IDENT, star letter-or-digit) ∷ (ERROR, empty) ∷ []) ∷
    ((GATE-KW, text "ate") ∷ (GPHASE-KW, text "phase") ∷ (IDENT, star letter-or-digit) ∷ (ERROR, empty) ∷ []) ∷
    ((INCLUDE-KW, text "nclude") ∷ (IF-KW, text "f") ∷ (IN-KW, text "n") ∷ (INPUT-KW, text "nput") ∷ (INV-KW, text "nv") ∷ (INT-TY, text "nt") ∷ (IDENT, star letter-or-digit) ∷ (ERROR, empty) ∷ []) ∷
    ((LET-KW, text "et") ∷ (IDENT, star letter-or-digit) ∷ (ERROR, empty) ∷ []) ∷
    ((MEASURE-KW, text "easure") ∷ (MUTABLE-KW, text "utable") ∷ (IDENT, star letter-or-digit) ∷ (ERROR, empty) ∷ []) ∷
    ((NEGCTRL-KW, text "egctrl") ∷ (IDENT, star letter-or-digit) ∷ (ERROR, empty) ∷ []) ∷
    ((OUTPUT-KW, text "utput") ∷ (IDENT, star letter-or-digit) ∷ (ERROR, empty) ∷ []) ∷
    ((PRAGMA, text "ragma" ▸ (one (but ((65, 90) ∷ (97, 122) ∷ (95, 95) ∷ (48, 57) ∷ (13, 13) ∷ (10, 10) ∷ [])) ▸ star in-line or empty)) ∷ (PRAGMA-KW, text "ragma") ∷ (POW-KW, text "ow") ∷ (IDENT, star letter-or-digit) ∷ (ERROR, empty) ∷ []) ∷
    ((QREG-KW, text "reg") ∷ (QUBIT-KW, text "ubit") ∷ (IDENT, star letter-or-digit) ∷ (ERROR, empty) ∷ []) ∷
    ((RESET-KW, text "eset") ∷ (RETURN-KW, text "eturn") ∷ (READONLY-KW, text "eadonly") ∷ (IDENT, star letter-or-digit) ∷ (ERROR, empty) ∷ []) ∷
    ((SWITCH-KW, text "witch") ∷ (STRETCH-TY, text "tretch") ∷ (IDENT, star letter-or-digit) ∷ (ERROR, empty) ∷ []) ∷
    ((TRUE-KW, text "rue") ∷ (IDENT, star letter-or-digit) ∷ (ERROR, empty) ∷ []) ∷
    ((UINT-TY, text "int") ∷ (IDENT, star letter-or-digit) ∷ (ERROR, empty) ∷ []) ∷
    ((VOID-KW, text "oid") ∷ (IDENT, star letter-or-digit) ∷ (ERROR, empty) ∷ []) ∷
    ((WHILE-KW, text "hile") ∷ (IDENT, star letter-or-digit) ∷ (ERROR, empty) ∷ []) ∷
    ((WHITESPACE, star (one (of ((32, 32) ∷ (9, 9) ∷ (13, 13) ∷ (10, 10) ∷ [])))) ∷ []) ∷
    ((HARDWAREIDENT, star digit) ∷ []) ∷
    ((FLOAT-NUMBER, star ((text "_" or empty) ▸ digit) ▸ (X or empty)) ∷ []) ∷
    ((COMMENT, star in-line) ∷ []) ∷
    ((FLOAT-NUMBER, (D or empty) ▸ (X or empty)) ∷ []) ∷
    ((FLOAT-NUMBER, star ((text "_" or empty) ▸ digit) ▸ text "." ▸ (D or empty) ▸ (X or empty) or star ((text "_" or empty) ▸ digit) ▸ X) ∷ (INT-NUMBER, star ((text "_" or empty) ▸ digit)) ∷ []) ∷
    ((ANNOTATION, star in-line) ∷ []) ∷
    ((IDENT, star letter-or-digit) ∷ []) ∷
    ((O-P-E-N-Q-A-S-M-KW, text "ENQASM") ∷ (IDENT, star letter-or-digit) ∷ []) ∷
    ((ANGLE-TY, text "gle") ∷ (IDENT, star letter-or-digit) ∷ []) ∷
    ((ARRAY-KW, text "ray") ∷ (IDENT, star letter-or-digit) ∷ []) ∷
    ((BARRIER-KW, text "rrier") ∷ (IDENT, star letter-or-digit) ∷ []) ∷
    ((BIT-TY, text "t") ∷ (IDENT, star letter-or-digit) ∷ []) ∷
    ((BOX-KW, text "x") ∷ (BOOL-TY, text "ol") ∷ (IDENT, star letter-or-digit) ∷ []) ∷
    ((BREAK-KW, text "eak") ∷ (IDENT, star letter-or-digit) ∷ []) ∷
    ((CAL-KW, text "l") ∷ (CASE-KW, text "se") ∷ (IDENT, star letter-or-digit) ∷ []) ∷
    ((CONST-KW, text "nst") ∷ (CONTINUE-KW, text "ntinue") ∷ (COMPLEX-TY, text "mplex") ∷ (IDENT, star letter-or-digit) ∷ []) ∷
    ((CREG-KW, text "eg") ∷ (IDENT, star letter-or-digit) ∷ []) ∷
    ((CTRL-KW, text "rl") ∷ (IDENT, star letter-or-digit) ∷ []) ∷
    ((DEF-KW, text "f") ∷ (DEFCALGRAMMAR-KW, text "fcalgrammar") ∷ (DEFCAL-KW, text "fcal") ∷ (DELAY-KW, text "lay") ∷ (DEFAULT-KW, text "fault") ∷ (IDENT, star letter-or-digit) ∷ []) ∷
    ((DURATION-TY, text "ration") ∷ (IDENT, star letter-or-digit) ∷ []) ∷
    ((ELSE-KW, text "se") ∷ (IDENT, star letter-or-digit) ∷ []) ∷
    ((END-KW, text "d") ∷ (IDENT, star letter-or-digit) ∷ []) ∷
    ((EXTERN-KW, text "tern") ∷ (IDENT, star letter-or-digit) ∷ []) ∷
    ((FALSE-KW, text "lse") ∷ (IDENT, star letter-or-digit) ∷ []) ∷
    ((FLOAT-TY, text "oat") ∷ (IDENT, star letter-or-digit) ∷ []) ∷
    ((FOR-KW, text "r") ∷ (IDENT, star letter-or-digit) ∷ []) ∷
    ((GATE-KW, text "te") ∷ (IDENT, star letter-or-digit) ∷ []) ∷
    ((GPHASE-KW, text "hase") ∷ (IDENT, star letter-or-digit) ∷ []) ∷
    ((IF-KW, empty) ∷ (IDENT, star letter-or-digit) ∷ []) ∷
    ((INCLUDE-KW, text "clude") ∷ (IN-KW, empty) ∷ (INPUT-KW, text "put") ∷ (INV-KW, text "v") ∷ (INT-TY, text "t") ∷ (IDENT, star letter-or-digit) ∷ []) ∷
    ((LET-KW, text "t") ∷ (IDENT, star letter-or-digit) ∷ []) ∷
    ((MEASURE-KW, text "asure") ∷ (IDENT, star letter-or-digit) ∷ []) ∷
    ((MUTABLE-KW, text "table") ∷ (IDENT, star letter-or-digit) ∷ []) ∷
    ((NEGCTRL-KW, text "gctrl") ∷ (IDENT, star letter-or-digit) ∷ []) ∷
    ((OUTPUT-KW, text "tput") ∷ (IDENT, star letter-or-digit) ∷ []) ∷
    ((POW-KW, text "w") ∷ (IDENT, star letter-or-digit) ∷ []) ∷
    ((PRAGMA, text "agma" ▸ (one (but ((65, 90) ∷ (97, 122) ∷ (95, 95) ∷ (48, 57) ∷ (13, 13) ∷ (10, 10) ∷ [])) ▸ star in-line or empty)) ∷ (PRAGMA-KW, text "agma") ∷ (IDENT, star letter-or-digit) ∷ []) ∷
    ((QREG-KW, text "eg") ∷ (IDENT, star letter-or-digit) ∷ []) ∷
    ((QUBIT-KW, text "bit") ∷ (IDENT, star letter-or-digit) ∷ []) ∷
    ((RESET-KW, text "set") ∷ (RETURN-KW, text "turn") ∷ (READONLY-KW, text "adonly") ∷ (IDENT, star letter-or-digit) ∷ []) ∷
    ((STRETCH-TY, text "retch") ∷ (IDENT, star letter-or-digit) ∷ []) ∷
    ((SWITCH-KW, text "itch") ∷ (IDENT, star letter-or-digit) ∷ []) ∷
    ((TRUE-KW, text "ue") ∷ (IDENT, star letter-or-digit) ∷ []) ∷
    ((UINT-TY, text "nt") ∷ (IDENT, star letter-or-digit) ∷ []) ∷
    ((VOID-KW, text "id") ∷ (IDENT, star letter-or-digit) ∷ []) ∷
    ((WHILE-KW, text "ile") ∷ (IDENT, star letter-or-digit) ∷ []) ∷
    ((INT-NUMBER, star ((text "_" or empty) ▸ one (of ((48, 48) ∷ (49, 49) ∷ [])))) ∷ []) ∷
    ((FLOAT-NUMBER, star ((text "_" or empty) ▸ digit)) ∷ []) ∷
    ((INT-NUMBER, star ((text "_" or empty) ▸ one (of ((48, 57) ∷ (97, 102) ∷ (65, 70) ∷ [])))) ∷ []) ∷
    ((INT-NUMBER, star ((text "_" or empty) ▸ one (of ((48, 55) ∷ [])))) ∷ []) ∷
    ((O-P-E-N-Q-A-S-M-KW, text "NQASM") ∷ (IDENT, star letter-or-digit) ∷ []) ∷
    ((ANGLE-TY, text "le") ∷ (IDENT, star letter-or-digit) ∷ []) ∷
    ((ARRAY-KW, text "ay") ∷ (IDENT, star letter-or-digit) ∷ []) ∷
    ((BARRIER-KW, text "rier") ∷ (IDENT, star letter-or-digit) ∷ []) ∷
    ((BIT-TY, empty) ∷ (IDENT, star letter-or-digit) ∷ []) ∷
    ((BOOL-TY, text "l") ∷ (IDENT, star letter-or-digit) ∷ []) ∷
    ((BOX-KW, empty) ∷ (IDENT, star letter-or-digit) ∷ []) ∷
    ((BREAK-KW, text "ak") ∷ (IDENT, star letter-or-digit) ∷ []) ∷
    ((CAL-KW, empty) ∷ (IDENT, star letter-or-digit) ∷ []) ∷
    ((CASE-KW, text "e") ∷ (IDENT, star letter-or-digit) ∷ []) ∷
    ((COMPLEX-TY, text "plex") ∷ (IDENT, star letter-or-digit) ∷ []) ∷
    ((CONST-KW, text "st") ∷ (CONTINUE-KW, text "tinue") ∷ (IDENT, star letter-or-digit) ∷ []) ∷
    ((CREG-KW, text "g") ∷ (IDENT, star letter-or-digit) ∷ []) ∷
    ((CTRL-KW, text "l") ∷ (IDENT, star letter-or-digit) ∷ []) ∷
    ((DEF-KW, empty) ∷ (DEFCALGRAMMAR-KW, text "calgrammar") ∷ (DEFCAL-KW, text "cal") ∷ (DEFAULT-KW, text "ault") ∷ (IDENT, star letter-or-digit) ∷ []) ∷
    ((DELAY-KW, text "ay") ∷ (IDENT, star letter-or-digit) ∷ []) ∷
    ((DURATION-TY, text "ation") ∷ (IDENT, star letter-or-digit) ∷ []) ∷
    ((ELSE-KW, text "e") ∷ (IDENT, star letter-or-digit) ∷ []) ∷
    ((END-KW, empty) ∷ (IDENT, star letter-or-digit) ∷ []) ∷
    ((EXTERN-KW, text "ern") ∷ (IDENT, star letter-or-digit) ∷ []) ∷
    ((FALSE-KW, text "se") ∷ (IDENT, star letter-or-digit) ∷ []) ∷
    ((FLOAT-TY, text "at") ∷ (IDENT, star letter-or-digit) ∷ []) ∷
    ((FOR-KW, empty) ∷ (IDENT, star letter-or-digit) ∷ []) ∷
    ((GATE-KW, text "e") ∷ (IDENT, star letter-or-digit) ∷ []) ∷
    ((GPHASE-KW, text "ase") ∷ (IDENT, star letter-or-digit) ∷ []) ∷
    ((INCLUDE-KW, text "lude") ∷ (IDENT, star letter-or-digit) ∷ []) ∷
    ((INPUT-KW, text "ut") ∷ (IDENT, star letter-or-digit) ∷ []) ∷
    ((INT-TY, empty) ∷ (IDENT, star letter-or-digit) ∷ []) ∷
    ((INV-KW, empty) ∷ (IDENT, star letter-or-digit) ∷ []) ∷
    ((LET-KW, empty) ∷ (IDENT, star letter-or-digit) ∷ []) ∷
    ((MEASURE-KW, text "sure") ∷ (IDENT, star letter-or-digit) ∷ []) ∷
    ((MUTABLE-KW, text "able") ∷ (IDENT, star letter-or-digit) ∷ []) ∷
    ((NEGCTRL-KW, text "ctrl") ∷ (IDENT, star letter-or-digit) ∷ []) ∷
    ((OUTPUT-KW, text "put") ∷ (IDENT, star letter-or-digit) ∷ []) ∷
    ((POW-KW, empty) ∷ (IDENT, star letter-or-digit) ∷ []) ∷
    ((PRAGMA, text "gma" ▸ (one (but ((65, 90) ∷ (97, 122) ∷ (95, 95) ∷ (48, 57) ∷ (13, 13) ∷ (10, 10) ∷ [])) ▸ star in-line or empty)) ∷ (PRAGMA-KW, text "gma") ∷ (IDENT, star letter-or-digit) ∷ []) ∷
    ((QREG-KW, text "g") ∷ (IDENT, star letter-or-digit) ∷ []) ∷
    ((QUBIT-KW, text "it") ∷ (IDENT, star letter-or-digit) ∷ []) ∷
    ((READONLY-KW, text "donly") ∷ (IDENT, star letter-or-digit) ∷ []) ∷
    ((RESET-KW, text "et") ∷ (IDENT, star letter-or-digit) ∷ []) ∷
    ((RETURN-KW, text "urn") ∷ (IDENT, star letter-or-digit) ∷ []) ∷
    ((STRETCH-TY, text "etch") ∷ (IDENT, star letter-or-digit) ∷ []) ∷
    ((SWITCH-KW, text "tch") ∷ (IDENT, star letter-or-digit) ∷ []) ∷
    ((TRUE-KW, text "e") ∷ (IDENT, star letter-or-digit) ∷ []) ∷
    ((UINT-TY, text "t") ∷ (IDENT, star letter-or-digit) ∷ []) ∷
    ((VOID-KW, text "d") ∷ (IDENT, star letter-or-digit) ∷ []) ∷
    ((WHILE-KW, text "le") ∷ (IDENT, star letter-or-digit) ∷ []) ∷
    ((O-P-E-N-Q-A-S-M-KW, text "QASM") ∷ (IDENT, star letter-or-digit) ∷ []) ∷
    ((ANGLE-TY, text "e") ∷ (IDENT, star letter-or-digit) ∷ []) ∷
    ((ARRAY-KW, text "y") ∷ (IDENT, star letter-or-digit) ∷ []) ∷
    ((BARRIER-KW, text "ier") ∷ (IDENT, star letter-or-digit) ∷ []) ∷
    ((BOOL-TY, empty) ∷ (IDENT, star letter-or-digit) ∷ []) ∷
    ((BREAK-KW, text "k") ∷ (IDENT, star letter-or-digit) ∷ []) ∷
    ((CASE-KW, empty) ∷ (IDENT, star letter-or-digit) ∷ []) ∷
    ((COMPLEX-TY, text "lex") ∷ (IDENT, star letter-or-digit) ∷ []) ∷
    ((CONST-KW, text "t") ∷ (IDENT, star letter-or-digit) ∷ []) ∷
    ((CONTINUE-KW, text "inue") ∷ (IDENT, star letter-or-digit) ∷ []) ∷
    ((CREG-KW, empty) ∷ (IDENT, star letter-or-digit) ∷ []) ∷
    ((CTRL-KW, empty) ∷ (IDENT, star letter-or-digit) ∷ []) ∷
    ((DEFAULT-KW, text "ult") ∷ (IDENT, star letter-or-digit) ∷ []) ∷
    ((DEFCALGRAMMAR-KW, text "algrammar") ∷ (DEFCAL-KW, text "al") ∷ (IDENT, star letter-or-digit) ∷ []) ∷
    ((DELAY-KW, text "y") ∷ (IDENT, star letter-or-digit) ∷ []) ∷
    ((DURATION-TY, text "tion") ∷ (IDENT, star letter-or-digit) ∷ []) ∷
    ((ELSE-KW, empty) ∷ (IDENT, star letter-or-digit) ∷ []) ∷
    ((EXTERN-KW, text "rn") ∷ (IDENT, star letter-or-digit) ∷ []) ∷
    ((FALSE-KW, text "e") ∷ (IDENT, star letter-or-digit) ∷ []) ∷
    ((FLOAT-TY, text "t") ∷ (IDENT, star letter-or-digit) ∷ []) ∷
    ((GATE-KW, empty) ∷ (IDENT, star letter-or-digit) ∷ []) ∷
    ((GPHASE-KW, text "se") ∷ (IDENT, star letter-or-digit) ∷ []) ∷
    ((INCLUDE-KW, text "ude") ∷ (IDENT, star letter-or-digit) ∷ []) ∷
    ((INPUT-KW, text "t") ∷ (IDENT, star letter-or-digit) ∷ []) ∷
    ((MEASURE-KW, text "ure") ∷ (IDENT, star letter-or-digit) ∷ []) ∷
    ((MUTABLE-KW, text "ble") ∷ (IDENT, star letter-or-digit) ∷ []) ∷
    ((NEGCTRL-KW, text "trl") ∷ (IDENT, star letter-or-digit) ∷ []) ∷
    ((OUTPUT-KW, text "ut") ∷ (IDENT, star letter-or-digit) ∷ []) ∷
    ((PRAGMA, text "ma" ▸ (one (but ((65, 90) ∷ (97, 122) ∷ (95, 95) ∷ (48, 57) ∷ (13, 13) ∷ (10, 10) ∷ [])) ▸ star in-line or empty)) ∷ (PRAGMA-KW, text "ma") ∷ (IDENT, star letter-or-digit) ∷ []) ∷
    ((QREG-KW, empty) ∷ (IDENT, star letter-or-digit) ∷ []) ∷
    ((QUBIT-KW, text "t") ∷ (IDENT, star letter-or-digit) ∷ []) ∷
    ((READONLY-KW, text "only") ∷ (IDENT, star letter-or-digit) ∷ []) ∷
    ((RESET-KW, text "t") ∷ (IDENT, star letter-or-digit) ∷ []) ∷
    ((RETURN-KW, text "rn") ∷ (IDENT, star letter-or-digit) ∷ []) ∷
    ((STRETCH-TY, text "tch") ∷ (IDENT, star letter-or-digit) ∷ []) ∷
    ((SWITCH-KW, text "ch") ∷ (IDENT, star letter-or-digit) ∷ []) ∷
    ((TRUE-KW, empty) ∷ (IDENT, star letter-or-digit) ∷ []) ∷
    ((UINT-TY, empty) ∷ (IDENT, star letter-or-digit) ∷ []) ∷
    ((VOID-KW, empty) ∷ (IDENT, star letter-or-digit) ∷ []) ∷
    ((WHILE-KW, text "e") ∷ (IDENT, star letter-or-digit) ∷ []) ∷
    ((O-P-E-N-Q-A-S-M-KW, text "ASM") ∷ (IDENT, star letter-or-digit) ∷ []) ∷
    ((ANGLE-TY, empty) ∷ (IDENT, star letter-or-digit) ∷ []) ∷
    ((ARRAY-KW, empty) ∷ (IDENT, star letter-or-digit) ∷ []) ∷
    ((BARRIER-KW, text "er") ∷ (IDENT, star letter-or-digit) ∷ []) ∷
    ((BREAK-KW, empty) ∷ (IDENT, star letter-or-digit) ∷ []) ∷
    ((COMPLEX-TY, text "ex") ∷ (IDENT, star letter-or-digit) ∷ []) ∷
    ((CONST-KW, empty) ∷ (IDENT, star letter-or-digit) ∷ []) ∷
    ((CONTINUE-KW, text "nue") ∷ (IDENT, star letter-or-digit) ∷ []) ∷
    ((DEFAULT-KW, text "lt") ∷ (IDENT, star letter-or-digit) ∷ []) ∷
    ((DEFCALGRAMMAR-KW, text "lgrammar") ∷ (DEFCAL-KW, text "l") ∷ (IDENT, star letter-or-digit) ∷ []) ∷
    ((DELAY-KW, empty) ∷ (IDENT, star letter-or-digit) ∷ []) ∷
    ((DURATION-TY, text "ion") ∷ (IDENT, star letter-or-digit) ∷ []) ∷
    ((EXTERN-KW, text "n") ∷ (IDENT, star letter-or-digit) ∷ []) ∷
    ((FALSE-KW, empty) ∷ (IDENT, star letter-or-digit) ∷ []) ∷
    ((FLOAT-TY, empty) ∷ (IDENT, star letter-or-digit) ∷ []) ∷
    ((GPHASE-KW, text "e") ∷ (IDENT, star letter-or-digit) ∷ []) ∷
    ((INCLUDE-KW, text "de") ∷ (IDENT, star letter-or-digit) ∷ []) ∷
    ((INPUT-KW, empty) ∷ (IDENT, star letter-or-digit) ∷ []) ∷
    ((MEASURE-KW, text "re") ∷ (IDENT, star letter-or-digit) ∷ []) ∷
    ((MUTABLE-KW, text "le") ∷ (IDENT, star letter-or-digit) ∷ []) ∷
    ((NEGCTRL-KW, text "rl") ∷ (IDENT, star letter-or-digit) ∷ []) ∷
    ((OUTPUT-KW, text "t") ∷ (IDENT, star letter-or-digit) ∷ []) ∷
    ((PRAGMA, text "a" ▸ (one (but ((65, 90) ∷ (97, 122) ∷ (95, 95) ∷ (48, 57) ∷ (13, 13) ∷ (10, 10) ∷ [])) ▸ star in-line or empty)) ∷ (PRAGMA-KW, text "a") ∷ (IDENT, star letter-or-digit) ∷ []) ∷
    ((QUBIT-KW, empty) ∷ (IDENT, star letter-or-digit) ∷ []) ∷
    ((READONLY-KW, text "nly") ∷ (IDENT, star letter-or-digit) ∷ []) ∷
    ((RESET-KW, empty) ∷ (IDENT, star letter-or-digit) ∷ []) ∷
    ((RETURN-KW, text "n") ∷ (IDENT, star letter-or-digit) ∷ []) ∷
    ((STRETCH-TY, text "ch") ∷ (IDENT, star letter-or-digit) ∷ []) ∷
    ((SWITCH-KW, text "h") ∷ (IDENT, star letter-or-digit) ∷ []) ∷
    ((WHILE-KW, empty) ∷ (IDENT, star letter-or-digit) ∷ []) ∷
    ((O-P-E-N-Q-A-S-M-KW, text "SM") ∷ (IDENT, star letter-or-digit) ∷ []) ∷
    ((BARRIER-KW, text "r") ∷ (IDENT, star letter-or-digit) ∷ []) ∷
    ((COMPLEX-TY, text "x") ∷ (IDENT, star letter-or-digit) ∷ []) ∷
    ((CONTINUE-KW, text "ue") ∷ (IDENT, star letter-or-digit) ∷ []) ∷
    ((DEFAULT-KW, text "t") ∷ (IDENT, star letter-or-digit) ∷ []) ∷
    ((DEFCALGRAMMAR-KW, text "grammar") ∷ (DEFCAL-KW, empty) ∷ (IDENT, star letter-or-digit) ∷ []) ∷
    ((DURATION-TY, text "on") ∷ (IDENT, star letter-or-digit) ∷ []) ∷
    ((EXTERN-KW, empty) ∷ (IDENT, star letter-or-digit) ∷ []) ∷
    ((GPHASE-KW, empty) ∷ (IDENT, star letter-or-digit) ∷ []) ∷
    ((INCLUDE-KW, text "e") ∷ (IDENT, star letter-or-digit) ∷ []) ∷
    ((MEASURE-KW, text "e") ∷ (IDENT, star letter-or-digit) ∷ []) ∷
    ((MUTABLE-KW, text "e") ∷ (IDENT, star letter-or-digit) ∷ []) ∷
    ((NEGCTRL-KW, text "l") ∷ (IDENT, star letter-or-digit) ∷ []) ∷
    ((OUTPUT-KW, empty) ∷ (IDENT, star letter-or-digit) ∷ []) ∷
    ((PRAGMA, one (but ((65, 90) ∷ (97, 122) ∷ (95, 95) ∷ (48, 57) ∷ (13, 13) ∷ (10, 10) ∷ [])) ▸ star in-line or empty) ∷ (PRAGMA-KW, empty) ∷ (IDENT, star letter-or-digit) ∷ []) ∷
    ((READONLY-KW, text "ly") ∷ (IDENT, star letter-or-digit) ∷ []) ∷
    ((RETURN-KW, empty) ∷ (IDENT, star letter-or-digit) ∷ []) ∷
    ((STRETCH-TY, text "h") ∷ (IDENT, star letter-or-digit) ∷ []) ∷
    ((SWITCH-KW, empty) ∷ (IDENT, star letter-or-digit) ∷ []) ∷
    ((PRAGMA, star in-line) ∷ []) ∷
    ((O-P-E-N-Q-A-S-M-KW, text "M") ∷ (IDENT, star letter-or-digit) ∷ []) ∷
    ((BARRIER-KW, empty) ∷ (IDENT, star letter-or-digit) ∷ []) ∷
    ((COMPLEX-TY, empty) ∷ (IDENT, star letter-or-digit) ∷ []) ∷
    ((CONTINUE-KW, text "e") ∷ (IDENT, star letter-or-digit) ∷ []) ∷
    ((DEFAULT-KW, empty) ∷ (IDENT, star letter-or-digit) ∷ []) ∷
    ((DEFCALGRAMMAR-KW, text "rammar") ∷ (IDENT, star letter-or-digit) ∷ []) ∷
    ((DURATION-TY, text "n") ∷ (IDENT, star letter-or-digit) ∷ []) ∷
    ((INCLUDE-KW, empty) ∷ (IDENT, star letter-or-digit) ∷ []) ∷
    ((MEASURE-KW, empty) ∷ (IDENT, star letter-or-digit) ∷ []) ∷
    ((MUTABLE-KW, empty) ∷ (IDENT, star letter-or-digit) ∷ []) ∷
    ((NEGCTRL-KW, empty) ∷ (IDENT, star letter-or-digit) ∷ []) ∷
    ((READONLY-KW, text "y") ∷ (IDENT, star letter-or-digit) ∷ []) ∷
    ((STRETCH-TY, empty) ∷ (IDENT, star letter-or-digit) ∷ []) ∷
    ((O-P-E-N-Q-A-S-M-KW, empty) ∷ (IDENT, star letter-or-digit) ∷ []) ∷
    ((CONTINUE-KW, empty) ∷ (IDENT, star letter-or-digit) ∷ []) ∷
    ((DEFCALGRAMMAR-KW, text "ammar") ∷ (IDENT, star letter-or-digit) ∷ []) ∷
    ((DURATION-TY, empty) ∷ (IDENT, star letter-or-digit) ∷ []) ∷
    ((READONLY-KW, empty) ∷ (IDENT, star letter-or-digit) ∷ []) ∷
    ((DEFCALGRAMMAR-KW, text "mmar") ∷ (IDENT, star letter-or-digit) ∷ []) ∷
    ((DEFCALGRAMMAR-KW, text "mar") ∷ (IDENT, star letter-or-digit) ∷ []) ∷
    ((DEFCALGRAMMAR-KW, text "ar") ∷ (IDENT, star letter-or-digit) ∷ []) ∷
    ((DEFCALGRAMMAR-KW, text "r") ∷ (IDENT, star letter-or-digit) ∷ []) ∷
    ((DEFCALGRAMMAR-KW, empty) ∷ (IDENT, star letter-or-digit) ∷ []) ∷
    ((ERROR, empty) ∷ []) ∷
    ((BANG, empty) ∷ (ERROR, empty) ∷ []) ∷
    ((PERCENT, empty) ∷ (ERROR, empty) ∷ []) ∷
    ((AMP, empty) ∷ (ERROR, empty) ∷ []) ∷
    ((L-PAREN, empty) ∷ (ERROR, empty) ∷ []) ∷
    ((R-PAREN, empty) ∷ (ERROR, empty) ∷ []) ∷
    ((STAR, empty) ∷ (ERROR, empty) ∷ []) ∷
    ((PLUS, empty) ∷ (ERROR, empty) ∷ []) ∷
    ((COMMA, empty) ∷ (ERROR, empty) ∷ []) ∷
    ((MINUS, empty) ∷ (ERROR, empty) ∷ []) ∷
    ((COLON, empty) ∷ (ERROR, empty) ∷ []) ∷
    ((SEMICOLON, empty) ∷ (ERROR, empty) ∷ []) ∷
    ((L-ANGLE, empty) ∷ (ERROR, empty) ∷ []) ∷
    ((EQ, empty) ∷ (ERROR, empty) ∷ []) ∷
    ((R-ANGLE, empty) ∷ (ERROR, empty) ∷ []) ∷
    ((QUESTION, empty) ∷ (ERROR, empty) ∷ []) ∷
    ((L-BRACK, empty) ∷ (ERROR, empty) ∷ []) ∷
    ((R-BRACK, empty) ∷ (ERROR, empty) ∷ []) ∷
    ((CARET, empty) ∷ (ERROR, empty) ∷ []) ∷
    ((L-CURLY, empty) ∷ (ERROR, empty) ∷ []) ∷
    ((PIPE, empty) ∷ (ERROR, empty) ∷ []) ∷
    ((R-CURLY, empty) ∷ (ERROR, empty) ∷ []) ∷
    ((TILDE, empty) ∷ (ERROR, empty) ∷ []) ∷
    ((STRING, empty) ∷ []) ∷
    ((BIT-STRING, empty) ∷ (STRING, empty) ∷ []) ∷
    ((COMMENT, empty) ∷ []) ∷ []
