-- The words and marks that have a kind of their own, each a rule. Written by tools/lists; ./check compares it with the source.
-- Assumes nothing: these are definitions.
use Rattle.std.specs.Prelude.{List, [], ◌∷◌}
use Rattle.kinds.specs.Kinds.{O-P-E-N-Q-A-S-M-KW, INCLUDE-KW, PRAGMA-KW, DEF-KW, DEFCALGRAMMAR-KW, CAL-KW, DEFCAL-KW, GATE-KW, DELAY-KW, RESET-KW, MEASURE-KW, LET-KW, BOX-KW, EXTERN-KW, CONST-KW, BARRIER-KW, GPHASE-KW, IF-KW, ELSE-KW, FOR-KW, IN-KW, WHILE-KW, CONTINUE-KW, RETURN-KW, BREAK-KW, END-KW, SWITCH-KW, CASE-KW, DEFAULT-KW, INPUT-KW, OUTPUT-KW, READONLY-KW, MUTABLE-KW, QREG-KW, CREG-KW, QUBIT-KW, VOID-KW, ARRAY-KW, CTRL-KW, NEGCTRL-KW, INV-KW, POW-KW, FALSE-KW, TRUE-KW, FLOAT-TY, INT-TY, UINT-TY, COMPLEX-TY, BOOL-TY, BIT-TY, DURATION-TY, STRETCH-TY, ANGLE-TY, SEMICOLON, COMMA, L-PAREN, R-PAREN, L-CURLY, R-CURLY, L-BRACK, R-BRACK, L-ANGLE, R-ANGLE, AT, POUND, TILDE, QUESTION, DOLLAR, AMP, PIPE, PLUS, STAR, SLASH, CARET, PERCENT, UNDERSCORE, DOT, COLON, EQ, BANG, MINUS}
use Rattle.lexical.specs.Texts.{text}
use Rattle.lexical.specs.Lexed.{Rule}

-- `from_keyword`
abbrev pub keywords : List Rule
keywords =
    (O-P-E-N-Q-A-S-M-KW, text "OPENQASM") ∷
    (INCLUDE-KW, text "include") ∷
    (PRAGMA-KW, text "pragma") ∷
    (DEF-KW, text "def") ∷
    (DEFCALGRAMMAR-KW, text "defcalgrammar") ∷
    (CAL-KW, text "cal") ∷
    (DEFCAL-KW, text "defcal") ∷
    (GATE-KW, text "gate") ∷
    (DELAY-KW, text "delay") ∷
    (RESET-KW, text "reset") ∷
    (MEASURE-KW, text "measure") ∷
    (LET-KW, text "let") ∷
    (BOX-KW, text "box") ∷
    (EXTERN-KW, text "extern") ∷
    (CONST-KW, text "const") ∷
    (BARRIER-KW, text "barrier") ∷
    (GPHASE-KW, text "gphase") ∷
    (IF-KW, text "if") ∷
    (ELSE-KW, text "else") ∷
    (FOR-KW, text "for") ∷
    (IN-KW, text "in") ∷
    (WHILE-KW, text "while") ∷
    (CONTINUE-KW, text "continue") ∷
    (RETURN-KW, text "return") ∷
    (BREAK-KW, text "break") ∷
    (END-KW, text "end") ∷
    (SWITCH-KW, text "switch") ∷
    (CASE-KW, text "case") ∷
    (DEFAULT-KW, text "default") ∷
    (INPUT-KW, text "input") ∷
    (OUTPUT-KW, text "output") ∷
    (READONLY-KW, text "readonly") ∷
    (MUTABLE-KW, text "mutable") ∷
    (QREG-KW, text "qreg") ∷
    (CREG-KW, text "creg") ∷
    (QUBIT-KW, text "qubit") ∷
    (VOID-KW, text "void") ∷
    (ARRAY-KW, text "array") ∷
    (CTRL-KW, text "ctrl") ∷
    (NEGCTRL-KW, text "negctrl") ∷
    (INV-KW, text "inv") ∷
    (POW-KW, text "pow") ∷
    (FALSE-KW, text "false") ∷
    (TRUE-KW, text "true") ∷
    []

-- `from_scalar_type`
abbrev pub types : List Rule
types =
    (FLOAT-TY, text "float") ∷
    (INT-TY, text "int") ∷
    (UINT-TY, text "uint") ∷
    (COMPLEX-TY, text "complex") ∷
    (BOOL-TY, text "bool") ∷
    (BIT-TY, text "bit") ∷
    (DURATION-TY, text "duration") ∷
    (STRETCH-TY, text "stretch") ∷
    (ANGLE-TY, text "angle") ∷
    []

-- `from_char`
abbrev pub marks : List Rule
marks =
    (SEMICOLON, text ";") ∷
    (COMMA, text ",") ∷
    (L-PAREN, text "(") ∷
    (R-PAREN, text ")") ∷
    (L-CURLY, text "{") ∷
    (R-CURLY, text "}") ∷
    (L-BRACK, text "[") ∷
    (R-BRACK, text "]") ∷
    (L-ANGLE, text "<") ∷
    (R-ANGLE, text ">") ∷
    (AT, text "@") ∷
    (POUND, text "#") ∷
    (TILDE, text "~") ∷
    (QUESTION, text "?") ∷
    (DOLLAR, text "$") ∷
    (AMP, text "&") ∷
    (PIPE, text "|") ∷
    (PLUS, text "+") ∷
    (STAR, text "*") ∷
    (SLASH, text "/") ∷
    (CARET, text "^") ∷
    (PERCENT, text "%") ∷
    (UNDERSCORE, text "_") ∷
    (DOT, text ".") ∷
    (COLON, text ":") ∷
    (EQ, text "=") ∷
    (BANG, text "!") ∷
    (MINUS, text "-") ∷
    []
