-- The kinds of each fixed set, as the crate lists them. Written by tools/lists; ./check compares it with the source.
-- Assumes nothing: these are definitions.
use Rattle.std.specs.Prelude.{List, [], ◌∷◌, ◌++◌, ℕ}
use Rattle.kinds.specs.Kinds.{SEMICOLON, COMMA, L-PAREN, R-PAREN, L-CURLY, R-CURLY, L-BRACK, R-BRACK, L-ANGLE, R-ANGLE, AT, POUND, TILDE, QUESTION, DOLLAR, AMP, PIPE, PLUS, STAR, SLASH, CARET, PERCENT, UNDERSCORE, DOT, COLON, EQ, BANG, MINUS, O-P-E-N-Q-A-S-M-KW, INCLUDE-KW, PRAGMA-KW, DEF-KW, DEFCALGRAMMAR-KW, CAL-KW, DEFCAL-KW, GATE-KW, DELAY-KW, RESET-KW, MEASURE-KW, LET-KW, BOX-KW, EXTERN-KW, CONST-KW, BARRIER-KW, GPHASE-KW, IF-KW, ELSE-KW, FOR-KW, IN-KW, WHILE-KW, CONTINUE-KW, RETURN-KW, BREAK-KW, END-KW, SWITCH-KW, CASE-KW, DEFAULT-KW, INPUT-KW, OUTPUT-KW, READONLY-KW, MUTABLE-KW, QREG-KW, CREG-KW, QUBIT-KW, VOID-KW, ARRAY-KW, CTRL-KW, NEGCTRL-KW, INV-KW, POW-KW, FALSE-KW, TRUE-KW, INT-NUMBER, FLOAT-NUMBER, CHAR, BYTE, STRING, BIT-STRING, FLOAT-TY, INT-TY, UINT-TY, COMPLEX-TY, BOOL-TY, BIT-TY, DURATION-TY, STRETCH-TY, ANGLE-TY, ERROR, IDENT, HARDWAREIDENT, PRAGMA, ANNOTATION, TIMING-LITERAL, LITERAL, INDEXED-IDENTIFIER, IDENTIFIER, HARDWARE-QUBIT}
use Rattle.kinds.specs.declared.sets.Fixed.{Fixed}
use Rattle.kinds.specs.declared.sets.Fixed.TheVariants.{Empty, PathFirst, LiteralFirst, TimingLiteralFirst, AtomExprFirst, ExprRecoverySet, ExprFirst, PatternFirst, TypeFirst, ParamFirst, ItemRecoverySet, ScalarTypes, ClassicalTypes, QuantumTypes, Types, Permitted, QubitFirst, PrefixOps, CastNext, Assignable, Unindexed, ArrayBases, NoIntegers}

-- token_set.rs
abbrev pub EMPTY : List ℕ
EMPTY = []

-- grammar/expressions/atom.rs
abbrev pub PATH-FIRST : List ℕ
PATH-FIRST = IDENT ∷ HARDWAREIDENT ∷ COLON ∷ L-ANGLE ∷ []

-- grammar/expressions/atom.rs
abbrev pub LITERAL-FIRST : List ℕ
LITERAL-FIRST = BIT-STRING ∷ BYTE ∷ CHAR ∷ FLOAT-NUMBER ∷ INT-NUMBER ∷ STRING ∷ TRUE-KW ∷ FALSE-KW ∷ []

-- grammar/expressions/atom.rs
abbrev pub TIMING-LITERAL-FIRST : List ℕ
TIMING-LITERAL-FIRST = INT-NUMBER ∷ FLOAT-NUMBER ∷ []

-- grammar/expressions/atom.rs
abbrev pub ATOM-EXPR-FIRST : List ℕ
ATOM-EXPR-FIRST =
    LITERAL-FIRST ++ PATH-FIRST ++ L-PAREN ∷ L-CURLY ∷ L-BRACK ∷ PIPE ∷ BOX-KW ∷ CONST-KW ∷ FOR-KW ∷ IF-KW ∷ LET-KW
    ∷ RETURN-KW ∷ WHILE-KW ∷ MEASURE-KW ∷ INV-KW ∷ CTRL-KW ∷ NEGCTRL-KW ∷ POW-KW ∷ GPHASE-KW ∷ []

-- grammar/expressions/atom.rs
abbrev pub EXPR-RECOVERY-SET : List ℕ
EXPR-RECOVERY-SET = R-PAREN ∷ R-BRACK ∷ []

-- grammar/expressions.rs
abbrev pub LHS-FIRST : List ℕ
LHS-FIRST = ATOM-EXPR-FIRST ++ AMP ∷ STAR ∷ BANG ∷ DOT ∷ MINUS ∷ UNDERSCORE ∷ []

-- grammar/expressions.rs
abbrev pub EXPR-FIRST : List ℕ
EXPR-FIRST = LHS-FIRST

-- grammar/params.rs
abbrev pub PATTERN-FIRST : List ℕ
PATTERN-FIRST =
    LITERAL-FIRST ++ PATH-FIRST ++ BOX-KW ∷ CONST-KW ∷ L-PAREN ∷ L-BRACK ∷ AMP ∷ UNDERSCORE ∷ MINUS ∷ DOT ∷ []

-- grammar/params.rs
abbrev pub TYPE-FIRST : List ℕ
TYPE-FIRST = PATH-FIRST ++ L-PAREN ∷ L-BRACK ∷ L-ANGLE ∷ BANG ∷ STAR ∷ AMP ∷ UNDERSCORE ∷ EXTERN-KW ∷ []

-- grammar/params.rs
abbrev pub PARAM-FIRST : List ℕ
PARAM-FIRST = PATTERN-FIRST ++ TYPE-FIRST

-- grammar/items.rs
abbrev pub ITEM-RECOVERY-SET : List ℕ
ITEM-RECOVERY-SET =
    GATE-KW ∷ DEF-KW ∷ DEFCAL-KW ∷ DEFCALGRAMMAR-KW ∷ INCLUDE-KW ∷ CAL-KW ∷ RESET-KW ∷ BARRIER-KW ∷ CONST-KW
    ∷ LET-KW ∷ O-P-E-N-Q-A-S-M-KW ∷ SEMICOLON ∷ []

-- syntax_kind/syntax_kind_enum.rs, is_scalar_type
abbrev pub SCALAR-TYPES : List ℕ
SCALAR-TYPES = FLOAT-TY ∷ INT-TY ∷ UINT-TY ∷ COMPLEX-TY ∷ BOOL-TY ∷ BIT-TY ∷ DURATION-TY ∷ STRETCH-TY ∷ ANGLE-TY ∷ []

-- grammar.rs, is_classical_type
abbrev pub CLASSICAL-TYPES : List ℕ
CLASSICAL-TYPES = SCALAR-TYPES ++ ARRAY-KW ∷ []

-- grammar.rs, is_quantum_type
abbrev pub QUANTUM-TYPES : List ℕ
QUANTUM-TYPES = QUBIT-KW ∷ HARDWARE-QUBIT ∷ []

-- grammar.rs, is_type
abbrev pub TYPES : List ℕ
TYPES = CLASSICAL-TYPES ++ QUANTUM-TYPES

-- docs/KINDS.md
abbrev pub PERMITTED : List ℕ
PERMITTED =
    SEMICOLON ∷ COMMA ∷ L-PAREN ∷ R-PAREN ∷ L-CURLY ∷ R-CURLY ∷ L-BRACK ∷ R-BRACK ∷ L-ANGLE ∷ R-ANGLE ∷ AT ∷ POUND
    ∷ TILDE ∷ QUESTION ∷ DOLLAR ∷ AMP ∷ PIPE ∷ PLUS ∷ STAR ∷ SLASH ∷ CARET ∷ PERCENT ∷ UNDERSCORE ∷ DOT ∷ COLON ∷ EQ
    ∷ BANG ∷ MINUS ∷ O-P-E-N-Q-A-S-M-KW ∷ INCLUDE-KW ∷ PRAGMA-KW ∷ DEF-KW ∷ DEFCALGRAMMAR-KW ∷ CAL-KW ∷ DEFCAL-KW
    ∷ GATE-KW ∷ DELAY-KW ∷ RESET-KW ∷ MEASURE-KW ∷ LET-KW ∷ BOX-KW ∷ EXTERN-KW ∷ CONST-KW ∷ BARRIER-KW ∷ GPHASE-KW
    ∷ IF-KW ∷ ELSE-KW ∷ FOR-KW ∷ IN-KW ∷ WHILE-KW ∷ CONTINUE-KW ∷ RETURN-KW ∷ BREAK-KW ∷ END-KW ∷ SWITCH-KW ∷ CASE-KW
    ∷ DEFAULT-KW ∷ INPUT-KW ∷ OUTPUT-KW ∷ READONLY-KW ∷ MUTABLE-KW ∷ QREG-KW ∷ CREG-KW ∷ QUBIT-KW ∷ VOID-KW
    ∷ ARRAY-KW ∷ CTRL-KW ∷ NEGCTRL-KW ∷ INV-KW ∷ POW-KW ∷ FALSE-KW ∷ TRUE-KW ∷ INT-NUMBER ∷ FLOAT-NUMBER ∷ CHAR ∷ BYTE
    ∷ STRING ∷ BIT-STRING ∷ FLOAT-TY ∷ INT-TY ∷ UINT-TY ∷ COMPLEX-TY ∷ BOOL-TY ∷ BIT-TY ∷ DURATION-TY ∷ STRETCH-TY
    ∷ ANGLE-TY ∷ ERROR ∷ IDENT ∷ HARDWAREIDENT ∷ PRAGMA ∷ ANNOTATION ∷ []

-- grammar/expressions.rs, call_expr
abbrev pub QUBIT-FIRST : List ℕ
QUBIT-FIRST = IDENT ∷ HARDWAREIDENT ∷ []

-- grammar/expressions.rs, lhs
abbrev pub PREFIX-OPS : List ℕ
PREFIX-OPS = TILDE ∷ BANG ∷ MINUS ∷ []

-- grammar/expressions.rs, expr_bp
abbrev pub CAST-NEXT : List ℕ
CAST-NEXT = L-PAREN ∷ L-BRACK ∷ []

-- grammar/expressions.rs, expr_bp
abbrev pub ASSIGNABLE : List ℕ
ASSIGNABLE = IDENTIFIER ∷ INDEXED-IDENTIFIER ∷ []

-- grammar/expressions.rs, postfix_expr
abbrev pub UNINDEXED : List ℕ
UNINDEXED = LITERAL ∷ TIMING-LITERAL ∷ HARDWARE-QUBIT ∷ []

-- grammar/expressions.rs, array_type_spec
abbrev pub ARRAY-BASES : List ℕ
ARRAY-BASES = INT-TY ∷ UINT-TY ∷ FLOAT-TY ∷ COMPLEX-TY ∷ ANGLE-TY ∷ BOOL-TY ∷ DURATION-TY ∷ []

-- grammar/expressions.rs, designator
abbrev pub NO-INTEGERS : List ℕ
NO-INTEGERS = FLOAT-NUMBER ∷ BYTE ∷ CHAR ∷ STRING ∷ BIT-STRING ∷ []

-- the kinds of a fixed set
abbrev pub kinds_of : Fixed → List ℕ
kinds_of Empty = EMPTY
kinds_of PathFirst = PATH-FIRST
kinds_of LiteralFirst = LITERAL-FIRST
kinds_of TimingLiteralFirst = TIMING-LITERAL-FIRST
kinds_of AtomExprFirst = ATOM-EXPR-FIRST
kinds_of ExprRecoverySet = EXPR-RECOVERY-SET
kinds_of ExprFirst = EXPR-FIRST
kinds_of PatternFirst = PATTERN-FIRST
kinds_of TypeFirst = TYPE-FIRST
kinds_of ParamFirst = PARAM-FIRST
kinds_of ItemRecoverySet = ITEM-RECOVERY-SET
kinds_of ScalarTypes = SCALAR-TYPES
kinds_of ClassicalTypes = CLASSICAL-TYPES
kinds_of QuantumTypes = QUANTUM-TYPES
kinds_of Types = TYPES
kinds_of Permitted = PERMITTED
kinds_of QubitFirst = QUBIT-FIRST
kinds_of PrefixOps = PREFIX-OPS
kinds_of CastNext = CAST-NEXT
kinds_of Assignable = ASSIGNABLE
kinds_of Unindexed = UNINDEXED
kinds_of ArrayBases = ARRAY-BASES
kinds_of NoIntegers = NO-INTEGERS
