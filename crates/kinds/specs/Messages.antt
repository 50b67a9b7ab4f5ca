-- The codes of error messages, each under the first words of its text with - for _. Written by tools/lists; ./check compares it
-- with the source. Assumes nothing: these are names of numbers.
use Rattle.std.specs.Prelude.{ℕ}

-- expected KIND, with the kind as argument
abbrev pub EXPECTED : ℕ
EXPECTED = 1

-- Expected scalar return type after ->
abbrev pub EXPECTED-SCALAR-RETURN-TYPE-AFTER-ARROW : ℕ
EXPECTED-SCALAR-RETURN-TYPE-AFTER-ARROW = 2

-- expected a name
abbrev pub EXPECTED-A-NAME : ℕ
EXPECTED-A-NAME = 3

-- expected value parameter
abbrev pub EXPECTED-VALUE-PARAMETER : ℕ
EXPECTED-VALUE-PARAMETER = 4

-- Expected `,`
abbrev pub EXPECTED-COMMA : ℕ
EXPECTED-COMMA = 5

-- expected one or more parameters
abbrev pub EXPECTED-ONE-OR-MORE-PARAMETERS : ℕ
EXPECTED-ONE-OR-MORE-PARAMETERS = 6

-- Expected parameter name
abbrev pub EXPECTED-PARAMETER-NAME : ℕ
EXPECTED-PARAMETER-NAME = 7

-- Expected name in qubit argument
abbrev pub EXPECTED-NAME-IN-QUBIT-ARGUMENT : ℕ
EXPECTED-NAME-IN-QUBIT-ARGUMENT = 8

-- Unexpected string literal
abbrev pub UNEXPECTED-STRING-LITERAL : ℕ
UNEXPECTED-STRING-LITERAL = 9

-- Timing and imaginary literals must begin with an integer or float literal
abbrev pub TIMING-AND-IMAGINARY-LITERALS-MUST-BEGIN-WITH : ℕ
TIMING-AND-IMAGINARY-LITERALS-MUST-BEGIN-WITH = 10

-- atom_expr: expected expression
abbrev pub ATOM-EXPR-EXPECTED-EXPRESSION : ℕ
ATOM-EXPR-EXPECTED-EXPRESSION = 11

-- Modifier `inv` accepts no parameter. Expecting `@`
abbrev pub MODIFIER-INV-ACCEPTS-NO-PARAMETER-EXPECTING-AT : ℕ
MODIFIER-INV-ACCEPTS-NO-PARAMETER-EXPECTING-AT = 12

-- Expecting `@`
abbrev pub EXPECTING-AT : ℕ
EXPECTING-AT = 13

-- expecting argument to pow gate modifier
abbrev pub EXPECTING-ARGUMENT-TO-POW-GATE-MODIFIER : ℕ
EXPECTING-ARGUMENT-TO-POW-GATE-MODIFIER = 14

-- expecting qubit(s) to measure
abbrev pub EXPECTING-QUBIT-S-TO-MEASURE : ℕ
EXPECTING-QUBIT-S-TO-MEASURE = 15

-- expected expression, found comma instead
abbrev pub EXPECTED-EXPRESSION-FOUND-COMMA-INSTEAD : ℕ
EXPECTED-EXPRESSION-FOUND-COMMA-INSTEAD = 16

-- expected a block
abbrev pub EXPECTED-A-BLOCK : ℕ
EXPECTED-A-BLOCK = 17

-- Expecting colon in range expression.
abbrev pub EXPECTING-COLON-IN-RANGE-EXPRESSION : ℕ
EXPECTING-COLON-IN-RANGE-EXPRESSION = 18

-- stmt: expected expression, type declaration, or let statement
abbrev pub STMT-EXPECTED-EXPRESSION-TYPE-DECLARATION-OR-LET : ℕ
STMT-EXPECTED-EXPRESSION-TYPE-DECLARATION-OR-LET = 19

-- Expecting semicolon terminating statement
abbrev pub EXPECTING-SEMICOLON-TERMINATING-STATEMENT : ℕ
EXPECTING-SEMICOLON-TERMINATING-STATEMENT = 20

-- expr_bp: expected expression
abbrev pub EXPR-BP-EXPECTED-EXPRESSION : ℕ
EXPR-BP-EXPECTED-EXPRESSION = 21

-- Assignment statement found where expression expected
abbrev pub ASSIGNMENT-STATEMENT-FOUND-WHERE-EXPRESSION-EXPECTED : ℕ
ASSIGNMENT-STATEMENT-FOUND-WHERE-EXPRESSION-EXPECTED = 22

-- Illegal LHS in assignment
abbrev pub ILLEGAL-LHS-IN-ASSIGNMENT : ℕ
ILLEGAL-LHS-IN-ASSIGNMENT = 23

-- Indexing into literal is not allowed.
abbrev pub INDEXING-INTO-LITERAL-IS-NOT-ALLOWED : ℕ
INDEXING-INTO-LITERAL-IS-NOT-ALLOWED = 24

-- Expected type name.
abbrev pub EXPECTED-TYPE-NAME : ℕ
EXPECTED-TYPE-NAME = 25

-- Illegal base type for array.
abbrev pub ILLEGAL-BASE-TYPE-FOR-ARRAY : ℕ
ILLEGAL-BASE-TYPE-FOR-ARRAY = 26

-- Expecting `float` in complex designator`
abbrev pub EXPECTING-FLOAT-IN-COMPLEX-DESIGNATOR : ℕ
EXPECTING-FLOAT-IN-COMPLEX-DESIGNATOR = 27

-- Found designator in hardware qubit declaration.
abbrev pub FOUND-DESIGNATOR-IN-HARDWARE-QUBIT-DECLARATION : ℕ
FOUND-DESIGNATOR-IN-HARDWARE-QUBIT-DECLARATION = 28

-- Literal type designator must be an integer.
abbrev pub LITERAL-TYPE-DESIGNATOR-MUST-BE-AN-INTEGER : ℕ
LITERAL-TYPE-DESIGNATOR-MUST-BE-AN-INTEGER = 29

-- Expecting parameter name.
abbrev pub EXPECTING-PARAMETER-NAME : ℕ
EXPECTING-PARAMETER-NAME = 30

-- expected statement, found `;`\nconsider removing this semicolon
abbrev pub EXPECTED-STATEMENT-FOUND-SEMICOLON : ℕ
EXPECTED-STATEMENT-FOUND-SEMICOLON = 31

-- unmatched `}`
abbrev pub UNMATCHED-R-CURLY : ℕ
UNMATCHED-R-CURLY = 32

-- expecting `case` keyword
abbrev pub EXPECTING-CASE-KEYWORD : ℕ
EXPECTING-CASE-KEYWORD = 33

-- expecting name of qubit or register to reset
abbrev pub EXPECTING-NAME-OF-QUBIT-OR-REGISTER-TO : ℕ
EXPECTING-NAME-OF-QUBIT-OR-REGISTER-TO = 34

-- Quantum type found in input/output declaration.
abbrev pub QUANTUM-TYPE-FOUND-IN-INPUT-OUTPUT-DECLARATION : ℕ
QUANTUM-TYPE-FOUND-IN-INPUT-OUTPUT-DECLARATION = 35

-- expected function arguments in def
abbrev pub EXPECTED-FUNCTION-ARGUMENTS-IN-DEF : ℕ
EXPECTED-FUNCTION-ARGUMENTS-IN-DEF = 36

-- expected a path to a file
abbrev pub EXPECTED-A-PATH-TO-A-FILE : ℕ
EXPECTED-A-PATH-TO-A-FILE = 37
