-- The kinds of src/syntax_kind/syntax_kind_enum.rs, each under its name there with - for _: its number is its place in that
-- enum. Written by tools/lists; ./check compares it with the source. Assumes nothing: these are names of numbers.
use Rattle.std.specs.Prelude.{ℕ}

abbrev pub TOMBSTONE : ℕ
TOMBSTONE = 0

abbrev pub EOF : ℕ
EOF = 1

abbrev pub DOUBLE-PLUS : ℕ
DOUBLE-PLUS = 2

abbrev pub SEMICOLON : ℕ
SEMICOLON = 3

abbrev pub COMMA : ℕ
COMMA = 4

abbrev pub L-PAREN : ℕ
L-PAREN = 5

abbrev pub R-PAREN : ℕ
R-PAREN = 6

abbrev pub L-CURLY : ℕ
L-CURLY = 7

abbrev pub R-CURLY : ℕ
R-CURLY = 8

abbrev pub L-BRACK : ℕ
L-BRACK = 9

abbrev pub R-BRACK : ℕ
R-BRACK = 10

abbrev pub L-ANGLE : ℕ
L-ANGLE = 11

abbrev pub R-ANGLE : ℕ
R-ANGLE = 12

abbrev pub AT : ℕ
AT = 13

abbrev pub POUND : ℕ
POUND = 14

abbrev pub TILDE : ℕ
TILDE = 15

abbrev pub QUESTION : ℕ
QUESTION = 16

abbrev pub DOLLAR : ℕ
DOLLAR = 17

abbrev pub AMP : ℕ
AMP = 18

abbrev pub PIPE : ℕ
PIPE = 19

abbrev pub PLUS : ℕ
PLUS = 20

abbrev pub STAR : ℕ
STAR = 21

abbrev pub SLASH : ℕ
SLASH = 22

abbrev pub CARET : ℕ
CARET = 23

abbrev pub PERCENT : ℕ
PERCENT = 24

abbrev pub UNDERSCORE : ℕ
UNDERSCORE = 25

abbrev pub DOT : ℕ
DOT = 26

abbrev pub DOT2 : ℕ
DOT2 = 27

abbrev pub DOT3 : ℕ
DOT3 = 28

abbrev pub DOT2EQ : ℕ
DOT2EQ = 29

abbrev pub COLON : ℕ
COLON = 30

abbrev pub COLON2 : ℕ
COLON2 = 31

abbrev pub EQ : ℕ
EQ = 32

abbrev pub EQ2 : ℕ
EQ2 = 33

abbrev pub FAT-ARROW : ℕ
FAT-ARROW = 34

abbrev pub BANG : ℕ
BANG = 35

abbrev pub NEQ : ℕ
NEQ = 36

abbrev pub MINUS : ℕ
MINUS = 37

abbrev pub THIN-ARROW : ℕ
THIN-ARROW = 38

abbrev pub LTEQ : ℕ
LTEQ = 39

abbrev pub GTEQ : ℕ
GTEQ = 40

abbrev pub PLUSEQ : ℕ
PLUSEQ = 41

abbrev pub MINUSEQ : ℕ
MINUSEQ = 42

abbrev pub PIPEEQ : ℕ
PIPEEQ = 43

abbrev pub AMPEQ : ℕ
AMPEQ = 44

abbrev pub CARETEQ : ℕ
CARETEQ = 45

abbrev pub SLASHEQ : ℕ
SLASHEQ = 46

abbrev pub STAREQ : ℕ
STAREQ = 47

abbrev pub PERCENTEQ : ℕ
PERCENTEQ = 48

abbrev pub AMP2 : ℕ
AMP2 = 49

abbrev pub PIPE2 : ℕ
PIPE2 = 50

abbrev pub SHL : ℕ
SHL = 51

abbrev pub SHR : ℕ
SHR = 52

abbrev pub SHLEQ : ℕ
SHLEQ = 53

abbrev pub SHREQ : ℕ
SHREQ = 54

abbrev pub O-P-E-N-Q-A-S-M-KW : ℕ
O-P-E-N-Q-A-S-M-KW = 55

abbrev pub INCLUDE-KW : ℕ
INCLUDE-KW = 56

abbrev pub PRAGMA-KW : ℕ
PRAGMA-KW = 57

abbrev pub DEF-KW : ℕ
DEF-KW = 58

abbrev pub DEFCALGRAMMAR-KW : ℕ
DEFCALGRAMMAR-KW = 59

abbrev pub CAL-KW : ℕ
CAL-KW = 60

abbrev pub DEFCAL-KW : ℕ
DEFCAL-KW = 61

abbrev pub GATE-KW : ℕ
GATE-KW = 62

abbrev pub DELAY-KW : ℕ
DELAY-KW = 63

abbrev pub RESET-KW : ℕ
RESET-KW = 64

abbrev pub MEASURE-KW : ℕ
MEASURE-KW = 65

abbrev pub LET-KW : ℕ
LET-KW = 66

abbrev pub BOX-KW : ℕ
BOX-KW = 67

abbrev pub EXTERN-KW : ℕ
EXTERN-KW = 68

abbrev pub CONST-KW : ℕ
CONST-KW = 69

abbrev pub BARRIER-KW : ℕ
BARRIER-KW = 70

abbrev pub GPHASE-KW : ℕ
GPHASE-KW = 71

abbrev pub IF-KW : ℕ
IF-KW = 72

abbrev pub ELSE-KW : ℕ
ELSE-KW = 73

abbrev pub FOR-KW : ℕ
FOR-KW = 74

abbrev pub IN-KW : ℕ
IN-KW = 75

abbrev pub WHILE-KW : ℕ
WHILE-KW = 76

abbrev pub CONTINUE-KW : ℕ
CONTINUE-KW = 77

abbrev pub RETURN-KW : ℕ
RETURN-KW = 78

abbrev pub BREAK-KW : ℕ
BREAK-KW = 79

abbrev pub END-KW : ℕ
END-KW = 80

abbrev pub SWITCH-KW : ℕ
SWITCH-KW = 81

abbrev pub CASE-KW : ℕ
CASE-KW = 82

abbrev pub DEFAULT-KW : ℕ
DEFAULT-KW = 83

abbrev pub INPUT-KW : ℕ
INPUT-KW = 84

abbrev pub OUTPUT-KW : ℕ
OUTPUT-KW = 85

abbrev pub READONLY-KW : ℕ
READONLY-KW = 86

abbrev pub MUTABLE-KW : ℕ
MUTABLE-KW = 87

abbrev pub QREG-KW : ℕ
QREG-KW = 88

abbrev pub CREG-KW : ℕ
CREG-KW = 89

abbrev pub QUBIT-KW : ℕ
QUBIT-KW = 90

abbrev pub VOID-KW : ℕ
VOID-KW = 91

abbrev pub ARRAY-KW : ℕ
ARRAY-KW = 92

abbrev pub CTRL-KW : ℕ
CTRL-KW = 93

abbrev pub NEGCTRL-KW : ℕ
NEGCTRL-KW = 94

abbrev pub INV-KW : ℕ
INV-KW = 95

abbrev pub POW-KW : ℕ
POW-KW = 96

abbrev pub FALSE-KW : ℕ
FALSE-KW = 97

abbrev pub TRUE-KW : ℕ
TRUE-KW = 98

abbrev pub INT-NUMBER : ℕ
INT-NUMBER = 99

abbrev pub FLOAT-NUMBER : ℕ
FLOAT-NUMBER = 100

abbrev pub CHAR : ℕ
CHAR = 101

abbrev pub BYTE : ℕ
BYTE = 102

abbrev pub STRING : ℕ
STRING = 103

abbrev pub BIT-STRING : ℕ
BIT-STRING = 104

abbrev pub FLOAT-TY : ℕ
FLOAT-TY = 105

abbrev pub INT-TY : ℕ
INT-TY = 106

abbrev pub UINT-TY : ℕ
UINT-TY = 107

abbrev pub COMPLEX-TY : ℕ
COMPLEX-TY = 108

abbrev pub BOOL-TY : ℕ
BOOL-TY = 109

abbrev pub BIT-TY : ℕ
BIT-TY = 110

abbrev pub DURATION-TY : ℕ
DURATION-TY = 111

abbrev pub STRETCH-TY : ℕ
STRETCH-TY = 112

abbrev pub ANGLE-TY : ℕ
ANGLE-TY = 113

abbrev pub ERROR : ℕ
ERROR = 114

abbrev pub IDENT : ℕ
IDENT = 115

abbrev pub HARDWAREIDENT : ℕ
HARDWAREIDENT = 116

abbrev pub WHITESPACE : ℕ
WHITESPACE = 117

abbrev pub COMMENT : ℕ
COMMENT = 118

abbrev pub PRAGMA : ℕ
PRAGMA = 119

abbrev pub ANNOTATION : ℕ
ANNOTATION = 120

abbrev pub SOURCE-FILE : ℕ
SOURCE-FILE = 121

abbrev pub GATE : ℕ
GATE = 122

abbrev pub DEF-CAL : ℕ
DEF-CAL = 123

abbrev pub DELAY-STMT : ℕ
DELAY-STMT = 124

abbrev pub CAL : ℕ
CAL = 125

abbrev pub DEF-CAL-GRAMMAR : ℕ
DEF-CAL-GRAMMAR = 126

abbrev pub MEASURE : ℕ
MEASURE = 127

abbrev pub BARRIER : ℕ
BARRIER = 128

abbrev pub DEF : ℕ
DEF = 129

abbrev pub RESET : ℕ
RESET = 130

abbrev pub CONST : ℕ
CONST = 131

abbrev pub PRAGMA-STATEMENT : ℕ
PRAGMA-STATEMENT = 132

abbrev pub ANNOTATION-STATEMENT : ℕ
ANNOTATION-STATEMENT = 133

abbrev pub TIMING-LITERAL : ℕ
TIMING-LITERAL = 134

abbrev pub TUPLE-EXPR : ℕ
TUPLE-EXPR = 135

abbrev pub ARRAY-EXPR : ℕ
ARRAY-EXPR = 136

abbrev pub PAREN-EXPR : ℕ
PAREN-EXPR = 137

abbrev pub IF-STMT : ℕ
IF-STMT = 138

abbrev pub WHILE-STMT : ℕ
WHILE-STMT = 139

abbrev pub FOR-STMT : ℕ
FOR-STMT = 140

abbrev pub FOR-ITERABLE : ℕ
FOR-ITERABLE = 141

abbrev pub END-STMT : ℕ
END-STMT = 142

abbrev pub CONTINUE-STMT : ℕ
CONTINUE-STMT = 143

abbrev pub BREAK-STMT : ℕ
BREAK-STMT = 144

abbrev pub BLOCK-EXPR : ℕ
BLOCK-EXPR = 145

abbrev pub STMT-LIST : ℕ
STMT-LIST = 146

abbrev pub RETURN-EXPR : ℕ
RETURN-EXPR = 147

abbrev pub LET-STMT : ℕ
LET-STMT = 148

abbrev pub BOX-EXPR : ℕ
BOX-EXPR = 149

abbrev pub SWITCH-CASE-STMT : ℕ
SWITCH-CASE-STMT = 150

abbrev pub CASE-EXPR : ℕ
CASE-EXPR = 151

abbrev pub CALL-EXPR : ℕ
CALL-EXPR = 152

abbrev pub GATE-CALL-EXPR : ℕ
GATE-CALL-EXPR = 153

abbrev pub MODIFIED-GATE-CALL-EXPR : ℕ
MODIFIED-GATE-CALL-EXPR = 154

abbrev pub G-PHASE-CALL-EXPR : ℕ
G-PHASE-CALL-EXPR = 155

abbrev pub CAST-EXPRESSION : ℕ
CAST-EXPRESSION = 156

abbrev pub INDEX-EXPR : ℕ
INDEX-EXPR = 157

abbrev pub PREFIX-EXPR : ℕ
PREFIX-EXPR = 158

abbrev pub RANGE-EXPR : ℕ
RANGE-EXPR = 159

abbrev pub BIN-EXPR : ℕ
BIN-EXPR = 160

abbrev pub LITERAL : ℕ
LITERAL = 161

abbrev pub NAME : ℕ
NAME = 162

abbrev pub EXPR-STMT : ℕ
EXPR-STMT = 163

abbrev pub TYPE : ℕ
TYPE = 164

abbrev pub PARAM-LIST : ℕ
PARAM-LIST = 165

abbrev pub TYPED-PARAM-LIST : ℕ
TYPED-PARAM-LIST = 166

abbrev pub QUBIT-LIST : ℕ
QUBIT-LIST = 167

abbrev pub FILE-PATH : ℕ
FILE-PATH = 168

abbrev pub PARAM : ℕ
PARAM = 169

abbrev pub TYPED-PARAM : ℕ
TYPED-PARAM = 170

abbrev pub ARG-LIST : ℕ
ARG-LIST = 171

abbrev pub VERSION : ℕ
VERSION = 172

abbrev pub VERSION-STRING : ℕ
VERSION-STRING = 173

abbrev pub INCLUDE : ℕ
INCLUDE = 174

abbrev pub DECLARATION : ℕ
DECLARATION = 175

abbrev pub DESIGNATOR : ℕ
DESIGNATOR = 176

abbrev pub SCALAR-TYPE : ℕ
SCALAR-TYPE = 177

abbrev pub ARRAY-TYPE : ℕ
ARRAY-TYPE = 178

abbrev pub QUBIT-TYPE : ℕ
QUBIT-TYPE = 179

abbrev pub EXPRESSION-LIST : ℕ
EXPRESSION-LIST = 180

abbrev pub RETURN-SIGNATURE : ℕ
RETURN-SIGNATURE = 181

abbrev pub SET-EXPRESSION : ℕ
SET-EXPRESSION = 182

abbrev pub ALIAS-DECLARATION-STATEMENT : ℕ
ALIAS-DECLARATION-STATEMENT = 183

abbrev pub INDEX-OPERATOR : ℕ
INDEX-OPERATOR = 184

abbrev pub INDEX-KIND : ℕ
INDEX-KIND = 185

abbrev pub INDEXED-IDENTIFIER : ℕ
INDEXED-IDENTIFIER = 186

abbrev pub IDENTIFIER : ℕ
IDENTIFIER = 187

abbrev pub ARRAY-LITERAL : ℕ
ARRAY-LITERAL = 188

abbrev pub HARDWARE-QUBIT : ℕ
HARDWARE-QUBIT = 189

abbrev pub CLASSICAL-DECLARATION-STATEMENT : ℕ
CLASSICAL-DECLARATION-STATEMENT = 190

abbrev pub ASSIGNMENT-STMT : ℕ
ASSIGNMENT-STMT = 191

abbrev pub I-O-DECLARATION-STATEMENT : ℕ
I-O-DECLARATION-STATEMENT = 192

abbrev pub GATE-OPERAND : ℕ
GATE-OPERAND = 193

abbrev pub MEASURE-EXPRESSION : ℕ
MEASURE-EXPRESSION = 194

abbrev pub OLD-STYLE-DECLARATION-STATEMENT : ℕ
OLD-STYLE-DECLARATION-STATEMENT = 195

abbrev pub QUANTUM-DECLARATION-STATEMENT : ℕ
QUANTUM-DECLARATION-STATEMENT = 196

abbrev pub INV-MODIFIER : ℕ
INV-MODIFIER = 197

abbrev pub POW-MODIFIER : ℕ
POW-MODIFIER = 198

abbrev pub CTRL-MODIFIER : ℕ
CTRL-MODIFIER = 199

abbrev pub NEG-CTRL-MODIFIER : ℕ
NEG-CTRL-MODIFIER = 200

abbrev pub MODIFIER : ℕ
MODIFIER = 201

abbrev pub __LAST : ℕ
__LAST = 202
