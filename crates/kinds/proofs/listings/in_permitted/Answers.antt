-- `listings::in_permitted` meets its contract: in an arm the kind is listed, and where no arm was taken it is not. Written by tools/lists;
-- ./check compares it with the source. Assumes nothing.
use Rattle.std.proofs.Common.{◌≡◌, ◌∙◌, ℕ, List, [], ◌∷◌, rules}
use Rattle.kinds.specs.Kinds.{SEMICOLON, COMMA, L-PAREN, R-PAREN, L-CURLY, R-CURLY, L-BRACK, R-BRACK, L-ANGLE, R-ANGLE, AT, POUND, TILDE, QUESTION, DOLLAR, AMP, PIPE, PLUS, STAR, SLASH, CARET, PERCENT, UNDERSCORE, DOT, COLON, EQ, BANG, MINUS, O-P-E-N-Q-A-S-M-KW, INCLUDE-KW, PRAGMA-KW, DEF-KW, DEFCALGRAMMAR-KW, CAL-KW, DEFCAL-KW, GATE-KW, DELAY-KW, RESET-KW, MEASURE-KW, LET-KW, BOX-KW, EXTERN-KW, CONST-KW, BARRIER-KW, GPHASE-KW, IF-KW, ELSE-KW, FOR-KW, IN-KW, WHILE-KW, CONTINUE-KW, RETURN-KW, BREAK-KW, END-KW, SWITCH-KW, CASE-KW, DEFAULT-KW, INPUT-KW, OUTPUT-KW, READONLY-KW, MUTABLE-KW, QREG-KW, CREG-KW, QUBIT-KW, VOID-KW, ARRAY-KW, CTRL-KW, NEGCTRL-KW, INV-KW, POW-KW, FALSE-KW, TRUE-KW, INT-NUMBER, FLOAT-NUMBER, CHAR, BYTE, STRING, BIT-STRING, FLOAT-TY, INT-TY, UINT-TY, COMPLEX-TY, BOOL-TY, BIT-TY, DURATION-TY, STRETCH-TY, ANGLE-TY, ERROR, IDENT, HARDWAREIDENT, PRAGMA, ANNOTATION}
use Rattle.kinds.specs.Membership.{one_of}
use Rattle.kinds.specs.Sets.{PERMITTED}
use Rattle.kinds.proofs.Arms.{arm, within, none, from, chosen-low, chosen-high}
use Rattle.kinds.proofs.Laws.{below}
use Rattle.kinds.proofs.listings.in_permitted.Goals.{in-3, in-4, in-5, in-6, in-7, in-8, in-9, in-10, in-11, in-12, in-13, in-14, in-15, in-16, in-17, in-18, in-19, in-20, in-21, in-22, in-23, in-24, in-25, in-26, in-30, in-32, in-35, in-37, in-55, in-56, in-57, in-58, in-59, in-60, in-61, in-62, in-63, in-64, in-65, in-66, in-67, in-68, in-69, in-70, in-71, in-72, in-73, in-74, in-75, in-76, in-77, in-78, in-79, in-80, in-81, in-82, in-83, in-84, in-85, in-86, in-87, in-88, in-89, in-90, in-91, in-92, in-93, in-94, in-95, in-96, in-97, in-98, in-99, in-100, in-101, in-102, in-103, in-104, in-105, in-106, in-107, in-108, in-109, in-110, in-111, in-112, in-113, in-114, in-115, in-116, in-119, in-120, in_default, in_default-kind}
use Rattle.kinds.proofs.listings.in_permitted.Goals as goal

abbrev lows : List ℕ
lows = DELAY-KW ∷ GATE-KW ∷ DEFCAL-KW ∷ CAL-KW ∷ DEFCALGRAMMAR-KW ∷ DEF-KW ∷ PRAGMA-KW ∷ INCLUDE-KW ∷ O-P-E-N-Q-A-S-M-KW ∷ MINUS ∷ BANG ∷ EQ ∷ COLON ∷ DOT ∷ UNDERSCORE ∷ PERCENT ∷ CARET ∷ SLASH ∷ STAR ∷ PLUS ∷ PIPE ∷ AMP ∷ DOLLAR ∷ QUESTION ∷ TILDE ∷ POUND ∷ AT ∷ R-ANGLE ∷ L-ANGLE ∷ R-BRACK ∷ L-BRACK ∷ R-CURLY ∷ L-CURLY ∷ R-PAREN ∷ L-PAREN ∷ COMMA ∷ SEMICOLON ∷ []

low : (c : goal.Then-kind-lt64) → c.match-kind.low ≡ one_of lows c.args.kind
unfolding one_of
low c =
    elim c.match-kind.branch [
      | in-3 w ↦ w.low-is ∙ arm lows SEMICOLON tt w.in-3.is
      | in-4 w ↦ w.low-is ∙ arm lows COMMA tt w.in-4.is
      | in-5 w ↦ w.low-is ∙ arm lows L-PAREN tt w.in-5.is
      | in-6 w ↦ w.low-is ∙ arm lows R-PAREN tt w.in-6.is
      | in-7 w ↦ w.low-is ∙ arm lows L-CURLY tt w.in-7.is
      | in-8 w ↦ w.low-is ∙ arm lows R-CURLY tt w.in-8.is
      | in-9 w ↦ w.low-is ∙ arm lows L-BRACK tt w.in-9.is
      | in-10 w ↦ w.low-is ∙ arm lows R-BRACK tt w.in-10.is
      | in-11 w ↦ w.low-is ∙ arm lows L-ANGLE tt w.in-11.is
      | in-12 w ↦ w.low-is ∙ arm lows R-ANGLE tt w.in-12.is
      | in-13 w ↦ w.low-is ∙ arm lows AT tt w.in-13.is
      | in-14 w ↦ w.low-is ∙ arm lows POUND tt w.in-14.is
      | in-15 w ↦ w.low-is ∙ arm lows TILDE tt w.in-15.is
      | in-16 w ↦ w.low-is ∙ arm lows QUESTION tt w.in-16.is
      | in-17 w ↦ w.low-is ∙ arm lows DOLLAR tt w.in-17.is
      | in-18 w ↦ w.low-is ∙ arm lows AMP tt w.in-18.is
      | in-19 w ↦ w.low-is ∙ arm lows PIPE tt w.in-19.is
      | in-20 w ↦ w.low-is ∙ arm lows PLUS tt w.in-20.is
      | in-21 w ↦ w.low-is ∙ arm lows STAR tt w.in-21.is
      | in-22 w ↦ w.low-is ∙ arm lows SLASH tt w.in-22.is
      | in-23 w ↦ w.low-is ∙ arm lows CARET tt w.in-23.is
      | in-24 w ↦ w.low-is ∙ arm lows PERCENT tt w.in-24.is
      | in-25 w ↦ w.low-is ∙ arm lows UNDERSCORE tt w.in-25.is
      | in-26 w ↦ w.low-is ∙ arm lows DOT tt w.in-26.is
      | in-30 w ↦ w.low-is ∙ arm lows COLON tt w.in-30.is
      | in-32 w ↦ w.low-is ∙ arm lows EQ tt w.in-32.is
      | in-35 w ↦ w.low-is ∙ arm lows BANG tt w.in-35.is
      | in-37 w ↦ w.low-is ∙ arm lows MINUS tt w.in-37.is
      | in-55 w ↦ w.low-is ∙ arm lows O-P-E-N-Q-A-S-M-KW tt w.in-55.is
      | in-56 w ↦ w.low-is ∙ arm lows INCLUDE-KW tt w.in-56.is
      | in-57 w ↦ w.low-is ∙ arm lows PRAGMA-KW tt w.in-57.is
      | in-58 w ↦ w.low-is ∙ arm lows DEF-KW tt w.in-58.is
      | in-59 w ↦ w.low-is ∙ arm lows DEFCALGRAMMAR-KW tt w.in-59.is
      | in-60 w ↦ w.low-is ∙ arm lows CAL-KW tt w.in-60.is
      | in-61 w ↦ w.low-is ∙ arm lows DEFCAL-KW tt w.in-61.is
      | in-62 w ↦ w.low-is ∙ arm lows GATE-KW tt w.in-62.is
      | in-63 w ↦ w.low-is ∙ arm lows DELAY-KW tt w.in-63.is
      | in_default w ↦ w.low-is ∙ none lows c.args.kind (search rules)
    ]

abbrev highs : List ℕ
highs = ANNOTATION ∷ PRAGMA ∷ HARDWAREIDENT ∷ IDENT ∷ ERROR ∷ ANGLE-TY ∷ STRETCH-TY ∷ DURATION-TY ∷ BIT-TY ∷ BOOL-TY ∷ COMPLEX-TY ∷ UINT-TY ∷ INT-TY ∷ FLOAT-TY ∷ BIT-STRING ∷ STRING ∷ BYTE ∷ CHAR ∷ FLOAT-NUMBER ∷ INT-NUMBER ∷ TRUE-KW ∷ FALSE-KW ∷ POW-KW ∷ INV-KW ∷ NEGCTRL-KW ∷ CTRL-KW ∷ ARRAY-KW ∷ VOID-KW ∷ QUBIT-KW ∷ CREG-KW ∷ QREG-KW ∷ MUTABLE-KW ∷ READONLY-KW ∷ OUTPUT-KW ∷ INPUT-KW ∷ DEFAULT-KW ∷ CASE-KW ∷ SWITCH-KW ∷ END-KW ∷ BREAK-KW ∷ RETURN-KW ∷ CONTINUE-KW ∷ WHILE-KW ∷ IN-KW ∷ FOR-KW ∷ ELSE-KW ∷ IF-KW ∷ GPHASE-KW ∷ BARRIER-KW ∷ CONST-KW ∷ EXTERN-KW ∷ BOX-KW ∷ LET-KW ∷ MEASURE-KW ∷ RESET-KW ∷ []

high : (c : goal.Else-kind-lt64) → c.match-kind-2.high ≡ one_of highs c.args.kind
unfolding one_of
high c =
    elim c.match-kind-2.branch [
      | in-64 w ↦ w.high-is ∙ arm highs RESET-KW tt w.in-64.is
      | in-65 w ↦ w.high-is ∙ arm highs MEASURE-KW tt w.in-65.is
      | in-66 w ↦ w.high-is ∙ arm highs LET-KW tt w.in-66.is
      | in-67 w ↦ w.high-is ∙ arm highs BOX-KW tt w.in-67.is
      | in-68 w ↦ w.high-is ∙ arm highs EXTERN-KW tt w.in-68.is
      | in-69 w ↦ w.high-is ∙ arm highs CONST-KW tt w.in-69.is
      | in-70 w ↦ w.high-is ∙ arm highs BARRIER-KW tt w.in-70.is
      | in-71 w ↦ w.high-is ∙ arm highs GPHASE-KW tt w.in-71.is
      | in-72 w ↦ w.high-is ∙ arm highs IF-KW tt w.in-72.is
      | in-73 w ↦ w.high-is ∙ arm highs ELSE-KW tt w.in-73.is
      | in-74 w ↦ w.high-is ∙ arm highs FOR-KW tt w.in-74.is
      | in-75 w ↦ w.high-is ∙ arm highs IN-KW tt w.in-75.is
      | in-76 w ↦ w.high-is ∙ arm highs WHILE-KW tt w.in-76.is
      | in-77 w ↦ w.high-is ∙ arm highs CONTINUE-KW tt w.in-77.is
      | in-78 w ↦ w.high-is ∙ arm highs RETURN-KW tt w.in-78.is
      | in-79 w ↦ w.high-is ∙ arm highs BREAK-KW tt w.in-79.is
      | in-80 w ↦ w.high-is ∙ arm highs END-KW tt w.in-80.is
      | in-81 w ↦ w.high-is ∙ arm highs SWITCH-KW tt w.in-81.is
      | in-82 w ↦ w.high-is ∙ arm highs CASE-KW tt w.in-82.is
      | in-83 w ↦ w.high-is ∙ arm highs DEFAULT-KW tt w.in-83.is
      | in-84 w ↦ w.high-is ∙ arm highs INPUT-KW tt w.in-84.is
      | in-85 w ↦ w.high-is ∙ arm highs OUTPUT-KW tt w.in-85.is
      | in-86 w ↦ w.high-is ∙ arm highs READONLY-KW tt w.in-86.is
      | in-87 w ↦ w.high-is ∙ arm highs MUTABLE-KW tt w.in-87.is
      | in-88 w ↦ w.high-is ∙ arm highs QREG-KW tt w.in-88.is
      | in-89 w ↦ w.high-is ∙ arm highs CREG-KW tt w.in-89.is
      | in-90 w ↦ w.high-is ∙ arm highs QUBIT-KW tt w.in-90.is
      | in-91 w ↦ w.high-is ∙ arm highs VOID-KW tt w.in-91.is
      | in-92 w ↦ w.high-is ∙ arm highs ARRAY-KW tt w.in-92.is
      | in-93 w ↦ w.high-is ∙ arm highs CTRL-KW tt w.in-93.is
      | in-94 w ↦ w.high-is ∙ arm highs NEGCTRL-KW tt w.in-94.is
      | in-95 w ↦ w.high-is ∙ arm highs INV-KW tt w.in-95.is
      | in-96 w ↦ w.high-is ∙ arm highs POW-KW tt w.in-96.is
      | in-97 w ↦ w.high-is ∙ arm highs FALSE-KW tt w.in-97.is
      | in-98 w ↦ w.high-is ∙ arm highs TRUE-KW tt w.in-98.is
      | in-99 w ↦ w.high-is ∙ arm highs INT-NUMBER tt w.in-99.is
      | in-100 w ↦ w.high-is ∙ arm highs FLOAT-NUMBER tt w.in-100.is
      | in-101 w ↦ w.high-is ∙ arm highs CHAR tt w.in-101.is
      | in-102 w ↦ w.high-is ∙ arm highs BYTE tt w.in-102.is
      | in-103 w ↦ w.high-is ∙ arm highs STRING tt w.in-103.is
      | in-104 w ↦ w.high-is ∙ arm highs BIT-STRING tt w.in-104.is
      | in-105 w ↦ w.high-is ∙ arm highs FLOAT-TY tt w.in-105.is
      | in-106 w ↦ w.high-is ∙ arm highs INT-TY tt w.in-106.is
      | in-107 w ↦ w.high-is ∙ arm highs UINT-TY tt w.in-107.is
      | in-108 w ↦ w.high-is ∙ arm highs COMPLEX-TY tt w.in-108.is
      | in-109 w ↦ w.high-is ∙ arm highs BOOL-TY tt w.in-109.is
      | in-110 w ↦ w.high-is ∙ arm highs BIT-TY tt w.in-110.is
      | in-111 w ↦ w.high-is ∙ arm highs DURATION-TY tt w.in-111.is
      | in-112 w ↦ w.high-is ∙ arm highs STRETCH-TY tt w.in-112.is
      | in-113 w ↦ w.high-is ∙ arm highs ANGLE-TY tt w.in-113.is
      | in-114 w ↦ w.high-is ∙ arm highs ERROR tt w.in-114.is
      | in-115 w ↦ w.high-is ∙ arm highs IDENT tt w.in-115.is
      | in-116 w ↦ w.high-is ∙ arm highs HARDWAREIDENT tt w.in-116.is
      | in-119 w ↦ w.high-is ∙ arm highs PRAGMA tt w.in-119.is
      | in-120 w ↦ w.high-is ∙ arm highs ANNOTATION tt w.in-120.is
      | in_default-kind w ↦ w.high-is ∙ none highs c.args.kind (search rules)
    ]

pub returns-then-kind-lt64 : goal.returns-then-kind-lt64
unfolding one_of within from below
returns-then-kind-lt64 c = chosen-low lows highs PERMITTED tt tt c.args.kind c.if-kind-lt64.true (low c)

pub returns-else-kind-lt64 : goal.returns-else-kind-lt64
unfolding one_of within from below
returns-else-kind-lt64 c = chosen-high lows highs PERMITTED tt tt c.args.kind c.if-kind-lt64.false (high c)
