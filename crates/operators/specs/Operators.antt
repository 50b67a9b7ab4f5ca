-- The operators: fn current_op of src/grammar/expressions.rs, line 167, and the powers of both modes (docs/RULES.md, section 8).
-- Assumes nothing: these are definitions.
use Rattle.std.specs.Prelude.{◌≡◌, List, [], ◌∷◌, ◌++◌, Bool, true, false, cond, ℕ, zero, suc, ◌+◌, ◌-◌, ◌*◌, ◌≤◌, ◌<◌, eqb, get_or}
use Rattle.kinds.specs.Membership.{one_of}
use Rattle.kinds.specs.Kinds.{PIPE, PIPE2, PIPEEQ, R-ANGLE, SHREQ, SHR, GTEQ, EQ, FAT-ARROW, EQ2, L-ANGLE, LTEQ, SHLEQ, SHL, PLUS, PLUSEQ, DOUBLE-PLUS, CARET, CARETEQ, PERCENT, PERCENTEQ, AMP, AMPEQ, AMP2, SLASH, SLASHEQ, STAR, STAREQ, DOT, DOT2EQ, DOT2, DOT3, BANG, NEQ, MINUS, MINUSEQ}
use Rattle.runtime.specs.Acts.{Acts, Acts.done, ◌>>=◌, at, current}
use Rattle.operators.specs.declared.Op.{Op}

-- What may stand at a kind: the glued operators in the order in which they are tried, and what it is without one. `...` stands for
-- no operator, as in the crate; so does `=>`.
pub record Guards : Type 0 where
  pub first : ℕ
  pub tried : List ℕ
  pub plain : ℕ

abbrev pub guards : ℕ → List ℕ → ℕ → Guards
guards first tried plain = record { first = first; tried = tried; plain = plain }

-- the arms of current_op, in their order
abbrev pub arms : List Guards
arms =
    guards PIPE (PIPE2 ∷ PIPEEQ ∷ []) PIPE
    ∷ guards R-ANGLE (SHREQ ∷ SHR ∷ GTEQ ∷ []) R-ANGLE
    ∷ guards EQ (FAT-ARROW ∷ EQ2 ∷ []) EQ
    ∷ guards L-ANGLE (LTEQ ∷ SHLEQ ∷ SHL ∷ []) L-ANGLE
    ∷ guards PLUS (PLUSEQ ∷ DOUBLE-PLUS ∷ []) PLUS
    ∷ guards CARET (CARETEQ ∷ []) CARET
    ∷ guards PERCENT (PERCENTEQ ∷ []) PERCENT
    ∷ guards AMP (AMPEQ ∷ AMP2 ∷ []) AMP
    ∷ guards SLASH (SLASHEQ ∷ []) SLASH
    ∷ guards STAR (STAREQ ∷ []) STAR
    ∷ guards DOT (DOT2EQ ∷ DOT2 ∷ []) DOT3
    ∷ guards BANG (NEQ ∷ []) DOT3
    ∷ guards MINUS (MINUSEQ ∷ []) MINUS
    ∷ []

-- the first of the kinds that stands here, else the plain one: no lookup
abbrev pub first_at : List ℕ → ℕ → Acts ℕ
first_at [] plain = done plain
first_at (k ∷ ks) plain = do
  b ← at k
  cond b (done k) (first_at ks plain)

-- what some arms can find
abbrev pub finds : List Guards → List ℕ
finds [] = []
finds (g ∷ gs) = g.tried ++ g.plain ∷ finds gs

abbrev pub arm_of : List Guards → ℕ → Acts ℕ
arm_of [] k = done DOT3
arm_of (g ∷ gs) k = cond (eqb k g.first) (first_at g.tried g.plain) (arm_of gs k)

-- An operator's power, and the least power of its right side: one more where it is left, the same where it is right.
pub record Power : Type 0 where
  pub power : ℕ
  pub next : ℕ

abbrev pub left : ℕ → Power
left n = record { power = n; next = n + 1 }

abbrev pub right : ℕ → Power
right n = record { power = n; next = n }

-- a table of powers; power 0 is no operator
abbrev pub Table : Type 0
Table = ℕ → Power

-- the operators that are left
abbrev pub left_operators : List ℕ
left_operators =
    STAR ∷ SLASH ∷ PERCENT ∷ PLUS ∷ MINUS ∷ SHL ∷ SHR ∷ L-ANGLE ∷ LTEQ ∷ R-ANGLE ∷ GTEQ ∷ EQ2 ∷ NEQ ∷ AMP ∷ CARET ∷ PIPE ∷ AMP2 ∷ PIPE2
    ∷ DOUBLE-PLUS ∷ DOT2 ∷ DOT2EQ ∷ []

-- those that are right
abbrev pub assignments : List ℕ
assignments = EQ ∷ PIPEEQ ∷ SHREQ ∷ SHLEQ ∷ PLUSEQ ∷ CARETEQ ∷ PERCENTEQ ∷ AMPEQ ∷ SLASHEQ ∷ STAREQ ∷ MINUSEQ ∷ []

abbrev pub operators : List ℕ
operators = left_operators ++ assignments

-- how far above its operator's power a right side is read
abbrev pub side : ℕ → ℕ
side k = cond (one_of assignments k) 0 1

-- The facts about a table, whichever it is: what is no operator has power 0, each operator has one from 1 to 254, and a right side is read
-- at its operator's power + 1 or, where that is an assignment, at its power.
pub record Fair (ops : Table) : Type 0 where
  pub none : (k : ℕ) → one_of operators k ≡ false → (ops k).power ≡ 0
  pub least : (k : ℕ) → one_of operators k ≡ true → 1 ≤ (ops k).power
  pub most : (k : ℕ) → (ops k).power ≤ 254
  pub right_side : (k : ℕ) → (ops k).next ≡ (ops k).power + side k

-- The specification's order of its binary operators, tightest first; `**` is none of the crate's.
abbrev pub specification_lines : List (List ℕ)
specification_lines =
    (STAR ∷ SLASH ∷ PERCENT ∷ [])
    ∷ (PLUS ∷ MINUS ∷ [])
    ∷ (SHL ∷ SHR ∷ [])
    ∷ (L-ANGLE ∷ LTEQ ∷ R-ANGLE ∷ GTEQ ∷ [])
    ∷ (EQ2 ∷ NEQ ∷ [])
    ∷ (AMP ∷ [])
    ∷ (CARET ∷ [])
    ∷ (PIPE ∷ [])
    ∷ (AMP2 ∷ [])
    ∷ (PIPE2 ∷ [])
    ∷ []

-- an operator stands on a line, counted from 0
abbrev pub stands : List (List ℕ) → ℕ → ℕ → Bool
stands lines i = one_of (get_or lines i [])

-- A table follows an order: one power on a line, and a greater one on each line above.
pub record Follows (lines : List (List ℕ)) (ops : Table) : Type 0 where
  pub alike : (i a b : ℕ) → stands lines i a ≡ true → stands lines i b ≡ true → (ops a).power ≡ (ops b).power
  pub tighter : (i j a b : ℕ) → i < j → stands lines i a ≡ true → stands lines j b ≡ true → (ops b).power < (ops a).power

abbrev pub listed : List (ℕ × Power) → Table
listed [] k = left 0
listed (r ∷ rs) k = cond (eqb k r.0) r.1 (listed rs k)

-- mode 0: as current_op has them
abbrev pub crate_order : List (ℕ × Power)
crate_order =
    (PIPE2, left 3) ∷ (PIPEEQ, right 1) ∷ (PIPE, left 6)
    ∷ (SHREQ, right 1) ∷ (SHR, left 9) ∷ (GTEQ, left 5) ∷ (R-ANGLE, left 5)
    ∷ (EQ2, left 5) ∷ (EQ, right 12)
    ∷ (LTEQ, left 5) ∷ (SHLEQ, right 1) ∷ (SHL, left 9) ∷ (L-ANGLE, left 5)
    ∷ (PLUSEQ, right 1) ∷ (DOUBLE-PLUS, left 2) ∷ (PLUS, left 10)
    ∷ (CARETEQ, right 1) ∷ (CARET, left 7)
    ∷ (PERCENTEQ, right 1) ∷ (PERCENT, left 11)
    ∷ (AMPEQ, right 1) ∷ (AMP2, left 4) ∷ (AMP, left 8)
    ∷ (SLASHEQ, right 1) ∷ (SLASH, left 11)
    ∷ (STAREQ, right 1) ∷ (STAR, left 11)
    ∷ (DOT2EQ, left 2) ∷ (DOT2, left 2)
    ∷ (NEQ, left 5)
    ∷ (MINUSEQ, right 1) ∷ (MINUS, left 10)
    ∷ []

-- mode 1: the order of the OpenQASM 3 specification, the rest as mode 0
abbrev pub specification_order : List (ℕ × Power)
specification_order =
    (STAR, left 18) ∷ (SLASH, left 18) ∷ (PERCENT, left 18)
    ∷ (PLUS, left 16) ∷ (MINUS, left 16)
    ∷ (SHL, left 14) ∷ (SHR, left 14)
    ∷ (L-ANGLE, left 12) ∷ (LTEQ, left 12) ∷ (R-ANGLE, left 12) ∷ (GTEQ, left 12)
    ∷ (EQ2, left 11) ∷ (NEQ, left 11)
    ∷ (AMP, left 10)
    ∷ (CARET, left 8)
    ∷ (PIPE, left 6)
    ∷ (AMP2, left 4)
    ∷ (PIPE2, left 3)
    ∷ (EQ, right 20)
    ∷ crate_order

-- the rows of a mode, and its table
abbrev pub rows_of : ℕ → List (ℕ × Power)
rows_of zero = crate_order
rows_of (suc n) = specification_order

unfoldable pub table_of : ℕ → Table
table_of mode = listed (rows_of mode)

-- a power in one number, as the code has it: one more than its double where it is right
abbrev pub packed : Power → ℕ
packed q = 2 * q.power + (q.power + 1 - q.next)

-- fn current_op, line 167: one lookup, and what stands there under a table
-- runs: expr `a`, expr `a||b&&c==d!=e<f>g<=h>=i|j^k&l<<m>>n+o-p*q/r%s`, expr `a|=b>>=c<<=d+=e^=f%=g&=h/=i*=j-=k=l`, expr `a++b..c..=d`, expr `a=>b`
-- breaks: never
unfoldable pub current_op : Table → Acts Op
current_op ops = do
  k ← current
  op ← arm_of arms k
  done (record { power = (ops op).power; kind = op; next = (ops op).next })
