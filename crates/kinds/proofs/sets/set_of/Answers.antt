-- `set_of` meets its contract: at each name the words hold what is listed, by one law and a test that antt computes over all kinds.
-- Written by tools/lists; ./check compares it with the source. Assumes nothing.
use mathlib.Core.List.{[], ◌∷◌}
use Rattle.kinds.specs.Membership.{bit, one_of}
use Rattle.kinds.specs.Sets.{ARRAY-BASES, ASSIGNABLE, ATOM-EXPR-FIRST, CAST-NEXT, CLASSICAL-TYPES, EMPTY, EXPR-FIRST, EXPR-RECOVERY-SET, ITEM-RECOVERY-SET, LITERAL-FIRST, NO-INTEGERS, PARAM-FIRST, PATH-FIRST, PATTERN-FIRST, PERMITTED, PREFIX-OPS, QUANTUM-TYPES, QUBIT-FIRST, SCALAR-TYPES, TIMING-LITERAL-FIRST, TYPE-FIRST, TYPES, UNINDEXED}
use Rattle.kinds.proofs.Laws.{exactly, agree, below}
use Rattle.kinds.proofs.sets.set_of.Goals as goal

pub returns-in-Empty : goal.returns-in-Empty
unfolding bit one_of agree below
returns-in-Empty c = rw c.in-Empty.is (exactly (0x0 ∷ 0x0 ∷ 0x0 ∷ 0x0 ∷ []) EMPTY tt)

pub returns-in-PathFirst : goal.returns-in-PathFirst
unfolding bit one_of agree below
returns-in-PathFirst c = rw c.in-PathFirst.is (exactly (0x40000800 ∷ 0x18000000000000 ∷ 0x0 ∷ 0x0 ∷ []) PATH-FIRST tt)

pub returns-in-LiteralFirst : goal.returns-in-LiteralFirst
unfolding bit one_of agree below
returns-in-LiteralFirst c = rw c.in-LiteralFirst.is (exactly (0x0 ∷ 0x1fe00000000 ∷ 0x0 ∷ 0x0 ∷ []) LITERAL-FIRST tt)

pub returns-in-TimingLiteralFirst : goal.returns-in-TimingLiteralFirst
unfolding bit one_of agree below
returns-in-TimingLiteralFirst c = rw c.in-TimingLiteralFirst.is (exactly (0x0 ∷ 0x1800000000 ∷ 0x0 ∷ 0x0 ∷ []) TIMING-LITERAL-FIRST tt)

pub returns-in-AtomExprFirst : goal.returns-in-AtomExprFirst
unfolding bit one_of agree below
returns-in-AtomExprFirst c = rw c.in-AtomExprFirst.is (exactly (0x40080aa0 ∷ 0x1801ffe00055ae ∷ 0x0 ∷ 0x0 ∷ []) ATOM-EXPR-FIRST tt)

pub returns-in-ExprRecoverySet : goal.returns-in-ExprRecoverySet
unfolding bit one_of agree below
returns-in-ExprRecoverySet c = rw c.in-ExprRecoverySet.is (exactly (0x440 ∷ 0x0 ∷ 0x0 ∷ 0x0 ∷ []) EXPR-RECOVERY-SET tt)

pub returns-in-ExprFirst : goal.returns-in-ExprFirst
unfolding bit one_of agree below
returns-in-ExprFirst c = rw c.in-ExprFirst.is (exactly (0x28462c0aa0 ∷ 0x1801ffe00055ae ∷ 0x0 ∷ 0x0 ∷ []) EXPR-FIRST tt)

pub returns-in-PatternFirst : goal.returns-in-PatternFirst
unfolding bit one_of agree below
returns-in-PatternFirst c = rw c.in-PatternFirst.is (exactly (0x2046040a20 ∷ 0x1801fe00000028 ∷ 0x0 ∷ 0x0 ∷ []) PATTERN-FIRST tt)

pub returns-in-TypeFirst : goal.returns-in-TypeFirst
unfolding bit one_of agree below
returns-in-TypeFirst c = rw c.in-TypeFirst.is (exactly (0x842240a20 ∷ 0x18000000000010 ∷ 0x0 ∷ 0x0 ∷ []) TYPE-FIRST tt)

pub returns-in-ParamFirst : goal.returns-in-ParamFirst
unfolding bit one_of agree below
returns-in-ParamFirst c = rw c.in-ParamFirst.is (exactly (0x2846240a20 ∷ 0x1801fe00000038 ∷ 0x0 ∷ 0x0 ∷ []) PARAM-FIRST tt)

pub returns-in-ItemRecoverySet : goal.returns-in-ItemRecoverySet
unfolding bit one_of agree below
returns-in-ItemRecoverySet c = rw c.in-ItemRecoverySet.is (exactly (0x7d80000000000008 ∷ 0x65 ∷ 0x0 ∷ 0x0 ∷ []) ITEM-RECOVERY-SET tt)

pub returns-in-ScalarTypes : goal.returns-in-ScalarTypes
unfolding bit one_of agree below
returns-in-ScalarTypes c = rw c.in-ScalarTypes.is (exactly (0x0 ∷ 0x3fe0000000000 ∷ 0x0 ∷ 0x0 ∷ []) SCALAR-TYPES tt)

pub returns-in-ClassicalTypes : goal.returns-in-ClassicalTypes
unfolding bit one_of agree below
returns-in-ClassicalTypes c = rw c.in-ClassicalTypes.is (exactly (0x0 ∷ 0x3fe0010000000 ∷ 0x0 ∷ 0x0 ∷ []) CLASSICAL-TYPES tt)

pub returns-in-QuantumTypes : goal.returns-in-QuantumTypes
unfolding bit one_of agree below
returns-in-QuantumTypes c = rw c.in-QuantumTypes.is (exactly (0x0 ∷ 0x4000000 ∷ 0x2000000000000000 ∷ 0x0 ∷ []) QUANTUM-TYPES tt)

pub returns-in-Types : goal.returns-in-Types
unfolding bit one_of agree below
returns-in-Types c = rw c.in-Types.is (exactly (0x0 ∷ 0x3fe0014000000 ∷ 0x2000000000000000 ∷ 0x0 ∷ []) TYPES tt)

pub returns-in-Permitted : goal.returns-in-Permitted
unfolding bit one_of agree below
returns-in-Permitted c = rw c.in-Permitted.is (exactly (0xff80002947fffff8 ∷ 0x19fffffffffffff ∷ 0x0 ∷ 0x0 ∷ []) PERMITTED tt)

pub returns-in-QubitFirst : goal.returns-in-QubitFirst
unfolding bit one_of agree below
returns-in-QubitFirst c = rw c.in-QubitFirst.is (exactly (0x0 ∷ 0x18000000000000 ∷ 0x0 ∷ 0x0 ∷ []) QUBIT-FIRST tt)

pub returns-in-PrefixOps : goal.returns-in-PrefixOps
unfolding bit one_of agree below
returns-in-PrefixOps c = rw c.in-PrefixOps.is (exactly (0x2800008000 ∷ 0x0 ∷ 0x0 ∷ 0x0 ∷ []) PREFIX-OPS tt)

pub returns-in-CastNext : goal.returns-in-CastNext
unfolding bit one_of agree below
returns-in-CastNext c = rw c.in-CastNext.is (exactly (0x220 ∷ 0x0 ∷ 0x0 ∷ 0x0 ∷ []) CAST-NEXT tt)

pub returns-in-Assignable : goal.returns-in-Assignable
unfolding bit one_of agree below
returns-in-Assignable c = rw c.in-Assignable.is (exactly (0x0 ∷ 0x0 ∷ 0xc00000000000000 ∷ 0x0 ∷ []) ASSIGNABLE tt)

pub returns-in-Unindexed : goal.returns-in-Unindexed
unfolding bit one_of agree below
returns-in-Unindexed c = rw c.in-Unindexed.is (exactly (0x0 ∷ 0x0 ∷ 0x2000000200000040 ∷ 0x0 ∷ []) UNINDEXED tt)

pub returns-in-ArrayBases : goal.returns-in-ArrayBases
unfolding bit one_of agree below
returns-in-ArrayBases c = rw c.in-ArrayBases.is (exactly (0x0 ∷ 0x2be0000000000 ∷ 0x0 ∷ 0x0 ∷ []) ARRAY-BASES tt)

pub returns-in-NoIntegers : goal.returns-in-NoIntegers
unfolding bit one_of agree below
returns-in-NoIntegers c = rw c.in-NoIntegers.is (exactly (0x0 ∷ 0x1f000000000 ∷ 0x0 ∷ 0x0 ∷ []) NO-INTEGERS tt)
