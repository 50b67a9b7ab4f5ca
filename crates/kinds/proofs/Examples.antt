-- How many names the crate's text has for each fixed set, and how many kinds it has, computed; docs/SETS.md has the same numbers. Written by
-- tools/lists; ./check compares it with the source. Assumes nothing.
use mathlib.Core.Path.{◌≡◌, refl}
use mathlib.Core.List.{List, [], ◌∷◌, map}
use Prim.Native.Nat.{ℕ}
use lib.ListN.{length}
use Rattle.kinds.specs.Membership.{one_of, once}
use Rattle.kinds.specs.Sets.{kinds_of}
use Rattle.kinds.specs.declared.sets.Fixed.{Fixed}
use Rattle.kinds.specs.declared.sets.Fixed.TheVariants.{Empty, PathFirst, LiteralFirst, TimingLiteralFirst, AtomExprFirst, ExprRecoverySet, ExprFirst, PatternFirst, TypeFirst, ParamFirst, ItemRecoverySet, ScalarTypes, ClassicalTypes, QuantumTypes, Types, Permitted, QubitFirst, PrefixOps, CastNext, Assignable, Unindexed, ArrayBases, NoIntegers}

fixed : List Fixed
fixed =
    Empty ∷ PathFirst ∷ LiteralFirst ∷ TimingLiteralFirst ∷ AtomExprFirst ∷ ExprRecoverySet ∷ ExprFirst
    ∷ PatternFirst ∷ TypeFirst ∷ ParamFirst ∷ ItemRecoverySet ∷ ScalarTypes ∷ ClassicalTypes ∷ QuantumTypes ∷ Types
    ∷ Permitted ∷ QubitFirst ∷ PrefixOps ∷ CastNext ∷ Assignable ∷ Unindexed ∷ ArrayBases ∷ NoIntegers ∷ []

-- names, kinds
numbers : List (ℕ × ℕ)
numbers =
    (0, 0) ∷ (4, 4) ∷ (8, 8) ∷ (2, 2) ∷ (29, 29) ∷ (2, 2) ∷ (35, 35) ∷ (20, 20) ∷ (12, 11) ∷ (32, 23) ∷ (12, 12)
    ∷ (9, 9) ∷ (10, 10) ∷ (2, 2) ∷ (12, 12) ∷ (92, 92) ∷ (2, 2) ∷ (3, 3) ∷ (2, 2) ∷ (2, 2) ∷ (3, 3) ∷ (7, 7) ∷ (5, 5)
    ∷ []

table : map (λ (s : Fixed). (length (kinds_of s), length (once (kinds_of s)))) fixed ≡ numbers
unfolding fixed numbers once one_of
table = refl
