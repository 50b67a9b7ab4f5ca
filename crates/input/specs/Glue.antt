-- Which kinds are glued of two or three tokens, and when these stand at a position: `nth_at`, `at_composite2` and
-- `at_composite3` of src/parser.rs. Assumes nothing: these are definitions.
use Rattle.std.specs.Prelude.{List, [], ◌∷◌, Bool, true, false, cond, ℕ, ◌+◌, eqb}
use Rattle.kinds.specs.Kinds.{AMP, AMP2, AMPEQ, BANG, CARET, CARETEQ, COLON, COLON2, DOT, DOT2, DOT2EQ, DOT3, DOUBLE-PLUS, EQ, EQ2, FAT-ARROW, GTEQ, L-ANGLE, LTEQ, MINUS, MINUSEQ, NEQ, PERCENT, PERCENTEQ, PIPE, PIPE2, PIPEEQ, PLUS, PLUSEQ, R-ANGLE, SHL, SHLEQ, SHR, SHREQ, SLASH, SLASHEQ, STAR, STAREQ, THIN-ARROW}
use Rattle.kinds.specs.Membership.{both}
use Rattle.input.specs.declared.Parts.{Parts}
use Rattle.input.specs.declared.Parts.TheVariants.{One, Two, Three}
use Rattle.input.specs.Input.{Env, is_joint, seen}

-- the arms of `nth_at`, in its order: a kind, and what it is glued of
abbrev pub glued_kinds : List (ℕ × Parts)
glued_kinds =
    (MINUSEQ, Two MINUS EQ)
    ∷ (THIN-ARROW, Two MINUS R-ANGLE)
    ∷ (COLON2, Two COLON COLON)
    ∷ (NEQ, Two BANG EQ)
    ∷ (DOT2, Two DOT DOT)
    ∷ (STAREQ, Two STAR EQ)
    ∷ (SLASHEQ, Two SLASH EQ)
    ∷ (AMP2, Two AMP AMP)
    ∷ (AMPEQ, Two AMP EQ)
    ∷ (PERCENTEQ, Two PERCENT EQ)
    ∷ (CARETEQ, Two CARET EQ)
    ∷ (PLUSEQ, Two PLUS EQ)
    ∷ (DOUBLE-PLUS, Two PLUS PLUS)
    ∷ (SHL, Two L-ANGLE L-ANGLE)
    ∷ (LTEQ, Two L-ANGLE EQ)
    ∷ (EQ2, Two EQ EQ)
    ∷ (FAT-ARROW, Two EQ R-ANGLE)
    ∷ (GTEQ, Two R-ANGLE EQ)
    ∷ (SHR, Two R-ANGLE R-ANGLE)
    ∷ (PIPEEQ, Two PIPE EQ)
    ∷ (PIPE2, Two PIPE PIPE)
    ∷ (DOT3, Three DOT DOT DOT)
    ∷ (DOT2EQ, Three DOT DOT EQ)
    ∷ (SHLEQ, Three L-ANGLE L-ANGLE EQ)
    ∷ (SHREQ, Three R-ANGLE R-ANGLE EQ)
    ∷ []

abbrev pub parts_in : ℕ → List (ℕ × Parts) → Parts
parts_in k [] = One k
parts_in k (g ∷ gs) = cond (eqb k g.0) g.1 (parts_in k gs)

-- what a kind is made of: the last arm of `nth_at` is a kind of one token
unfoldable pub parts_of : ℕ → Parts
parts_of k = parts_in k glued_kinds

-- whether that is one token
abbrev pub is_one : Parts → Bool
is_one (One a) = true
is_one (Two a b) = false
is_one (Three a b c) = false

-- `n_raw_tokens` of `eat`
abbrev pub raw_count : Parts → ℕ
raw_count (One a) = 1
raw_count (Two a b) = 2
raw_count (Three a b c) = 3

-- two kinds, the first joint
abbrev pub at_composite2 : Env → ℕ → ℕ → ℕ → ℕ → Bool
at_composite2 e r i k1 k2 =
    both (eqb (seen e.kinds r i) k1) (both (eqb (seen e.kinds r (i + 1)) k2) (is_joint e.joints i))

-- three kinds, the first two joint
abbrev pub at_composite3 : Env → ℕ → ℕ → ℕ → ℕ → ℕ → Bool
at_composite3 e r i k1 k2 k3 =
    both (eqb (seen e.kinds r i) k1)
    (both (eqb (seen e.kinds r (i + 1)) k2)
    (both (eqb (seen e.kinds r (i + 2)) k3) (both (is_joint e.joints i) (is_joint e.joints (i + 1)))))

-- whether the tokens at position i are these parts, in a run with refusal r; one kind ignores joint bits
unfoldable pub stands_at : Env → ℕ → ℕ → Parts → Bool
stands_at e r i (One k1) = eqb (seen e.kinds r i) k1
stands_at e r i (Two k1 k2) = at_composite2 e r i k1 k2
stands_at e r i (Three k1 k2 k3) = at_composite3 e r i k1 k2 k3
