-- What is read: src/input.rs. Assumes nothing: these are definitions.
use Rattle.std.specs.Prelude.{List, Bool, cond, ℕ, eqb, get_or}
use Rattle.kinds.specs.Kinds.{EOF}
use Rattle.kinds.specs.Membership.{bit}

-- `Input`: the tokens' kinds, and the words of their joint bits
pub record Env : Type 0 where
  pub kinds : List ℕ
  pub joints : List ℕ

-- docs/RULES.md section 1: at most so many tokens are consumed
abbrev pub most_tokens : ℕ
most_tokens = 8192

abbrev pub env : List ℕ → List ℕ → Env
env kinds joints = record { kinds = kinds; joints = joints }

-- `Input::kind`: beyond the last token every kind is EOF
abbrev pub kind : List ℕ → ℕ → ℕ
kind kinds i = get_or kinds i EOF

-- `Input::is_joint`: bit i mod 64 of word i / 64, lowest first
abbrev pub is_joint : List ℕ → ℕ → Bool
is_joint joints n = bit joints n

-- the kind at a position in a run with this refusal: once it is not 0, every look answers EOF
unfoldable pub seen : List ℕ → ℕ → ℕ → ℕ
seen kinds refused i = cond (eqb refused 0) (kind kinds i) EOF
