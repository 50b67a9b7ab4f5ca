-- What only contracts of functions inside say. Assumes nothing: these are definitions.
use Rattle.std.specs.Prelude.{◌≡◌, Bool, List, ℕ, suc, ◌≤◌, get_or, Option, None, Some}
use Rattle.lex.specs.Lexing.{put_bit}

-- no `*/` begins at the place or behind it
pub record NoClose (text : List ℕ) (place : ℕ) : Type 0 where
  pub none : (k : ℕ) → place ≤ k → get_or text k 0 ≡ 42 → get_or text (suc k) 0 ≡ 47 → ⊥

-- the joint bit of the kind that waits for it, where one does
abbrev pub joined : Option ℕ → Bool → List ℕ → List ℕ
joined None b joints = joints
joined (Some i) b joints = put_bit joints i b
