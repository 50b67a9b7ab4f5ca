-- How the steps of a good file nest (docs/RULES.md, section 7): the depth is above zero after each of them but the last, and then zero.
use Rattle.std.specs.Prelude.{ℕ, zero, suc, Bool, true, false, List, [], ◌∷◌, Option, Some, None}
use Rattle.records.specs.declared.Step.{Step}
use Rattle.records.specs.declared.Step.TheVariants.{Enter, Leave, Token, Error, Expected}

-- the nodes open past a step, of o open before it; none can be left where none is open
abbrev pub after : ℕ → Step → Option ℕ
after o (Enter k) = Some (suc o)
after zero Leave = None
after (suc o) Leave = Some o
after o (Token k n) = Some o
after o (Error c x) = Some o
after o (Expected k f) = Some o

-- the same for a record with r before it: only the first may begin where no node is open
unfoldable pub nest : ℕ → ℕ → Step → Option ℕ
nest zero o s = after o s
nest (suc r) zero s = None
nest (suc r) (suc o) s = after (suc o) s

abbrev pub on_nodes : {A : Type 0} → Option ℕ → (ℕ → A) → A → A
on_nodes (Some o) go fault = go o
on_nodes None go fault = fault

-- whether steps with r before them and o nodes open go on so, and end with none open and one step at least
unfoldable pub nests : ℕ → ℕ → List Step → Bool
nests zero o [] = false
nests (suc r) zero [] = true
nests (suc r) (suc o) [] = false
nests r o (s ∷ ss) = on_nodes (nest r o s) (λ p. nests (suc r) p ss) false
