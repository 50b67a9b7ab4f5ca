-- A file read one step after the other (docs/RULES.md, section 7), and what a reader who does so can say of the whole.
use Rattle.std.specs.Prelude.{ℕ, zero, suc, ◌+◌, List, [], ◌∷◌, length}
use Rattle.records.specs.declared.Step.{Step}
use Rattle.records.specs.Record.{record_of}
use Rattle.stepfile.specs.Front.{Found, front, behind}
use Rattle.stepfile.specs.Answer.{Numbers, refuses}
use Rattle.stepfile.specs.Nesting.{nest, on_nodes}
use Rattle.stepfile.specs.File.{ended, on_found}

-- the steps, each at the front of what the one before it left, and what is left where no step stands
pub record Walked : Type 0 where
  pub steps : List Step
  pub rest : List ℕ

abbrev first : Step → Walked → Walked
first s w = record { steps = s ∷ w.steps; rest = w.rest }

abbrev none : List ℕ → Walked
none bs = record { steps = []; rest = bs }

unfoldable pub walked_in : ℕ → List ℕ → Walked
walked_in zero bs = none bs
walked_in (suc n) bs = on_found (front bs) (λ s. first s (walked_in n (behind bs))) (none bs) (none bs) (none bs)

abbrev pub walked : List ℕ → Walked
walked bs = walked_in (length bs) bs

-- The whole, from the steps and what stands where they end: the first record that breaks the nesting, or the end.
unfoldable pub judged : ℕ → ℕ → ℕ → List Step → Found → Numbers
judged at r o [] f = on_found f (λ _. ended at r o) (ended at r o) (refuses 11 at) (refuses 12 at)
judged at r o (s ∷ ss) f = on_nodes (nest r o s) (λ p. judged (at + length (record_of s)) (suc r) p ss f) (refuses 13 at)
