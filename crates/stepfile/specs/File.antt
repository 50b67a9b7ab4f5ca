-- A whole step file, record by record (docs/RULES.md, sections 3 and 7): at each record 11, then 12, then 13.
use Rattle.std.specs.Prelude.{ℕ, zero, suc, ◌+◌, List, length, drop, Some, None, Ok, Err}
use Rattle.records.specs.declared.Step.{Step}
use Rattle.records.specs.Record.{record_of}
use Rattle.stepfile.specs.Front.{Found}
use Rattle.stepfile.specs.declared.Fault.TheVariants.{Cut, Unsound}
use Rattle.stepfile.specs.Front.{front}
use Rattle.stepfile.specs.Answer.{Numbers, says, refuses}
use Rattle.stepfile.specs.Nesting.{nest, on_nodes}

-- at the end, with r records before it and o nodes open: good with a record at least and no node open
unfoldable pub ended : ℕ → ℕ → ℕ → Numbers
ended at zero o = refuses 13 at
ended at (suc r) zero = says 0 at (suc r)
ended at (suc r) (suc o) = refuses 13 at

abbrev pub on_found : {A : Type 0} → Found → (Step → A) → A → A → A → A
on_found (Ok (Some s)) go end cut unsound = go s
on_found (Ok None) go end cut unsound = end
on_found (Err Cut) go end cut unsound = cut
on_found (Err Unsound) go end cut unsound = unsound

-- What is left of a file, with its place, the records before it and the nodes open there. A round reads a record.
unfoldable pub walk : ℕ → List ℕ → ℕ → ℕ → ℕ → Numbers
walk zero bs at r o = ended at r o
walk (suc n) bs at r o =
    on_found (front bs)
    (λ s. on_nodes (nest r o s) (λ p. walk n (drop (length (record_of s)) bs) (at + length (record_of s)) (suc r) p) (refuses 13 at))
    (ended at r o)
    (refuses 11 at)
    (refuses 12 at)

-- As many rounds as bytes are enough: a record has four at least (`rounds` in proofs/Walks).
abbrev pub file_read : List ℕ → Numbers
file_read bs = walk (length bs) bs 0 0 0
