-- What the contracts of the code inside cite.
use Rattle.std.specs.Prelude.{ℕ, suc, ◌+◌, ◌/◌, ◌%◌, ◌≤◌, ◌<◌, ◌≡◌, List, length, drop, Result, Ok, Err}
use Rattle.records.specs.declared.Step.{Step}
use Rattle.records.specs.Record.{record_of}
use Rattle.stepfile.specs.declared.Refusal.{Refusal}
use Rattle.stepfile.specs.declared.Refusal.TheVariants.{Unnested}
use Rattle.stepfile.specs.declared.Walk.{Walk}
use Rattle.stepfile.specs.Front.{two}
use Rattle.stepfile.specs.Answer.{Numbers, refused}
use Rattle.stepfile.specs.Nesting.{nest, on_nodes}
use Rattle.stepfile.specs.File.{walk}

-- the head of the record at a place in one number: the payload's length, and 65,536 times the record kind
pub record Head (bs : List ℕ) (at head : ℕ) : Type 0 where
  pub size : two bs at ≡ head % 65536
  pub kind : two bs (at + 2) ≡ head / 65536

-- a walk inside a file: it has no more records than bytes behind it, and no more nodes open than records
pub record Fits (bs : List ℕ) (w : Walk) : Type 0 where
  pub place : w.at ≤ length bs
  pub records : w.records ≤ w.at
  pub held : w.held ≤ w.records

-- a walk past a step, or a refusal where the step breaks the nesting
unfoldable pub passed : Walk → Step → Result Walk Refusal
passed w s =
    on_nodes (nest w.records w.held s)
    (λ n. Ok (record { at = w.at + length (record_of s); records = w.records + 1; held = n }))
    (Err (Unnested w.at))

-- what is left of a file at a walk
abbrev pub from : ℕ → List ℕ → Walk → Numbers
from n bs w = walk n (drop w.at bs) w.at w.records w.held

-- what a step makes of a walk is a round of the definition; where the walk goes on it is further on
abbrev pub Turned : List ℕ → Walk → Result Walk Refusal → Type 0
Turned bs w (Ok v) = (Fits bs v) × (w.at < v.at) × ((n : ℕ) → from (suc n) bs w ≡ from n bs v)
Turned bs w (Err e) = (n : ℕ) → from (suc n) bs w ≡ refused e
