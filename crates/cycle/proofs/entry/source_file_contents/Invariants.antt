-- `entry::source_file_contents` meets its contract: the loop's rounds are those of the definition, and each spends a lookup. Assumes
-- nothing.
use mathlib.Core.Bool.{false}
use mathlib.Core.Path.{◌≡◌}
use lib.ListN.{length}
use Rattle.input.specs.Lent.{tokens}
use Rattle.runtime.specs.State.{view}
use Rattle.runtime.specs.Acts as acts
use Rattle.runtime.proofs.Laws.{Ran}
use Rattle.operators.specs.Operators.{table_of}
use Rattle.grammar.specs.Items as I
use Rattle.grammar.specs.Entry.{counted}
use Rattle.cycle.proofs.entry.source_file_contents.Given as goal

abbrev pub invariant-loop-level : goal.invariant-loop-level
invariant-loop-level l =
    (length l.room ≡ length l.initial.room) × Ran (tokens l.input) (I.source_file_contents_round (counted (table_of l.level.mode) l.level.left) false) tt (view l.initial.q l.initial.room) tt (view l.q l.room)

abbrev pub decreases-loop-level : goal.decreases-loop-level
decreases-loop-level l =
    acts.left l.q
