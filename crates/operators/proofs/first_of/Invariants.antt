-- `first_of` meets its contract: what the kinds from here on tell, all of them tell. Assumes nothing.
use Rattle.std.proofs.Common.{ℕ, drop}
use Rattle.input.specs.Lent.{tokens}
use Rattle.runtime.specs.Acts.{Peeks}
use Rattle.operators.specs.Operators.{first_at}
use Rattle.operators.proofs.first_of.Given as goal

abbrev pub invariant-loop-kind : goal.invariant-loop-kind
invariant-loop-kind l =
    (a : ℕ) → Peeks (tokens l.input) (first_at (drop l.kind-index l.kinds) l.plain) l.p a l.p → Peeks (tokens l.input) (first_at l.kinds l.plain) l.p a l.p
