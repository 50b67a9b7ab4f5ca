-- `Listed::position_of` meets its contract. Assumes nothing.
use Rattle.position.proofs.Theorems.{begins-stands}
use Rattle.position.proofs.Listed.position_of.Goals as goal

pub moved-requires-clause-stands : goal.moved-requires-clause-stands
moved-requires-clause-stands c = rw c.start.ensures (begins-stands _ _)
