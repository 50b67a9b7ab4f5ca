-- `input::stands_at` meets its contract. Assumes nothing.
use Rattle.input.specs.Glue.{stands_at}
use Rattle.input.proofs.Input.stands_at.Goals as goal

pub returns-in-One : goal.returns-in-One
unfolding stands_at
returns-in-One c = rw (c.in-One.is, c.kind.ensures)

pub returns-in-Two : goal.returns-in-Two
unfolding stands_at
returns-in-Two c = rw c.in-Two.is c.at_composite2.ensures

pub returns-in-Three : goal.returns-in-Three
unfolding stands_at
returns-in-Three c = rw c.in-Three.is c.at_composite3.ensures
