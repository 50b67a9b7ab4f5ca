-- `Fixed::listed` meets its contract: at each name it says what that set's listing says. Written by tools/lists; ./check compares it with the
-- source. Assumes nothing.
use Rattle.kinds.specs.Membership.{one_of}
use Rattle.kinds.proofs.sets.Fixed.listed.Goals as goal

pub returns-in-Empty : goal.returns-in-Empty
unfolding one_of
returns-in-Empty c = rw c.in-Empty.is
