use Rattle.std.proofs.Common.{◌≤◌, length}
use Rattle.listing.proofs.list_all.Given as goal

abbrev pub invariant-loop-next : goal.invariant-loop-next
invariant-loop-next _ l = length l.rest ≤ length l.text

abbrev pub decreases-loop-next : goal.decreases-loop-next
decreases-loop-next _ l = length l.rest
