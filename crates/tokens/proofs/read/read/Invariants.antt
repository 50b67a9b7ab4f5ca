use Rattle.std.proofs.Common.{◌≡◌, ◌≤◌, length, None}
use Rattle.tokens.proofs.read.read.Given as goal

abbrev pub invariant-loop-word : goal.invariant-loop-word
invariant-loop-word _ l = (length l.rest ≤ length l.text) × (l.asked.count ≤ length l.kinds) × (length l.kinds ≡ length l.initial.kinds) × (l.asked.source ≡ None)

abbrev pub decreases-loop-word : goal.decreases-loop-word
decreases-loop-word _ l = length l.rest
