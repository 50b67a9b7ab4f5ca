use Rattle.std.proofs.Common.{◌+◌, ◌*◌, ◌≤◌, ◌≡◌, ℕ, length, drop}
use Rattle.listing.proofs.read.list_at.Given as goal

abbrev pub invariant-loop-rest : goal.invariant-loop-rest
invariant-loop-rest l = (length l.rest ≤ length l.text) × (l.count + 2 * length l.rest ≤ 2 * length l.text) × (length l.words ≡ length l.initial.words) × ((n : ℕ) × (l.rest ≡ drop n l.text))

abbrev pub decreases-loop-rest : goal.decreases-loop-rest
decreases-loop-rest l = length l.rest
