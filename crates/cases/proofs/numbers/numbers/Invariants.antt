use Rattle.std.proofs.Common.{◌≡◌, ℕ, drop}
use Rattle.cases.proofs.numbers.numbers.Given as goal

abbrev pub invariant-loop-i : goal.invariant-loop-i
invariant-loop-i g l = (k : ℕ) × (l.rest ≡ drop k l.line)
