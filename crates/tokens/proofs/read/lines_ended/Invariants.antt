use Rattle.std.proofs.Common.{◌≤◌}
use Rattle.tokens.proofs.read.lines_ended.Given as goal

abbrev pub invariant-loop-b : goal.invariant-loop-b
invariant-loop-b l = l.ended ≤ l.b-index
