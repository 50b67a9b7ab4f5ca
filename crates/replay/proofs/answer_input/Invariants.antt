use Rattle.std.proofs.Common.{◌<◌, length}
use Rattle.replay.proofs.answer_input.Given as goal

abbrev pub invariant-loop : goal.invariant-loop
invariant-loop _ l = l.held < length l.text
