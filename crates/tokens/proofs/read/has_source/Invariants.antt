use Rattle.std.proofs.Common.{length}
use Rattle.tokens.proofs.read.has_source.Given as goal

abbrev pub decreases-loop-word : goal.decreases-loop-word
decreases-loop-word l = length l.rest
