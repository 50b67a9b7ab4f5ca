-- `last_close` meets its contract: no `*/` begins behind the place that is reached. Assumes nothing.
use Prim.Native.Nat.{◌-◌}
use Rattle.lex.specs.Inside.{NoClose}
use Rattle.lex.proofs.tokens.last_close.Given as goal

abbrev pub invariant-loop-i : goal.invariant-loop-i
invariant-loop-i l = NoClose l.text (l.i - 1)
