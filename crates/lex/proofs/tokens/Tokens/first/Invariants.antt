-- `Tokens::first` meets its contract. The invariant: what is still found from the state on, or else what was found last. Assumes nothing.
use Prim.Native.Nat.{◌≤◌}
use Rattle.lexical.specs.Table.{State}
use Rattle.lex.proofs.Scan.{Scanned}
use Rattle.lex.proofs.tokens.Tokens.first.Given as goal

abbrev pub invariant-loop-i : goal.invariant-loop-i
invariant-loop-i l = record { passed : l.end ≤ l.i; row : State l.row.0; found : State l.found.0; scanned : Scanned l.rest l.row.0 l.i l.found.0 l.end }
