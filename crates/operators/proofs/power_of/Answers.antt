-- `power_of` meets its contract. Assumes nothing.
use native.Mathlib.Omega.{arith}
use Rattle.operators.proofs.Tables.{bytes, mode-byte, mode-past, rows-zero, rows_other}
use Rattle.operators.proofs.power_of.Goals as goal

pub returns-then-mode-eq0 : goal.returns-then-mode-eq0
unfolding bytes
returns-then-mode-eq0 c = mode-byte _ (rows-zero _ c.if-mode-eq0.true) c.args.kind (omega arith)

pub returns-then-i-lt7 : goal.returns-then-i-lt7
unfolding bytes
returns-then-i-lt7 c = mode-byte _ (rows_other _ c.if-mode-eq0.false) c.args.kind (omega arith)

pub returns : goal.returns
returns c = mode-past _ c.args.kind (omega arith)
