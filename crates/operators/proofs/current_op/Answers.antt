-- `current_op` meets its contract. Assumes nothing.
use Rattle.runtime.proofs.Laws.{peek, only, ends}
use native.Mathlib.Omega.{arith}
use Rattle.operators.specs.Operators as S
use Rattle.operators.proofs.Tables.{mode-fair, packed-small, packed-power, packed-next}
use Rattle.operators.proofs.current_op.Goals as goal

pub overflow_cast-op : goal.overflow_cast-op
overflow_cast-op c = omega (arith, packed-small (mode-fair _) _ c.power_of-byte.ensures)

pub overflow_cast-op-2 : goal.overflow_cast-op-2
overflow_cast-op-2 c = omega (arith, packed-small (mode-fair _) _ c.power_of-byte.ensures)

pub returns : goal.returns
unfolding S.current_op
returns c = only _ _ _ (λ room. peek _ _ _ _ _ c.current-p.ensures (peek _ _ _ _ _ c.operator_at-kind.ensures (rw (c.power_of-byte.ensures, packed-power (mode-fair _), packed-next (mode-fair _)) (ends _ _ _))))
