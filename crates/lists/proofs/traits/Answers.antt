-- `lists::traits` meets its contract: the class has its number in the table.
-- Assumes nothing.
use native.Mathlib.Omega.{arith}
use mathlib.Core.Path.{refl}
use Rattle.lists.proofs.Table.{traits-at}
use Rattle.lists.proofs.traits.Goals as goal

pub returns : goal.returns
returns c = traits-at _ c.if-a-eq0.class _ (omega arith) (omega arith) (grind arith) refl
