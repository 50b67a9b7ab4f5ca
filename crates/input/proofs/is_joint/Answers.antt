-- `input::is_joint` meets its contract. Assumes nothing.
use mathlib.Core.Path.{refl, sym}
use Rattle.kinds.specs.Membership.{bit}
use Rattle.kinds.proofs.Laws.{no-bit}
use Rattle.input.proofs.is_joint.Goals as goal

pub returns-then-w-joints : goal.returns-then-w-joints
unfolding bit
returns-then-w-joints c = refl

pub returns : goal.returns
returns c = sym (no-bit _ _ c.if-w-joints.false)
