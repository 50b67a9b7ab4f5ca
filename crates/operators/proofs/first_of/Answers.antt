-- `first_of` meets its contract. Assumes nothing.
use Rattle.operators.proofs.First.{first-here, first-later, first-none}
use Rattle.operators.proofs.first_of.Goals as goal

pub loop-kind-init : goal.loop-kind-init
loop-kind-init c a d = d

pub returns-then-at : goal.returns-then-at
returns-then-at c = c.loop-kind.invariant _ (first-here _ _ _ _ _ c.loop-kind-test.true c.at.ensures c.if-at.true)

pub loop-kind-preserved : goal.loop-kind-preserved
loop-kind-preserved c a d = c.loop-kind.invariant a (first-later _ _ _ _ _ c.loop-kind-test.true c.at.ensures c.if-at.false d)

pub returns : goal.returns
returns c = c.loop-kind.invariant _ (first-none _ _ _ _ _ c.loop-kind-test.false)
