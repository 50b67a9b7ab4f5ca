use Prim.Native.Nat.{◌<◌, ◌+◌, ◌/◌}
use native.Mathlib.Omega.{arith}
use mathlib.Core.Path.{◌∙◌, ap}
use lib.ListN.{length}
use Rattle.event.specs.Event.{distance}
use Rattle.event.proofs.Rooms.{length-events}
use Rattle.own.specs.Own.{cost}
use Rattle.own.proofs.Writes.{cost-le}
use Rattle.turns.proofs.Following.{hops-on, size-on, size-done}
use Rattle.turns.proofs.chain_size.Goals as goal
use Rattle.turns.proofs.chain_size.Goals.{In-loop-q}

-- the next event of the chain is in the list
next : (c : In-loop-q) → c.loop-q.p + c.loop-q.q < length c.args.words.now / 2
next c = omega (arith, (hops-on _ _ _ _ _ _ c.loop-q.invariant c.loop-q-test.true).inside, length-events c.args.words.now)

pub loop-q-init : goal.loop-q-init
loop-q-init c = record { inside = omega (arith, length-events c.args.words.now); sound = c.requires.d_value; small = omega arith; sum = omega arith }

pub overflow_add-p : goal.overflow_add-p
overflow_add-p c = omega (arith, next c)

pub event_at-e-requires : goal.event_at-e-requires
event_at-e-requires c = next c

pub overflow_add-size : goal.overflow_add-size
overflow_add-size c = omega (arith, next (goal.at.overflow_add-size c).In-loop-q, c.loop-q.invariant.small, c.cost-size.ensures, cost-le c.event_at-e.result)

pub loop-q-smaller : goal.loop-q-smaller
loop-q-smaller c = omega (arith, next (goal.at.loop-q-smaller c).In-loop-q, c.loop-q-test.true)

pub loop-q-preserved : goal.loop-q-preserved
loop-q-preserved c =
    let e = c.event_at-e.ensures in
    size-on _ _ _ _ _ _ c.loop-q.invariant c.loop-q-test.true _ _
    (c.distance-q.ensures ∙ ap distance e) (c.cost-size.ensures ∙ ap cost e)

pub returns : goal.returns
returns c = size-done _ _ _ _ _ _ c.loop-q.invariant c.loop-q-test.false
