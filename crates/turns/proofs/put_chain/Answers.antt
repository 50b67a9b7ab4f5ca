use Prim.Native.Nat.{◌≤◌, ◌<◌, ◌+◌, ◌/◌}
use native.Mathlib.Omega.{arith}
use mathlib.Core.Path.{◌≡◌, refl, ◌∙◌, ap}
use lib.ListN.{length, get_or}
use borrow.Author.Rules.{rules}
use Rattle.event.specs.declared.Event.TheVariants.{NoEvent}
use Rattle.event.specs.Event.{events_of, distance}
use Rattle.event.proofs.Rooms.{length-events}
use Rattle.own.specs.Own.{cost}
use Rattle.turns.proofs.Following.{begin, next, next-room, onward, done}
use Rattle.turns.proofs.put_chain.Goals as goal
use Rattle.turns.proofs.put_chain.Goals.{In-loop-q, After-cost-end}

-- the next event of the chain is in the list
inside : (c : In-loop-q) → c.loop-q.p + c.loop-q.q < length c.loop-q.words / 2
inside c = omega (arith, (next _ _ _ _ _ _ _ _ _ _ c.loop-q.invariant.1 c.loop-q-test.true).inside, length-events c.loop-q.words)

-- the next event's bytes fit before the end of what is still to write
costs : (c : After-cost-end)
    → c.cost-end.result ≡ cost (get_or (events_of c.loop-q.words) (c.loop-q.p + c.loop-q.q) (NoEvent 0 0))
costs c = c.cost-end.ensures ∙ ap cost c.event_at-e.ensures

room : (c : After-cost-end) → c.cost-end.result ≤ c.loop-q.end
room c = omega (arith, costs c, next-room _ _ _ _ _ _ _ _ _ _ c.loop-q.invariant.1 c.loop-q-test.true)

pub loop-q-init : goal.loop-q-init
loop-q-init c =
    let r = c.requires in
    (refl, begin _ _ _ _ _ _ (omega (arith, length-events c.args.words.now)) r.d_value (omega arith) (search rules))

pub overflow_add-p : goal.overflow_add-p
overflow_add-p c = omega (arith, inside c)

pub event_at-e-requires : goal.event_at-e-requires
event_at-e-requires c = inside c

pub clear-requires : goal.clear-requires
clear-requires c = omega (arith, inside (goal.at.clear-requires c).In-loop-q)

pub overflow_sub-end : goal.overflow_sub-end
overflow_sub-end c = omega (arith, room c)

pub put_own-requires : goal.put_own-requires
put_own-requires c = omega (arith, c.cost-end.ensures, room (goal.at.put_own-requires c).After-cost-end, c.loop-q.invariant.1.room)

pub loop-q-smaller : goal.loop-q-smaller
loop-q-smaller c = omega (arith, inside (goal.at.loop-q-smaller c).In-loop-q, c.loop-q-test.true, c.loop-q.invariant.0)

pub loop-q-preserved : goal.loop-q-preserved
loop-q-preserved c =
    let l = c.loop-q in
    let e = c.event_at-e.ensures in (
      c.clear.auto.words ∙ l.invariant.0,
      onward _ _ _ _ _ _ _ _ _ _ l.invariant.1 c.loop-q-test.true _ _ _ _ _
          c.clear.ensures (omega (arith, costs (goal.at.loop-q-preserved c).After-cost-end, room (goal.at.loop-q-preserved c).After-cost-end)) (rw e at c.put_own.ensures) (c.distance-q.ensures ∙ ap distance e),
    )

pub returns-clause-words_after : goal.returns-clause-words_after
returns-clause-words_after c = (done _ _ _ _ _ _ _ _ _ _ c.loop-q.invariant.1 c.loop-q-test.false).0

pub returns-clause-out_after : goal.returns-clause-out_after
returns-clause-out_after c = (done _ _ _ _ _ _ _ _ _ _ c.loop-q.invariant.1 c.loop-q-test.false).1
