use native.Mathlib.Omega.{arith}
use Prim.Native.Nat.{◌/◌, ◌≤◌, ◌<◌}
use native.Mathlib.Numerals.{add-one}
use mathlib.Core.Path.{◌≡◌, ◌∙◌}
use lib.ListN.{length, get_or}
use Rattle.event.specs.declared.Event.TheVariants.{NoEvent}
use Rattle.event.specs.Event.{events_of}
use Rattle.event.proofs.Rooms.{length-events}
use Rattle.own.proofs.Writes.{cost-le}
use Rattle.lists.proofs.Scans.{checked-long, checked-odd, checked-list, scan-open, scan-fault, scan-done, scan-held, next-bound, need-turn, need-end}
use Rattle.lists.proofs.measure.Goals as goal

pub returns-then-n-gt-MOST_EVENTS : goal.returns-then-n-gt-MOST_EVENTS
returns-then-n-gt-MOST_EVENTS c = checked-long _ c.if-n-gt-MOST_EVENTS.true

pub returns-then-words-ne0 : goal.returns-then-words-ne0
returns-then-words-ne0 c = checked-odd _ c.if-n-gt-MOST_EVENTS.false c.if-words-ne0.true

pub loop-i-init : goal.loop-i-init
loop-i-init c = (omega arith, omega arith, checked-list _ c.if-n-gt-MOST_EVENTS.false c.if-words-ne0.false, omega arith)

pub returns-in_default : goal.returns-in_default
returns-in_default c =
    let l = c.loop-i in
    let w = c.args.words.now in
    scan-fault (events_of w) l.i l.held (omega (arith, length-events w)) c.in_default.ensures ∙ l.invariant.2

pub overflow_add-bytes : goal.overflow_add-bytes
overflow_add-bytes c = omega (arith, c.in-Some.ensures.1, cost-le (get_or (events_of c.args.words.now) c.loop-i.i (NoEvent 0 0)))

pub loop-i-preserved : goal.loop-i-preserved
loop-i-preserved c =
    let l = c.loop-i in
    let w = c.args.words.now in
    let e = c.in-Some.ensures.0 in
    let b = c.in-Some.ensures.1 in
    let h : l.i < length (events_of w) = omega (arith, length-events w) in (
      omega (arith, next-bound _ _ _ _ e),
      omega (arith, b, cost-le (get_or (events_of w) l.i (NoEvent 0 0))),
      rw add-one (scan-open (events_of w) l.i l.held _ h e ∙ l.invariant.2),
      rw add-one (omega (arith, b, l.invariant.3, need-turn (events_of w) l.i h)),
    )

pub returns-else-held-eq0 : goal.returns-else-held-eq0
returns-else-held-eq0 c =
    let l = c.loop-i in
    let w = c.args.words.now in
    let e : length w / 2 ≡ l.i = omega arith in
    rw e (scan-held (events_of w) l.i l.held (omega (arith, length-events w)) c.if-held-eq0.false ∙ l.invariant.2)

pub returns-then-held-eq0 : goal.returns-then-held-eq0
returns-then-held-eq0 c =
    let l = c.loop-i in
    let w = c.args.words.now in
    let e : length w / 2 ≡ l.i = omega arith in
    let h : length (events_of w) ≤ l.i = omega (arith, length-events w) in
    (rw e (scan-done (events_of w) l.i l.held h c.if-held-eq0.true ∙ l.invariant.2), omega (arith, l.invariant.3, need-end (events_of w) l.i h))
