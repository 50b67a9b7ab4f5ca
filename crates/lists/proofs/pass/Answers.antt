-- `lists::pass` meets its contract: the traits of the event that stands there decide.
-- Assumes nothing.
use native.Mathlib.Omega.{arith}
use Prim.Native.Nat.{suc, ◌+◌, ◌*◌}
use mathlib.Core.Path.{sym, ap, ◌∙◌}
use lib.ListN.{get_or, length-drop}
use Rattle.event.specs.Event.{events_of, is_start}
use Rattle.event.proofs.Encoding.{say-other}
use Rattle.event.proofs.Rooms.{event-index, length-events}
use Rattle.own.proofs.Says.{distance-le}
use Rattle.lists.proofs.Table.{tells-out, bit-off, bit-on, next-none, next-lost, next-far, next-fault, next-passes, tells-cost}
use Rattle.lists.proofs.pass.Goals as goal

pub returns-then-a-lt-START : goal.returns-then-a-lt-START
returns-then-a-lt-START c =
    let w = c.args.words.now in
    rw (← event-index w c.args.i c.requires.i_in_bounds) (sym (next-none _ _ _ (tells-out _ _ c.if-a-lt-START.true)))

pub pass_plain-requires : goal.pass_plain-requires
pass_plain-requires c = ap is_start c.decode.ensures ∙ (say-other _ _ (λ e. omega arith)).0

pub returns-then-a-ge-ERROR : goal.returns-then-a-ge-ERROR
returns-then-a-ge-ERROR c =
    let w = c.args.words.now in
    rw (← event-index w c.args.i c.requires.i_in_bounds, ← c.decode.ensures) (c.pass_plain.ensures _)

pub returns-then-b-gt65535 : goal.returns-then-b-gt65535
returns-then-b-gt65535 c =
    let w = c.args.words.now in
    rw (← event-index w c.args.i c.requires.i_in_bounds) (sym (next-far _ _ _ _ c.if-a-ge-ERROR.false c.if-b-gt65535.true (omega (arith, length-drop (suc c.args.i) (events_of w), length-events w))))

pub returns-then-all-min-eq0 : goal.returns-then-all-min-eq0
returns-then-all-min-eq0 c =
    let w = c.args.words.now in
    rw (← event-index w c.args.i c.requires.i_in_bounds) (sym (next-none _ _ _ (bit-off _ _ _ (rw c.min.ensures at c.if-all-min-eq0.true) (c.traits-all.ensures _ (omega arith)))))

pub lands_on-requires-clause-d_bound : goal.lands_on-requires-clause-d_bound
lands_on-requires-clause-d_bound c = omega (arith, c.leads.ensures, distance-le (get_or c.args.words.now (2 * c.args.i) 0) (get_or c.args.words.now (2 * c.args.i + 1) 0))

pub returns-then-not-lands_on : goal.returns-then-not-lands_on
returns-then-not-lands_on c =
    let w = c.args.words.now in
    rw (← event-index w c.args.i c.requires.i_in_bounds) (sym (next-lost _ _ _ (rw c.leads.ensures at (sym c.lands_on.ensures ∙ c.if-not-lands_on.true))))

pub returns-then-h-eq0 : goal.returns-then-h-eq0
returns-then-h-eq0 c =
    let w = c.args.words.now in
    rw (← event-index w c.args.i c.requires.i_in_bounds) (sym (next-fault _ _ _ _ (bit-on _ _ _ (rw c.min.ensures at c.if-all-min-eq0.false) (c.traits-all.ensures _ (omega arith))) (rw c.leads.ensures at (sym c.lands_on.ensures ∙ c.if-not-lands_on.false)) c.if-h-eq0.true))

pub returns : goal.returns
returns c =
    let w = c.args.words.now in
    let q = bit-on _ _ _ (rw c.min.ensures at c.if-all-min-eq0.false) (c.traits-all.ensures _ (omega arith)) in
    rw (← event-index w c.args.i c.requires.i_in_bounds) (sym (next-passes _ _ _ _ q (rw c.leads.ensures at (sym c.lands_on.ensures ∙ c.if-not-lands_on.false)) c.if-h-eq0.false), tells-cost _ _ q)
