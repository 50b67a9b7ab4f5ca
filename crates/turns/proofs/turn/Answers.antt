-- `turns::turn` meets its contract: with no distance, the event's own step alone.
-- Assumes nothing.
use native.Mathlib.Omega.{arith}
use Prim.Native.Nat.{ℕ, ◌+◌, ◌*◌, ◌/◌, ◌<◌}
use mathlib.Core.Bool.{false}
use mathlib.Core.List.{List}
use Rattle.turns.specs.Process.{turn_at}
use mathlib.Core.Path.{◌≡◌, sym, ap, ◌∙◌}
use lib.ListN.{length, get_or}
use Rattle.event.specs.declared.Event.TheVariants.{NoEvent}
use Rattle.event.specs.Event.{decode, events_of, distance}
use Rattle.event.proofs.Rooms.{length-events, event-index}
use Rattle.own.specs.Own.{cost}
use Rattle.own.specs.Inside.{Say}
use Rattle.own.proofs.Wide.{laid-wider}
use Rattle.own.proofs.Says.{say-range}
use Rattle.turns.proofs.Turning.{Turning, turn-says, alone-room, alone-laid, alone-wrote, alone-left}
use Rattle.turns.proofs.turn.Goals as goal
use Rattle.turns.proofs.turn.Goals.{After-clear}

-- the event's words
abbrev first : List ℕ → ℕ → ℕ
first w i = get_or w (2 * i) 0

abbrev second : List ℕ → ℕ → ℕ
second w i = get_or w (2 * i + 1) 0

says : (w : List ℕ) (i : ℕ) → i < length w / 2 → (turn_at (events_of w) i).panics ≡ false → Say (first w i) (second w i)
says w i h s z = turn-says _ _ _ s _ _ (sym (event-index w i h) ∙ z)

-- what is known where the event is cleared
here : (c : After-clear) → decode (first c.args.words.now c.args.i) (second c.args.words.now c.args.i) ≡ get_or (events_of c.args.words.now) c.args.i (NoEvent 0 0)
here c = event-index c.args.words.now c.args.i c.requires.i_in_bounds

turning : (c : After-clear)
    → Turning (events_of c.args.words.now) c.args.i c.args.at c.args.size c.args.out.now (events_of c.clear.new.words) c.leads.result
turning c =
    record {
      inside = omega (arith, length-events c.args.words.now);
      sound = c.requires.i_value;
      room = c.requires.i_bound;
      fits = c.requires.size_in_bounds;
      cleared = c.clear.ensures;
      far = c.leads.ensures ∙ ap distance (here c);
    }

alone : (c : After-clear) → c.leads.result ≡ 0
alone c = c.if-leads-ne0.false

pub leads-requires : goal.leads-requires
leads-requires c = (say-range _ _ (says c.args.words.now c.args.i c.requires.i_in_bounds c.requires.i_value)).0

pub turn_led-requires-clause-fact : goal.turn_led-requires-clause-fact
turn_led-requires-clause-fact c = λ z. c.if-leads-ne0.true (c.leads.ensures ∙ ap distance (event-index c.args.words.now c.args.i c.requires.i_in_bounds) ∙ z)

pub put_wide-requires-clause-say : goal.put_wide-requires-clause-say
put_wide-requires-clause-say c = says c.args.words.now c.args.i c.requires.i_in_bounds c.requires.i_value

pub returns-then-at-size-clause-laid : goal.returns-then-at-size-clause-laid
returns-then-at-size-clause-laid c =
    let k = (goal.at.returns-then-at-size-clause-laid c).After-clear in
    alone-laid (turning k) (alone k) _ _ (rw (here k) at (laid-wider _ _ _ _ _ _ _ c.if-at-size.true c.put_wide.ensures))

pub returns-then-at-size-clause-words_after : goal.returns-then-at-size-clause-words_after
returns-then-at-size-clause-words_after c =
    let k = (goal.at.returns-then-at-size-clause-words_after c).After-clear in
    alone-left (turning k) (alone k)

pub put_own-requires : goal.put_own-requires
put_own-requires c =
    let k = (goal.at.put_own-requires c).After-clear in
    omega (arith, alone-room (turning k) (alone k), (turning k).fits, ap cost (c.decode.ensures ∙ here k))

pub returns-clause-laid : goal.returns-clause-laid
returns-clause-laid c =
    let k = (goal.at.returns-clause-laid c).After-clear in
    alone-wrote (turning k) (alone k) _ _ (rw (c.decode.ensures ∙ here k) at c.put_own.ensures)

pub returns-clause-words_after : goal.returns-clause-words_after
returns-clause-words_after c =
    let k = (goal.at.returns-clause-words_after c).After-clear in
    alone-left (turning k) (alone k)
