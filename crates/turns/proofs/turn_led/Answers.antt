-- `turns::turn_led` meets its contract: one start's step and then the event's own; or a chain's steps, and then its own.
-- Assumes nothing.
use native.Mathlib.Omega.{arith}
use Prim.Native.Nat.{ℕ, ◌+◌, ◌*◌, ◌/◌, ◌≤◌, ◌<◌}
use mathlib.Core.Path.{◌≡◌, sym, ap, ◌∙◌}
use lib.ListN.{length, get_or}
use Rattle.event.specs.declared.Event.TheVariants.{NoEvent}
use Rattle.event.specs.Event.{decode, events_of, is_start, distance}
use Rattle.event.proofs.Rooms.{length-events, event-index}
use Rattle.event.proofs.Encoding.{say-start, start-tag}
use Rattle.own.specs.Own.{own, cost}
use Rattle.own.proofs.Wide.{laid-wider}
use Rattle.own.proofs.Says.{say-enter, enter-cost, led-start, leads-start, distance-le}
use Rattle.turns.proofs.Turning.{Turning, chain-sound, turn-room, turn-wrote, turn-left, led, pair-laid, pair_left}
use Rattle.turns.proofs.turn_led.Goals as goal
use Rattle.turns.proofs.turn_led.Goals.{After-clear}

-- the words of the event, and what is known where it is cleared
abbrev first : After-clear → ℕ
first c = get_or c.args.words.now (2 * c.args.i) 0

abbrev far : After-clear → ℕ
far c = get_or c.args.words.now (2 * c.args.i + 1) 0

here : (c : After-clear) → decode (first c) (far c) ≡ get_or (events_of c.args.words.now) c.args.i (NoEvent 0 0)
here c = event-index c.args.words.now c.args.i c.requires.i_in_bounds

start : (c : After-clear) → first c / 65536 ≡ 1
start c = led-start (first c) (far c) (λ z. c.requires.fact (ap distance (sym (here c)) ∙ z))

distant : (c : After-clear) → far c ≡ distance (get_or (events_of c.args.words.now) c.args.i (NoEvent 0 0))
distant c = leads-start (first c) (far c) (omega (arith, start c)) (omega (arith, start c)) ∙ ap distance (here c)

nonzero : (c : After-clear) → far c ≡ 0 → ⊥
nonzero c z = c.requires.fact (sym (distant c) ∙ z)

turning : (c : After-clear)
    → Turning (events_of c.args.words.now) c.args.i c.args.at c.args.size c.args.out.now (events_of c.clear.new.words) (far c)
turning c =
    record {
      inside = omega (arith, length-events c.args.words.now);
      sound = c.requires.i_value;
      room = c.requires.i_bound;
      fits = c.requires.size_in_bounds;
      cleared = c.clear.ensures;
      far = distant c;
    }

-- the start that it leads to is in the list
next : (c : After-clear) → c.args.i + far c < length c.clear.new.words / 2
next c = omega (arith, (led (turning c) (nonzero c)).inside, length-events c.clear.new.words)

-- that start's first word; where its second is 0, it has no distance
abbrev second : After-clear → ℕ
second c = get_or c.clear.new.words (2 * (c.args.i + far c)) 0

abbrev Bare : After-clear → Type 0
Bare c = get_or c.clear.new.words (2 * (c.args.i + far c) + 1) 0 ≡ 0

lands : (c : After-clear) → Bare c → get_or (events_of c.clear.new.words) (c.args.i + far c) (NoEvent 0 0) ≡ decode (second c) 0
lands c z = sym (event-index c.clear.new.words (c.args.i + far c) (next c)) ∙ ap (λ (b : ℕ). decode (second c) b) z

bare : (c : After-clear) → Bare c → distance (get_or (events_of c.clear.new.words) (c.args.i + far c) (NoEvent 0 0)) ≡ 0
bare c z = rw (lands c z) (omega (arith, distance-le (second c) 0))

-- it is a start
second-starts : (c : After-clear) → Bare c → second c / 65536 ≡ 1
second-starts c z = start-tag (second c) 0 (ap is_start (sym (lands c z)) ∙ (led (turning c) (nonzero c)).start)

own-here : (c : After-clear) → own (get_or (events_of c.args.words.now) c.args.i (NoEvent 0 0)) ≡ own (decode (first c) 0)
own-here c = ap own (sym (here c) ∙ say-start (first c) (far c) (start c)) ∙ ap own (sym (say-start (first c) 0 (start c)))

pub bounds-words-j : goal.bounds-words-j
bounds-words-j c = omega (arith, next (goal.at.bounds-words-j c).After-clear)

pub bounds-words-j-2 : goal.bounds-words-j-2
bounds-words-j-2 c = omega (arith, next (goal.at.bounds-words-j-2 c).After-clear)

pub clear-requires-then-at-size : goal.clear-requires-then-at-size
clear-requires-then-at-size c = omega (arith, next (goal.at.clear-requires-then-at-size c).After-clear)

pub put_wide-past-requires-clause-say : goal.put_wide-past-requires-clause-say
put_wide-past-requires-clause-say c =
    let k = (goal.at.put_wide-past-requires-clause-say c).After-clear in
    say-enter (second k) 0 (second-starts k c.if-words-j-eq0.true)

pub put_wide-past-requires-clause-a_bound : goal.put_wide-past-requires-clause-a_bound
put_wide-past-requires-clause-a_bound c =
    let k = (goal.at.put_wide-past-requires-clause-a_bound c).After-clear in
    omega (arith, second-starts k c.if-words-j-eq0.true)

pub put_wide-requires-clause-say : goal.put_wide-requires-clause-say
put_wide-requires-clause-say c =
    let k = (goal.at.put_wide-requires-clause-say c).After-clear in
    say-enter (first k) 0 (start k)

pub put_wide-requires-clause-a_bound : goal.put_wide-requires-clause-a_bound
put_wide-requires-clause-a_bound c =
    let k = (goal.at.put_wide-requires-clause-a_bound c).After-clear in
    omega (arith, start k)

pub put_wide-requires-clause-at_in_bounds : goal.put_wide-requires-clause-at_in_bounds
put_wide-requires-clause-at_in_bounds c =
    let k = (goal.at.put_wide-requires-clause-at_in_bounds c).After-clear in
    let p = c.put_wide-past in
    omega (arith, (turning k).fits, p.auto.out, p.ensures.place, enter-cost (second k) 0 (second-starts k c.if-words-j-eq0.true))

pub returns-then-at-size-clause-laid : goal.returns-then-at-size-clause-laid
returns-then-at-size-clause-laid c =
    let k = (goal.at.returns-then-at-size-clause-laid c).After-clear in
    let z = c.if-words-j-eq0.true in
    let p = c.put_wide-past in
    let q = c.put_wide in
    let l : k.args.at + 8 ≤ k.args.size = omega (arith, c.if-at-size.true) in
    let m : p.result + 8 ≤ k.args.size = omega (arith, c.if-at-size.true, p.ensures.place, enter-cost (second k) 0 (second-starts k z)) in
    pair-laid (turning k) (nonzero k) (bare k z) p.result q.result p.new.out q.new.out (rw (lands k z) (laid-wider _ _ _ _ _ _ _ l p.ensures)) (rw (own-here k) (laid-wider _ _ _ _ _ _ _ m q.ensures))

pub returns-then-at-size-clause-words_after : goal.returns-then-at-size-clause-words_after
returns-then-at-size-clause-words_after c =
    let k = (goal.at.returns-then-at-size-clause-words_after c).After-clear in
    pair_left (turning k) (nonzero k) (bare k c.if-words-j-eq0.true) _ c.clear-then-at-size.ensures

pub chain_size-chain-requires-clause-d_value : goal.chain_size-chain-requires-clause-d_value
chain_size-chain-requires-clause-d_value c = chain-sound (turning (goal.at.chain_size-chain-requires-clause-d_value c).After-clear)

pub put_chain-requires-clause-d_value : goal.put_chain-requires-clause-d_value
put_chain-requires-clause-d_value c = chain-sound (turning (goal.at.put_chain-requires-clause-d_value c).After-clear)

pub put_chain-requires-clause-size_in_bounds : goal.put_chain-requires-clause-size_in_bounds
put_chain-requires-clause-size_in_bounds c =
    let k = (goal.at.put_chain-requires-clause-size_in_bounds c).After-clear in
    omega (arith, c.chain_size-chain.ensures, turn-room (turning k), (turning k).fits)

pub put_own-requires : goal.put_own-requires
put_own-requires c =
    let k = (goal.at.put_own-requires c).After-clear in
    omega (arith, c.chain_size-chain.ensures, turn-room (turning k), (turning k).fits, c.put_chain.auto.out, ap cost (c.decode.ensures ∙ here k))

pub returns-clause-laid : goal.returns-clause-laid
returns-clause-laid c =
    let k = (goal.at.returns-clause-laid c).After-clear in
    turn-wrote (turning k) _ _ _ _ c.chain_size-chain.ensures c.put_chain.ensures.out_after (rw (c.decode.ensures ∙ here k) at c.put_own.ensures)

pub returns-clause-words_after : goal.returns-clause-words_after
returns-clause-words_after c = turn-left (turning (goal.at.returns-clause-words_after c).After-clear) _ c.put_chain.ensures.words_after
