use native.Mathlib.Omega.{arith}
use native.Mathlib.Numerals.{add-one}
use mathlib.Core.Path.{refl, ◌∙◌}
use Rattle.event.proofs.Rooms.{length-events}
use Rattle.events.proofs.Running.{begin, here-sound, here-room, onward, done, words_left}
use Rattle.events.proofs.process.Goals as goal

pub loop-i-init : goal.loop-i-init
loop-i-init c =
    (refl, begin _ _ _ _ (length-events c.args.words.now) (rw length-events at c.requires.words_value) (rw length-events at c.requires.size_value))

pub turn-at-requires-clause-i_value : goal.turn-at-requires-clause-i_value
turn-at-requires-clause-i_value c = here-sound _ _ _ _ _ _ _ _ c.loop-i.invariant.1 c.loop-i-test.true

pub turn-at-requires-clause-i_bound : goal.turn-at-requires-clause-i_bound
turn-at-requires-clause-i_bound c = here-room _ _ _ _ _ _ _ _ c.loop-i.invariant.1 c.loop-i-test.true

pub loop-i-preserved : goal.loop-i-preserved
loop-i-preserved c =
    let l = c.loop-i in
    let t = c.turn-at in
    let e = t.auto.words in (
      e ∙ l.invariant.0,
      rw add-one (onward _ _ _ _ _ _ _ _ l.invariant.1 c.loop-i-test.true _ _ _ t.ensures.words_after (omega (arith, e, length-events t.new.words, length-events l.words)) t.auto.out t.ensures.laid),
    )

pub returns-clause-wrote : goal.returns-clause-wrote
returns-clause-wrote c = rw length-events (done _ _ _ _ _ _ _ _ c.loop-i.invariant.1 c.loop-i-test.false (rw length-events at c.requires.size_value)).0

pub returns-clause-words_after : goal.returns-clause-words_after
returns-clause-words_after c =
    let d = done _ _ _ _ _ _ _ _ c.loop-i.invariant.1 c.loop-i-test.false (rw length-events at c.requires.size_value) in
    rw length-events (words_left _ c.args.words.now _ (c.loop-i.invariant.0 ∙ c.requires.words_len) (length-events c.args.words.now) d.1)
