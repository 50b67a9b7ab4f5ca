-- `lists::lands_on` meets its contract: the distance's index, in the list and past its end.
-- Assumes nothing.
use native.Mathlib.Omega.{arith}
use Prim.Native.Nat.{◌+◌, ◌*◌}
use Rattle.event.specs.Event.{events_of}
use Rattle.event.proofs.Rooms.{length-events}
use Rattle.lists.proofs.Scans.{lands-past}
use Rattle.lists.proofs.Table.{lands-astray}
use Rattle.lists.proofs.lands_on.Goals as goal

pub returns-then-j-words : goal.returns-then-j-words
returns-then-j-words c =
    let a = c.args in
    lands-past (events_of a.words.now) a.i a.d (λ z. omega arith) (omega (arith, length-events a.words.now))

pub returns : goal.returns
returns c =
    let a = c.args in
    lands-astray a.words.now a.i a.d (omega arith) (omega (arith, c.type_inv.words (2 * (a.i + a.d))))
