-- `Listed::moved` meets its contract. Assumes nothing.
use Prim.Native.Nat.{◌-◌, ◌≤◌}
use Rattle.position.specs.Position.{count}
use Rattle.position.specs.Inside.{Stands}
use Rattle.position.proofs.Listed.moved.Given as goal

abbrev pub invariant-loop-self : goal.invariant-loop-self
invariant-loop-self l =
    Stands l.self.text.now l.self.words.now l.c × (l.c.place ≤ l.place)

abbrev pub decreases-loop-self : goal.decreases-loop-self
decreases-loop-self l =
    count l.self.words.now - l.c.token
