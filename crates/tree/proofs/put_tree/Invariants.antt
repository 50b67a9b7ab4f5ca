use Rattle.std.specs.Prelude.{◌*◌, ◌-◌, ◌≤◌, length, IfSome}
use Rattle.position.specs.Inside.{Stands}
use Rattle.tree.proofs.put_tree.Given as goal

abbrev pub invariant-loop-s : goal.invariant-loop-s
invariant-loop-s _ l =
    (l.at ≤ length l.file) × (l.w.depth ≤ l.at) × (l.w.place ≤ 255 * l.at) × (l.w.errors ≤ l.at) × IfSome l.tokens.source (λ s. Stands s.listed.text.now s.listed.words.now l.here × (l.here.place ≤ l.w.place))

abbrev pub decreases-loop-s : goal.decreases-loop-s
decreases-loop-s _ l =
    length l.file - l.at
