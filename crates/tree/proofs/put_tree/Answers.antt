-- `tree::put_tree` is safe and ends: each step takes four bytes at least, which lie in the file, and the cursor is never past the walk.
-- Assumes nothing.
use Rattle.std.proofs.Common.{◌≤◌, ◌≡◌, ap, arith, IfSome, Option, Some, None}
use Rattle.stepfile.proofs.Walks.{step-inside}
use Rattle.position.specs.declared.Cursor.{Cursor}
use Rattle.tree.specs.declared.Source.{Source}
use Rattle.position.specs.Inside.{begins, Stands}
use Rattle.position.proofs.Theorems.{begins-stands}
use Rattle.tree.proofs.put_tree.Goals as goal
use Rattle.tree.proofs.put_tree.Goals.{in-Some, in-None}

-- the beginning stands in any text
stands-first : (o : Option Source) (c : Cursor) → c ≡ begins → IfSome o (λ s. Stands s.listed.text.now s.listed.words.now c × (c.place ≤ 0))
stands-first (Some t) c e = (rw e (begins-stands _ _), omega (arith, ap (λ (x : Cursor). x.place) e))
stands-first None c e = tt

pub loop-s-init : goal.loop-s-init
loop-s-init _ c = (omega arith, omega arith, omega arith, omega arith, stands-first _ _ c.start-here.ensures)

pub loop-s-smaller : goal.loop-s-smaller
loop-s-smaller _ c =
    let g = step-inside c.args.file.now c.loop-s.at _ _ c.step_at.ensures (rw c.in-Ok-Some.field-0-is at c.in-Ok-Some.is) in
    omega (arith, g.0, g.1, c.size-at.ensures)

pub loop-s-preserved : goal.loop-s-preserved
loop-s-preserved _ c =
    let g = step-inside c.args.file.now c.loop-s.at _ _ c.step_at.ensures (rw c.in-Ok-Some.field-0-is at c.in-Ok-Some.is) in
    let e = c.size-at.ensures in
    let v = c.walked-w.ensures in (
      omega (arith, g.0, e),
      omega (arith, g.1, e, v.depth_bound.0),
      omega (arith, g.1, e, v.depth_bound.1),
      omega (arith, g.1, e, v.depth_bound.2),
      elim c.match-tokens.branch [
        | in-Some w ↦ (let m = w.moved-here.ensures.stands_2 in rw (w.in-Some.is, w.here-is) (m.0, omega (arith, m.1, v.place_le_place)))
        | in-None w ↦ rw w.in-None.is tt
      ],
    )
