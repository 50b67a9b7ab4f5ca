-- `steptext::count` is safe and ends: each step takes four bytes at least, which lie in the file. Assumes nothing.
use Rattle.std.proofs.Common.{arith}
use Rattle.stepfile.proofs.Walks.{step-inside}
use Rattle.steptext.proofs.count.Goals as goal

pub loop-s-smaller : goal.loop-s-smaller
loop-s-smaller c =
    let s = step-inside c.args.file.now c.loop-s.at _ _ c.step_at.ensures (rw c.in-Ok-Some.field-0-is at c.in-Ok-Some.is) in
    omega (arith, s.0, s.1, c.size-at.ensures)

pub loop-s-preserved : goal.loop-s-preserved
loop-s-preserved c =
    let s = step-inside c.args.file.now c.loop-s.at _ _ c.step_at.ensures (rw c.in-Ok-Some.field-0-is at c.in-Ok-Some.is) in
    (omega (arith, s.0, c.size-at.ensures), omega (arith, s.1, c.size-at.ensures))
