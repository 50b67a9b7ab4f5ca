-- `stepfile::rest` meets its contract: what a step takes lies in the file. Assumes nothing.
use Prim.Native.Nat.{◌-◌, ◌≤◌}
use native.Mathlib.Omega.{arith}
use mathlib.Core.Path.{◌≡◌, ap, ◌∙◌}
use lib.ListN.{length, drop, length-drop}
use lib.Seq.{take_all}
use Rattle.stepfile.specs.Front.{front, taken, behind}
use Rattle.stepfile.proofs.Inverse.{taken-fits}
use borrow.Author.Rules.{rules}
use Rattle.stepfile.proofs.rest.Goals as goal

pub slice_bounds-result-count : goal.slice_bounds-result-count
slice_bounds-result-count c =
    let l = c.args.file.now in
    omega (arith, taken-fits l, c.width-n.ensures ∙ ap taken c.front.ensures)

pub slice_bounds-result-start : goal.slice_bounds-result-start
slice_bounds-result-start c =
    let l = c.args.file.now in
    let h : c.width-n.result ≤ length l = omega (arith, taken-fits l, c.width-n.ensures ∙ ap taken c.front.ensures) in
    search rules

pub returns : goal.returns
unfolding behind
returns c =
    let l = c.args.file.now in
    let e : c.width-n.result ≡ taken (front l) = c.width-n.ensures ∙ ap taken c.front.ensures in
    take_all (length l - c.width-n.result) (drop c.width-n.result l) (omega (arith, length-drop c.width-n.result l)) ∙ rw e
