use Prim.Native.Nat.{suc}
use native.Mathlib.Omega.{arith}
use mathlib.Core.Path.{◌≡◌, sym, ◌∙◌}
use lib.ListN.{length, drop, length-drop}
use Rattle.std.specs.Prelude.{Some, Ok}
use Rattle.std.proofs.lemmas.Result.{err_from_is_err_and}
use Rattle.stepfile.specs.Front.{front}
use Rattle.stepfile.proofs.Walks.{walk-rounds, round-step, round-end, round-fault}
use Rattle.stepfile.proofs.read_file.Goals as goal
use Rattle.stepfile.proofs.read_file.Goals.{In-Ok-Some}

-- the step at the walk
stands : (c : In-Ok-Some) → front (drop c.loop-s.w.at c.args.file.now) ≡ Ok (Some c.in-Ok-Some.s)
stands c = rw (sym c.step_at.ensures ∙ c.in-Ok-Some.is, c.in-Ok-Some.field-0-is)

pub loop-s-init : goal.loop-s-init
loop-s-init c =
    let l = c.args.file.now in
    (record { place = omega arith; records = omega arith; held = omega arith }, walk-rounds (suc (length l)) (length l) l 0 0 0 (omega arith) (omega arith))

pub returns-in_err-w-in-Ok-Some : goal.returns-in_err-w-in-Ok-Some
returns-in_err-w-in-Ok-Some c =
    let l = c.args.file.now in
    let p = err_from_is_err_and c.from_residual.result c.from_residual.ensures.1 in
    let t = round-step l _ _ _ c.loop-s.invariant.0 (stands (goal.at.returns-in_err-w-in-Ok-Some c).In-Ok-Some) c.in_err-w-in-Ok-Some.ensures in
    rw (p.1, p.2) (sym (t (length l)) ∙ c.loop-s.invariant.1)

pub loop-s-smaller : goal.loop-s-smaller
loop-s-smaller c =
    let t = round-step c.args.file.now _ _ _ c.loop-s.invariant.0 (stands (goal.at.loop-s-smaller c).In-Ok-Some) c.in_ok-w-in-Ok-Some.ensures in
    omega (arith, t.0.place, t.1)

pub loop-s-preserved : goal.loop-s-preserved
loop-s-preserved c =
    let l = c.args.file.now in
    let v = c.in_ok-w-in-Ok-Some.w in
    let t = round-step l _ _ _ c.loop-s.invariant.0 (stands (goal.at.loop-s-preserved c).In-Ok-Some) c.in_ok-w-in-Ok-Some.ensures in
    let h = length-drop v.at l in
    (t.0, walk-rounds (suc (length l)) (length l) (drop v.at l) v.at v.records v.held (omega (arith, h)) (omega (arith, h)) ∙ sym (t.2 (length l)) ∙ c.loop-s.invariant.1)

pub returns-in-Ok-None : goal.returns-in-Ok-None
returns-in-Ok-None c =
    let l = c.args.file.now in
    let e = rw c.in-Ok-None.field-0-is at c.in-Ok-None.ensures in
    sym (round-end l c.loop-s.w (length l) _ (sym e) c.ended.ensures) ∙ c.loop-s.invariant.1

pub returns-in-Err : goal.returns-in-Err
returns-in-Err c =
    let l = c.args.file.now in
    c.refusal.ensures ∙ sym (round-fault l c.loop-s.w (length l) _ (sym c.in-Err.ensures)) ∙ c.loop-s.invariant.1
