-- `stepfile::step_at` meets its contract: the end, a head or a payload that runs past it, and a whole record. Assumes nothing.
use native.Mathlib.Omega.{arith}
use mathlib.Core.Path.{sym, ◌∙◌}
use Rattle.stepfile.proofs.Fronts.{at-end, at_cut, at-whole}
use Rattle.stepfile.proofs.step_at.Goals as goal

pub returns-then-at-file : goal.returns-then-at-file
returns-then-at-file c = sym (at-end _ _ c.if-at-file.true)

pub returns-then-left-lt4 : goal.returns-then-left-lt4
returns-then-left-lt4 c = sym (at_cut _ _ c.if-at-file.false (omega arith))

pub returns-then-left-head : goal.returns-then-left-head
returns-then-left-head c = sym (at_cut _ _ c.if-at-file.false (omega (arith, c.head_at-head.ensures.size)))

pub returns : goal.returns
returns c = c.record_at.ensures ∙ sym (at-whole _ _ c.if-at-file.false (omega (arith, c.head_at-head.ensures.size)))
