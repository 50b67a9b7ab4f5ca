-- `first_fault` meets its contract. Assumes nothing.
use mathlib.Core.Path.{sym, ◌∙◌}
use native.Mathlib.Omega.{arith}
use native.Mathlib.Numerals.{add-one}
use Rattle.parse.proofs.Faults.{fault-here, fault-later, fault-none}
use Rattle.parse.proofs.first_fault.Goals as goal

pub loop-i-preserved : goal.loop-i-preserved
loop-i-preserved c =
    let l = c.loop-i in
    let e = fault-later c.args.kinds.now l.i c.loop-i-test.true (sym c.permitted.ensures ∙ c.if-not-permitted.false) in
    rw add-one (omega (arith, l.invariant, e))

pub returns-then-not-permitted : goal.returns-then-not-permitted
returns-then-not-permitted c =
    let l = c.loop-i in
    let e = fault-here c.args.kinds.now l.i c.loop-i-test.true (sym c.permitted.ensures ∙ c.if-not-permitted.true) in
    omega (arith, l.invariant, e)

pub returns : goal.returns
returns c =
    let l = c.loop-i in
    omega (arith, l.invariant, fault-none c.args.kinds.now l.i c.loop-i-test.false)
