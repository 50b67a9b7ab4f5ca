use mathlib.Core.Path.{ap, ◌∙◌}
use mathlib.Core.Bool.{Bool, not}
use native.Mathlib.Omega.{arith}
use lib.ListN.{length}
use mir.Val.{bool_byte}
use Rattle.lex.proofs.Bits.{bit-small}
use Rattle.lex.proofs.Writing.{count-on, count-few, count-end}
use Rattle.lex.proofs.count.Goals as goal

pub overflow_add-n : goal.overflow_add-n
overflow_add-n c = omega (arith, count-few c.args.all.rest.now c.loop-t.invariant.counted, ap length c.in-Some.ensures.steps, c.args.all.few)

pub overflow_add-n-in-loop-t : goal.overflow_add-n-in-loop-t
overflow_add-n-in-loop-t c = omega (arith, count-few c.args.all.rest.now c.loop-t.invariant.counted, bit-small (not c.is_trivia.result), c.from.ensures, c.args.all.few)

pub loop-t-preserved : goal.loop-t-preserved
loop-t-preserved c =
    record {
      ready = _;
      ends = _;
      counted = count-on c.in-Some.t.kind c.in-Some.t.len _ c.loop-t.invariant.counted c.in-Some.ensures.steps (c.from.ensures ∙ ap (λ (b : Bool). bool_byte (not b)) c.is_trivia.ensures);
    }

pub returns : goal.returns
returns c = count-end c.loop-t.invariant.counted c.in-None.ensures.steps.0
