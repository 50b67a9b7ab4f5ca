use mathlib.Core.Path.{ap, ◌∙◌}
use native.Mathlib.Omega.{arith}
use mir.Val.{bool_byte}
use Rattle.std.specs.Prelude.{Option, is_some}
use Prim.Native.Nat.{ℕ, ◌+◌}
use Rattle.lex.specs.Lexing.{lent}
use Rattle.lex.proofs.Writing.{rooms, token-there, kind-there, onward, settled, finish}
use Rattle.lex.proofs.put_all.Goals as goal

pub put-requires : goal.put-requires
put-requires c =
    omega (arith, token-there c.in-Some.t.kind c.in-Some.t.len c.loop-t.invariant.written c.in-Some.ensures.steps, (rooms (lent c.args.all.rest.now c.args.kinds.now c.args.joints.now c.args.tokens.now) c.requires).words, c.loop-t.auto.tokens)

pub put_part-waiting-requires-clause-m_in_bounds : goal.put_part-waiting-requires-clause-m_in_bounds
put_part-waiting-requires-clause-m_in_bounds c =
    λ e. omega (arith, kind-there c.in-Some.t.kind c.in-Some.t.len c.loop-t.invariant.written c.in-Some.ensures.steps e, (rooms (lent c.args.all.rest.now c.args.kinds.now c.args.joints.now c.args.tokens.now) c.requires).numbers, c.loop-t.auto.kinds)

pub loop-t-preserved : goal.loop-t-preserved
loop-t-preserved c =
    let k = c.in-Some.t.kind in
    let len = c.in-Some.t.len in
    let h = c.loop-t.invariant.written in
    let t = c.in-Some.ensures.steps in
    let p = c.put_part-waiting.ensures in
    let r = rooms (lent c.args.all.rest.now c.args.kinds.now c.args.joints.now c.args.tokens.now) c.requires in
    record {
      ready = _;
      ends = _;
      written =
          settled p.kinds p.joints c.put.ensures
          (ap (λ (x : ℕ). c.loop-t.n.kinds + x) (c.from.ensures ∙ ap bool_byte (c.is_some.ensures ∙ ap (λ (o : Option ℕ). is_some o) p.waits)))
          p.waits
          (onward k len h t (omega (arith, token-there k len h t, r.words)) (λ e. omega (arith, kind-there k len h t e, r.numbers)));
    }

pub returns : goal.returns
returns c = finish c.loop-t.invariant.written c.in-None.ensures.steps.0 c.put_waiting.ensures
