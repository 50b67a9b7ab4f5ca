-- `input::raw_of` meets its contract: the match is compiled to ranges of kinds. Assumes nothing.
use Rattle.std.proofs.Common.{refl, sym, ◌∙◌, arith}
use Rattle.kinds.specs.Kinds.{DOT3, DOT2EQ, SHLEQ, SHREQ}
use Rattle.input.specs.Glue.{parts_of}
use Rattle.input.proofs.Plain.{pair-raw, three-raw}
use Rattle.input.proofs.raw_of.Goals as goal

pub returns-in-28 : goal.returns-in-28
unfolding parts_of
returns-in-28 c = three-raw c.args.kind DOT3 DOT2EQ (omega arith) (omega arith) refl refl refl

pub returns-in-28-2 : goal.returns-in-28-2
unfolding parts_of
returns-in-28-2 c = three-raw c.args.kind SHLEQ SHREQ (omega arith) (omega arith) refl refl refl

pub returns-in_default : goal.returns-in_default
returns-in_default c = pair-raw _ (sym c.is_plain.ensures ∙ c.if-is_plain.false) (λ e. omega (arith, e)) (λ e. omega (arith, e)) (λ e. omega (arith, e)) (λ e. omega (arith, e))

pub returns-in_default-2 : goal.returns-in_default-2
returns-in_default-2 c = pair-raw _ (sym c.is_plain.ensures ∙ c.if-is_plain.false) (λ e. omega (arith, e)) (λ e. omega (arith, e)) (λ e. omega (arith, e)) (λ e. omega (arith, e))

pub returns-in_default-3 : goal.returns-in_default-3
returns-in_default-3 c = pair-raw _ (sym c.is_plain.ensures ∙ c.if-is_plain.false) (λ e. omega (arith, e)) (λ e. omega (arith, e)) (λ e. omega (arith, e)) (λ e. omega (arith, e))
