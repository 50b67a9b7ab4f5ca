-- `input::is_plain` meets its contract: the constant's bits say which kinds are one token. Assumes nothing.
use mathlib.Core.Path.{refl}
use Rattle.input.proofs.Plain.{bits-plain, above-plain}
use Rattle.input.proofs.is_plain.Goals as goal

pub returns-then-kind-gt63 : goal.returns-then-kind-gt63
returns-then-kind-gt63 c = above-plain _ c.if-kind-gt63.true

pub returns : goal.returns
returns c = bits-plain _ c.if-kind-gt63.false refl
