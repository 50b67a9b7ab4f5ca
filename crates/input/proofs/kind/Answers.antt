-- `input::kind` meets its contract. Assumes nothing.
use borrow.Author.Tests.{ne_eqb}
use mathlib.Core.Path.{sym}
use Rattle.input.proofs.Reading.{unseen}
use Rattle.input.proofs.Reading.{kind-there, kind-beyond}
use Rattle.input.proofs.kind.Goals as goal

pub returns-then-i-kinds : goal.returns-then-i-kinds
returns-then-i-kinds c = kind-there _ _ _ c.if-refused-eq0.true c.if-i-kinds.true

pub returns-else-i-kinds : goal.returns-else-i-kinds
returns-else-i-kinds c = kind-beyond _ _ _ c.if-refused-eq0.true c.if-i-kinds.false

pub returns-else-refused-eq0 : goal.returns-else-refused-eq0
returns-else-refused-eq0 c = sym (unseen _ _ _ (ne_eqb _ _ c.if-refused-eq0.false))
