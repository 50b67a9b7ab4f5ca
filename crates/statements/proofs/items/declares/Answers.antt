-- Written by tools/proofs from the code, the definitions and hints.py: docs/PRODUCTIONS.md says how to change it.
-- `items::declares` meets its contract. Assumes nothing.
use mathlib.Core.Path.{sym, ◌∙◌, refl}
use Rattle.grammar.specs.Items as I
use Rattle.statements.proofs.items.declares.Goals as goal

pub returns-then-is_classical_type : goal.returns-then-is_classical_type
unfolding I.declares
returns-then-is_classical_type c =
    rw (sym c.is_classical_type.ensures ∙ c.if-is_classical_type.true)
    (refl)

pub returns : goal.returns
unfolding I.declares
returns c =
    rw (sym c.is_classical_type.ensures ∙ c.if-is_classical_type.false)
    (refl)
