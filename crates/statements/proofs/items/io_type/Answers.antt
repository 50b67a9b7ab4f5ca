-- Written by tools/proofs from the code, the definitions and hints.py: docs/PRODUCTIONS.md says how to change it.
-- `items::io_type` meets its contract. Assumes nothing.
use Rattle.runtime.proofs.Laws.{peek, any, ends}
use mathlib.Core.Path.{sym, ◌∙◌}
use Rattle.grammar.specs.Items as I
use Rattle.statements.proofs.items.io_type.Goals as goal

pub returns-then-is_classical_type : goal.returns-then-is_classical_type
unfolding I.io_type
returns-then-is_classical_type c =
    peek _ _ _ _ _ c.current-p.ensures
    (rw (sym c.is_classical_type.ensures ∙ c.if-is_classical_type.true)
    (ends _ _ _))

pub returns : goal.returns
unfolding I.io_type
returns c =
    peek _ _ _ _ _ c.current-p.ensures
    (rw (sym c.is_classical_type.ensures ∙ c.if-is_classical_type.false)
    (any _ _ _ c.error.ensures))
