-- Written by tools/proofs from the code, the definitions and hints.py: docs/PRODUCTIONS.md says how to change it.
-- `expressions::type_name` meets its contract. Assumes nothing.
use Rattle.runtime.proofs.Laws.{peek, any}
use mathlib.Core.Path.{sym, ◌∙◌}
use Rattle.grammar.specs.Expressions as E
use Rattle.terms.proofs.expressions.type_name.Goals as goal

pub returns-then-is_type : goal.returns-then-is_type
unfolding E.type_name
returns-then-is_type c =
    peek _ _ _ _ _ c.current-p.ensures
    (rw (sym c.is_type.ensures ∙ c.if-is_type.true)
    (peek _ _ _ _ _ c.current-p-then-is_type.ensures
    c.bump.ensures))

pub returns : goal.returns
unfolding E.type_name
returns c =
    peek _ _ _ _ _ c.current-p.ensures
    (rw (sym c.is_type.ensures ∙ c.if-is_type.false)
    (any _ _ _ c.error.ensures))
