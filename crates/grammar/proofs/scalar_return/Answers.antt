-- Written by tools/proofs from the code, the definitions and hints.py: docs/PRODUCTIONS.md says how to change it.
-- `scalar_return` meets its contract. Assumes nothing.
use Rattle.runtime.proofs.Laws.{peek, any, ends}
use mathlib.Core.Path.{sym, ◌∙◌}
use Rattle.grammar.specs.Grammar as G
use Rattle.grammar.proofs.scalar_return.Goals as goal

pub returns-then-is_scalar_type : goal.returns-then-is_scalar_type
unfolding G.scalar_return
returns-then-is_scalar_type c =
    peek _ _ _ _ _ c.current-p.ensures
    (rw (sym c.is_scalar_type.ensures ∙ c.if-is_scalar_type.true)
    (ends _ _ _))

pub returns : goal.returns
unfolding G.scalar_return
returns c =
    peek _ _ _ _ _ c.current-p.ensures
    (rw (sym c.is_scalar_type.ensures ∙ c.if-is_scalar_type.false)
    (any _ _ _ c.error.ensures))
