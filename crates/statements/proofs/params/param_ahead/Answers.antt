-- Written by tools/proofs from the code, the definitions and hints.py: docs/PRODUCTIONS.md says how to change it.
-- `params::param_ahead` meets its contract. Assumes nothing.
use Rattle.runtime.proofs.Laws.{peek, peeks, only, ends}
use mathlib.Core.Path.{sym, ◌∙◌}
use Rattle.grammar.specs.Params as P
use Rattle.statements.proofs.params.param_ahead.Goals as goal

pub returns-then-is_type : goal.returns-then-is_type
unfolding P.param_ahead
returns-then-is_type c =
    only _ _ _ (λ room. peek _ _ _ _ _ c.current-p.ensures
    (rw (sym c.is_type.ensures ∙ c.if-is_type.true)
    (ends _ _ _)))

pub returns : goal.returns
unfolding P.param_ahead
returns c =
    only _ _ _ (λ room. peek _ _ _ _ _ c.current-p.ensures
    (rw (sym c.is_type.ensures ∙ c.if-is_type.false)
    (peeks _ _ _ _ c.at_ts.ensures)))
