-- Written by tools/proofs from the code, the definitions and hints.py: docs/PRODUCTIONS.md says how to change it.
-- `entry::expression` meets its contract. Assumes nothing.
use Rattle.runtime.proofs.Laws.{then, ends}
use Rattle.grammar.specs.Entry as T
use Rattle.cycle.proofs.entry.expression.Goals as goal

pub returns : goal.returns
unfolding T.one_expression
returns c =
    then _ _ _ _ c.expr_bp-p.ensures
    (ends _ _ _)
