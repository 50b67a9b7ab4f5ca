-- Written by tools/proofs from the code, the definitions and hints.py: docs/PRODUCTIONS.md says how to change it.
-- `expressions::args_end` meets its contract. Assumes nothing.
use Rattle.runtime.proofs.Laws.{then, step, ends}
use Rattle.grammar.specs.Expressions as E
use Rattle.terms.proofs.expressions.args_end.Goals as goal

pub returns : goal.returns
unfolding E.args_end
returns c =
    then _ _ _ _ c.expect-p.ensures
    (step _ _ _ _ c.complete-p.ensures
    (step _ _ _ _ c.complete-p-2.ensures
    (ends _ _ _)))
