-- `parser::Parser::at_ts` meets its contract. Assumes nothing.
use Rattle.runtime.specs.Acts.{at_ts}
use Rattle.runtime.proofs.Laws.{only, peek, ends}
use Rattle.runtime.proofs.parser.Parser.at_ts.Goals as goal

pub returns : goal.returns
unfolding at_ts
returns c = only _ _ _ (λ room. peek _ _ _ _ _ c.current-p.ensures (rw c.has.ensures (ends _ _ _)))
