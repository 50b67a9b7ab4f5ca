-- `parser::Parser::err_recover` meets its contract. Assumes nothing.
use Rattle.runtime.specs.Acts.{err_recover}
use Rattle.runtime.proofs.Laws.{then, step, peek, so, not, any, ends}
use Rattle.runtime.proofs.Cases.{one-first, one_later, one_none}
use Rattle.runtime.proofs.parser.Parser.err_recover.Goals as goal

pub returns-then-kind-eq-L_CURLY : goal.returns-then-kind-eq-L_CURLY
unfolding err_recover
returns-then-kind-eq-L_CURLY c = peek _ _ _ _ _ c.current-p.ensures (so _ _ _ _ (one-first _ _ _ c.if-kind-eq-L_CURLY.true) (any _ _ _ c.error.ensures))

pub returns-then-kind-eq-R_CURLY : goal.returns-then-kind-eq-R_CURLY
unfolding err_recover
returns-then-kind-eq-R_CURLY c = peek _ _ _ _ _ c.current-p.ensures (so _ _ _ _ (one_later _ _ _ c.if-kind-eq-L_CURLY.false (one-first _ _ _ c.if-kind-eq-R_CURLY.true)) (any _ _ _ c.error-then-kind-eq-R_CURLY.ensures))

pub returns-then-recovers : goal.returns-then-recovers
unfolding err_recover
returns-then-recovers c = peek _ _ _ _ _ c.current-p.ensures (not _ _ _ _ (one_later _ _ _ c.if-kind-eq-L_CURLY.false (one_later _ _ _ c.if-kind-eq-R_CURLY.false (one_none _))) (peek _ _ _ _ _ c.at_ts-p.ensures (so _ _ _ _ c.if-recovers.true (any _ _ _ c.error-then-recovers.ensures))))

pub returns : goal.returns
unfolding err_recover
returns c = peek _ _ _ _ _ c.current-p.ensures (not _ _ _ _ (one_later _ _ _ c.if-kind-eq-L_CURLY.false (one_later _ _ _ c.if-kind-eq-R_CURLY.false (one_none _))) (peek _ _ _ _ _ c.at_ts-p.ensures (not _ _ _ _ c.if-recovers.false (step _ _ _ _ c.start-p.ensures (step _ _ _ _ c.error-p.ensures (then _ _ _ _ c.bump_any-p.ensures (step _ _ _ _ c.complete-p.ensures (ends _ _ _))))))))
