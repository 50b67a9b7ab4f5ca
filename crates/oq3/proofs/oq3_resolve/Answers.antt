-- `oq3::oq3_resolve` meets its contract: the resolution's outcome, told.
-- Assumes nothing.
use Rattle.oq3.proofs.Told.{no_room, is-told}
use Rattle.oq3.proofs.oq3_resolve.Goals as goal

pub returns-then-answer-eq0 : goal.returns-then-answer-eq0
returns-then-answer-eq0 c = no_room _ _ _ _ c.if-answer-eq0.true

pub returns : goal.returns
returns c = is-told _ _ _ _ _ _ _ _ _ c.if-answer-eq0.false c.resolve-a.ensures c.code.ensures c.place.ensures
