-- `oq3::parse_from` meets its contract.
-- Assumes nothing.
use Rattle.oq3.proofs.Told.{parse-told}
use Rattle.oq3.proofs.parse_from.Goals as goal

pub returns : goal.returns
returns c = parse-told _ _ _ _ _ _ c.parse-said.ensures c.tell.ensures.0 c.tell.ensures.1
