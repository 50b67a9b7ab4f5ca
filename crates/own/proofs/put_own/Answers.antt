-- `own::put_own` meets its contract: the record of the event's own step, or nothing.
-- Assumes nothing.
use Rattle.own.proofs.Writes.{wrote-no-step, wrote-step, room-step}
use Rattle.own.proofs.put_own.Goals as goal

pub put-requires : goal.put-requires
put-requires c = room-step _ _ _ _ c.in-Some.ensures c.requires

pub returns-in-Some : goal.returns-in-Some
returns-in-Some c = wrote-step _ _ _ _ _ _ c.in-Some.ensures c.put.ensures

pub returns-in-None : goal.returns-in-None
returns-in-None c = wrote-no-step _ _ _ c.in-None.ensures
