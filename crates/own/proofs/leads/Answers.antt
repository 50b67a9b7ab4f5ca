-- `own::leads` meets its contract: tag 1 is a start's.
-- Assumes nothing.
use Rattle.own.proofs.Says.{leads-start, leads-none}
use Rattle.own.proofs.leads.Goals as goal

pub returns-then-a-lt131072 : goal.returns-then-a-lt131072
returns-then-a-lt131072 c = leads-start _ _ c.requires c.if-a-lt131072.true

pub returns-else-a-lt131072 : goal.returns-else-a-lt131072
returns-else-a-lt131072 c = leads-none _ _ c.if-a-lt131072.false
