-- `oq3::oq3_check` meets its contract: the check's answer, told.
-- Assumes nothing.
use Rattle.lists.specs.Answer.{Numbers}
use Rattle.events.specs.Resolve.{ends}
use Rattle.oq3.proofs.Told.{no_room, is-told}
use mathlib.Core.Path.{sym, ap}
use mathlib.Core.List.{[]}
use Rattle.oq3.proofs.oq3_check.Goals as goal

pub returns-then-answer-eq0 : goal.returns-then-answer-eq0
returns-then-answer-eq0 c = no_room _ _ _ _ c.if-answer-eq0.true

pub returns : goal.returns
returns c =
    is-told _ _ _ _ _ _ _ _ _ c.if-answer-eq0.false (ap (λ (a : Numbers). ends a c.args.words.now []) (sym c.check-a.ensures)) c.code.ensures c.place.ensures
