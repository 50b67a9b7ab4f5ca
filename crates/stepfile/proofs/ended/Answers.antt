-- `stepfile::ended` meets its contract. Assumes nothing.
use mathlib.Core.Path.{sym}
use mathlib.Core.Logic.{inl, inr}
use Rattle.stepfile.proofs.Nestings.{ended-none, ended-closed, ended-open}
use Rattle.stepfile.proofs.ended.Goals as goal

pub returns-then-w-eq0 : goal.returns-then-w-eq0
returns-then-w-eq0 c = sym (elim c.then-w-eq0.either [ inl z ↦ ended-none _ _ _ z | inr (_, n) ↦ ended-open _ _ _ n ])

pub returns : goal.returns
returns c = sym (ended-closed _ _ _ c.if-w-eq0.false c.if-w-ne0.false)
