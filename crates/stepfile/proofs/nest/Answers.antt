-- `stepfile::nest` meets its contract. Assumes nothing.
use mathlib.Core.Path.{sym, ◌∙◌}
use mathlib.Core.Logic.{inl, inr}
use Rattle.stepfile.proofs.Nestings.{nest-inside, nest-first, nest-closed}
use Rattle.stepfile.proofs.nest.Goals as goal

pub returns-then-records-ne0 : goal.returns-then-records-ne0
returns-then-records-ne0 c = sym (nest-closed _ _ _ c.if-held-eq0.true c.if-records-ne0.true)

pub returns : goal.returns
returns c = c.after.ensures ∙ sym (elim c.else-held-eq0.either [ inl (_, z) ↦ nest-first _ _ _ z | inr n ↦ nest-inside _ _ _ n ])
