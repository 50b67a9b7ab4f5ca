-- `stepfile::expected_at` meets its contract: the code is 1, and the two kinds stand behind it. Assumes nothing.
use mathlib.Core.Path.{sym, ◌∙◌}
use Rattle.stepfile.proofs.Fronts.{expected-coded, expected-other}
use Rattle.stepfile.proofs.expected_at.Goals as goal

pub returns-then-two_at-ne1 : goal.returns-then-two_at-ne1
returns-then-two_at-ne1 c = let a = c.args in expected-other a.file.now a.at (λ e. c.if-two_at-ne1.true (c.two_at.ensures ∙ e))

pub returns : goal.returns
returns c =
    let a = c.args in
    expected-coded a.file.now a.at _ _ (sym c.two_at.ensures ∙ c.if-two_at-ne1.false) c.two_at-2.ensures c.two_at-3.ensures
