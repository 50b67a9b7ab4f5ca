-- `stepfile::token_at` meets its contract: the raw count is the byte behind the kind. Assumes nothing.
use native.Mathlib.Omega.{arith}
use mathlib.Core.Path.{refl, sym}
use lib.Seq.{get_or-drop}
use Rattle.stepfile.proofs.Fronts.{no-count, high-count, token-counted}
use Rattle.stepfile.proofs.token_at.Goals as goal

pub returns-in-1-to-3 : goal.returns-in-1-to-3
returns-in-1-to-3 c =
    token-counted c.args.file.now c.args.at _ _ c.two_at.ensures refl (λ z. omega arith) (omega arith)

pub returns-in_default : goal.returns-in_default
returns-in_default c = sym (no-count _ (rw get_or-drop (omega arith)))

pub returns-in_default-2 : goal.returns-in_default-2
returns-in_default-2 c = sym (high-count _ (rw get_or-drop (omega arith)))
