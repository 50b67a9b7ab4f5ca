-- What stands behind a part of a line stands behind a longer part of the line that it is of. Assumes nothing.
use Rattle.std.proofs.Common.{◌≡◌, ℕ, ◌+◌, drop, Option, None, Some, IfSome, List, ap, ◌∙◌}
use Rattle.std.proofs.lemmas.List.{drop-drop}

pub behind : {A B : Type 0} (f : A → List B) (found : Option A) (k : ℕ) {rest : List B} (line : List B) → rest ≡ drop k line → IfSome found (λ a. (n : ℕ) × (f a ≡ drop n rest)) → IfSome found (λ a. (n : ℕ) × (f a ≡ drop n line))
behind f None k line q h = h
behind f (Some a) k line q h = (k + h.0, h.1 ∙ ap (drop h.0) q ∙ drop-drop h.0 k line)
