-- `token_set::token_set_works_for_tokens` says yes: what the union holds is what either set holds, and that is computed. Assumes nothing.
use Rattle.std.proofs.Common.{sym, ap, ◌∙◌, Bool, not, ℕ}
use Rattle.kinds.specs.Kinds.{EOF, COMMENT, PLUS}
use Rattle.kinds.specs.Membership.{bit}
use Rattle.kinds.proofs.token_set.token_set_works_for_tokens.Goals as goal

pub returns-then-not-contains : goal.returns-then-not-contains
unfolding bit
returns-then-not-contains c = sym c.if-not-contains.true ∙ c.contains.ensures ∙ ap (λ (f : ℕ → Bool). f EOF) c.union-ts.ensures

pub returns-then-not-contains-2 : goal.returns-then-not-contains-2
unfolding bit
returns-then-not-contains-2 c = sym c.if-not-contains-2.true ∙ c.contains-2.ensures ∙ ap (λ (f : ℕ → Bool). f COMMENT) c.union-ts.ensures

pub returns : goal.returns
unfolding bit
returns c = ap not (c.contains-3.ensures ∙ ap (λ (f : ℕ → Bool). f PLUS) c.union-ts.ensures)
