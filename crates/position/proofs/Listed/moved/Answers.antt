use native.Mathlib.Omega.{arith}
use mathlib.Core.Path.{sym, ap, ◌∙◌}
use Rattle.position.specs.declared.Cursor.{Cursor}
use Rattle.position.specs.Inside.{cursor}
use Rattle.position.proofs.Moves.{cursor-comes, cursor-goes}
use Rattle.position.proofs.Theorems.{is-token}
use Rattle.position.proofs.Listed.moved.Goals as goal

pub past_token-c-requires-clause-token_bound : goal.past_token-c-requires-clause-token_bound
past_token-c-requires-clause-token_bound c = let i = c.loop-self.invariant in
    (cursor-goes _ _ _ _ i.0 i.1 (sym c.has_come.ensures ∙ c.loop-self-test.true)).0

pub loop-self-smaller : goal.loop-self-smaller
loop-self-smaller c =
    let i = c.loop-self.invariant in
    let g = cursor-goes _ _ _ _ i.0 i.1 (sym c.has_come.ensures ∙ c.loop-self-test.true) in
    omega (arith, g.0, ap (λ (x : Cursor). x.token) c.past_token-c.ensures)

pub loop-self-preserved : goal.loop-self-preserved
loop-self-preserved c =
    let i = c.loop-self.invariant in
    let g = cursor-goes _ _ _ _ i.0 i.1 (sym c.has_come.ensures ∙ c.loop-self-test.true) in
    let e = c.past_token-c.ensures in
    let h = ap (λ (x : Cursor). x.token) e in
    (record { is = e ∙ ap (cursor _ _) (sym h); inside = omega (arith, g.0, h) }, omega (arith, g.1, ap (λ (x : Cursor). x.place) e))

pub returns-clause-value : goal.returns-clause-value
returns-clause-value c = let i = c.loop-self.invariant in
    let a = cursor-comes _ _ _ _ i.0 i.1 (sym c.has_come.ensures ∙ c.loop-self-test.false) in
    i.0.is ∙ ap (cursor _ _) (is-token _ _ _ a)
