-- `lists::pass_plain` meets its contract: no start, so what stands behind does not matter. Assumes nothing.
use native.Mathlib.Omega.{arith}
use Prim.Native.Nat.{ℕ, zero, suc, ◌-◌}
use mathlib.Core.Path.{◌≡◌, refl, sym, ap, ◌∙◌}
use mathlib.Core.Bool.{true≢false}
use mathlib.Core.Logic.{inl, inr}
use mathlib.Core.List.{List}
use Rattle.event.specs.declared.Event.{Event}
use Rattle.event.specs.declared.Event.TheVariants.{Finish}
use Rattle.event.specs.Event.{is_start}
use Rattle.lists.specs.Check.{Next.Open, next}
use Rattle.lists.proofs.pass_plain.Goals as goal

-- a finish closes one node
closes : (o : ℕ) (es : List Event) → (o ≡ 0 → ⊥) → next Finish o es ≡ Open (o - 1)
unfolding next
closes zero es n = absurd (n refl)
closes (suc o) es n = let q : suc o - 1 ≡ o = omega arith in rw q

pub returns-then-held-eq0 : goal.returns-then-held-eq0
unfolding next
returns-then-held-eq0 c es = ap (λ (e : Event). next e c.args.held es) c.in-Finish.is ∙ rw c.if-held-eq0.true

pub returns-else-held-eq0 : goal.returns-else-held-eq0
unfolding next
returns-else-held-eq0 c es = (ap (λ (e : Event). next e c.args.held es) c.in-Finish.is ∙ closes _ es c.if-held-eq0.false, c.cost.ensures)

pub returns-in-Token : goal.returns-in-Token
unfolding next
returns-in-Token c es = (elim c.in-Token.is [ inl (k, n, e) ↦ is e | inr (d, x, f, e) ↦ is e ], c.cost-in-Token.ensures)
  where
    is : {e : Event} → c.args.e ≡ e → next c.args.e c.args.held es ≡ next e c.args.held es
    is e = ap (λ (e : Event). next e c.args.held es) e

-- no start is meant, and words that say no event
pub returns-in-Start : goal.returns-in-Start
unfolding next
returns-in-Start c es = elim c.in-Start.is [
  | inl (k, d, e) ↦ absurd (true≢false (sym (ap is_start e) ∙ c.requires))
  | inr (a, b, e) ↦ ap (λ (e : Event). next e c.args.held es) e
]
