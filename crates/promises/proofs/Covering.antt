-- The steps of a list cover what its events cover, and say what they say of what was found. Assumes nothing.
use mathlib.Core.Path.{◌≡◌, refl, ◌∙◌}
use mathlib.Core.Bool.{Bool, true, false, cond}
use mathlib.Core.List.{List, [], ◌∷◌}
use Prim.Native.Nat.{ℕ, suc, ◌+◌}
use native.Mathlib.Omega.{arith}
use lib.Dec.{eqb}
use borrow.Author.Tests.{eqb-false}
use Rattle.input.specs.Input.{Env, kind}
use Rattle.event.specs.declared.Event.{Event}
use Rattle.event.specs.declared.Event.TheVariants.{Start, Finish, Token, Error, NoEvent}
use Rattle.runtime.specs.Cover.{Covers}
use Rattle.records.specs.declared.Step.{Step}
use Rattle.records.specs.declared.Step.TheVariants.{Enter as enter, Leave as leave, Token as taken, Error as failed, Expected as wanted}
use Rattle.turns.specs.Process.{Placed, process, steps_of}
use Rattle.listed.specs.Shape.{is_enter, others, plain}
use Rattle.listed.proofs.Order.{in_order}
use Rattle.promises.specs.Promised.{SaysAt, raw_of, CoverSteps, raw_sum}

-- steps that enter say nothing of tokens
cover-others : (e : Env) (ps : List Placed) (i j : ℕ) → CoverSteps e i (steps_of (others ps)) j → CoverSteps e i (steps_of ps) j
unfolding others
cover-others e [] i j h = h
cover-others e (p ∷ ps) i j h = by p.step refl h (cover-others e ps)
  where
    z : i + 0 ≡ i
    z = omega arith

    by : (s : Step) → p.step ≡ s → CoverSteps e i (steps_of (cond (is_enter p.step) (others ps) (p ∷ others ps))) j → ((i j : ℕ) → CoverSteps e i (steps_of (others ps)) j → CoverSteps e i (steps_of ps) j)
        → SaysAt e i p.step × CoverSteps e (i + raw_of p.step) (steps_of ps) j
    by (enter k) q h r = rw (q, z) (tt, r i j (rw q at h))
    by leave q h r = let g : Unit {0} × CoverSteps e (i + 0) (steps_of (others ps)) j = rw q at h in rw q (tt, r (i + 0) j g.1)
    by (taken k n) q h r = let g : SaysAt e i (taken k n) × CoverSteps e (i + n) (steps_of (others ps)) j = rw q at h in rw q (g.0, r (i + n) j g.1)
    by (failed c a) q h r = let g : SaysAt e i (failed c a) × CoverSteps e (i + 0) (steps_of (others ps)) j = rw q at h in rw q (g.0, r (i + 0) j g.1)
    by (wanted k f) q h r = let g : SaysAt e i (wanted k f) × CoverSteps e (i + 0) (steps_of (others ps)) j = rw q at h in rw q (g.0, r (i + 0) j g.1)

-- the steps that are no enter, of a list whose token events cover
cover-plain : (e : Env) (p : ℕ) (l : List Event) (i j : ℕ) → Covers e i l j → CoverSteps e i (steps_of (plain p l)) j
unfolding plain
cover-plain e p [] i j h = h
cover-plain e p (Start k d ∷ l) i j h = cover-plain e (suc p) l i j h.1
cover-plain e p (Finish ∷ l) i j h = let z : i + 0 ≡ i = omega arith in (tt, rw z (cover-plain e (suc p) l i j h.1))
cover-plain e p (Token k n ∷ l) i j h = (h.0, cover-plain e (suc p) l (i + n) j h.1)
cover-plain e p (Error c a f ∷ l) i j h = by (eqb c 1) refl h.0 (cover-plain e (suc p) l i j h.1)
  where
    z : i + 0 ≡ i
    z = omega arith

    by : (t : Bool) → eqb c 1 ≡ t → f ≡ cond t (kind e.kinds i) 0 → CoverSteps e i (steps_of (plain (suc p) l)) j
        → SaysAt e i (cond t (wanted a f) (failed c a)) × CoverSteps e (i + raw_of (cond t (wanted a f) (failed c a))) (steps_of (plain (suc p) l)) j
    by true q s r = (s, rw z r)
    by false q s r = (eqb-false c 1 q, rw z r)
cover-plain e p (NoEvent a b ∷ l) i j h = cover-plain e (suc p) l i j h.1

pub cover-steps : (e : Env) (l : List Event) (i j : ℕ) → Covers e i l j → CoverSteps e i (steps_of (process l).steps) j
cover-steps e l i j h = cover-others e (process l).steps i j (rw (in_order l) (cover-plain e 0 l i j h))

-- what is covered is as much as the raw counts add up to
pub cover-sum : (e : Env) (ss : List Step) (i j : ℕ) → CoverSteps e i ss j → i + raw_sum ss ≡ j
unfolding raw_sum
cover-sum e [] i j h = let z : i + 0 ≡ i = omega arith in z ∙ h
cover-sum e (s ∷ ss) i j h = let g = cover-sum e ss (i + raw_of s) j h.1 in omega (arith, g)
