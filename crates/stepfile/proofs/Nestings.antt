-- The nodes open past a record, and the end of a walk, by what the code tests. Assumes nothing.
use Prim.Native.Nat.{ℕ, zero, suc, ◌≤◌, ◌<◌}
use native.Mathlib.Omega.{arith}
use mathlib.Core.Path.{◌≡◌, refl}
use Rattle.std.specs.Prelude.{Some, None}
use Rattle.records.specs.declared.Step.{Step}
use Rattle.records.specs.declared.Step.TheVariants.{Enter, Leave, Token, Error, Expected}
use Rattle.stepfile.specs.Answer.{says, refuses}
use Rattle.stepfile.specs.Nesting.{after, nest}
use Rattle.stepfile.specs.File.{ended}

-- any step past a node that is open
pub nest-inside : (r o : ℕ) (s : Step) → (o ≡ 0 → ⊥) → nest r o s ≡ after o s
unfolding nest
nest-inside zero o s n = refl
nest-inside (suc r) zero s n = absurd (n refl)
nest-inside (suc r) (suc o) s n = refl

-- the first record, and a further one where no node is open
pub nest-first : (r o : ℕ) (s : Step) → r ≡ 0 → nest r o s ≡ after o s
unfolding nest
nest-first r o s e = rw e

pub nest-closed : (r o : ℕ) (s : Step) → o ≡ 0 → (r ≡ 0 → ⊥) → nest r o s ≡ None
unfolding nest
nest-closed zero o s e n = absurd (n refl)
nest-closed (suc r) o s e n = rw e

-- a record opens one node at most
pub opens_one : (r o : ℕ) (s : Step) (p : ℕ) → nest r o s ≡ Some p → p ≤ suc o
unfolding nest
opens_one r o s = on r o s
  where
    same : (m p : ℕ) → Some m ≡ Some p → m ≡ p
    same m p e = cc

    never : (p : ℕ) → None ≡ Some p → ⊥
    never p e = let z : ◌≡◌ {A = ℕ} 0 1 = cc in omega arith

    by : (o : ℕ) (s : Step) (p : ℕ) → after o s ≡ Some p → p ≤ suc o
    by o (Enter k) p e = omega (arith, same (suc o) p e)
    by zero Leave p e = absurd (never p e)
    by (suc o) Leave p e = omega (arith, same o p e)
    by o (Token k n) p e = omega (arith, same o p e)
    by o (Error c x) p e = omega (arith, same o p e)
    by o (Expected k f) p e = omega (arith, same o p e)

    on : (r o : ℕ) (s : Step) (p : ℕ) → nest r o s ≡ Some p → p ≤ suc o
    on zero o s p e = by o s p e
    on (suc r) zero s p e = absurd (never p e)
    on (suc r) (suc o) s p e = by (suc o) s p e

-- the end of a walk
pub ended-none : (at r o : ℕ) → r ≡ 0 → ended at r o ≡ refuses 13 at
unfolding ended
ended-none at r o e = rw e

pub ended-closed : (at r o : ℕ) → (r ≡ 0 → ⊥) → o ≡ 0 → ended at r o ≡ says 0 at r
unfolding ended
ended-closed at zero o n e = absurd (n refl)
ended-closed at (suc r) o n e = rw e

pub ended-open : (at r o : ℕ) → (o ≡ 0 → ⊥) → ended at r o ≡ refuses 13 at
unfolding ended
ended-open at zero o n = refl
ended-open at (suc r) zero n = absurd (n refl)
ended-open at (suc r) (suc o) n = refl

-- a good end has a record behind it and no node open
pub ended-good : (at r o : ℕ) → (ended at r o).code ≡ 0 → (0 < r) × (o ≡ 0)
unfolding ended
ended-good at zero o e = absurd (omega arith)
ended-good at (suc r) zero e = (omega arith, refl)
ended-good at (suc r) (suc o) e = absurd (omega arith)
