-- Each token that steps stand for is in exactly one token step. Assumes nothing.
use mathlib.Core.Path.{◌≡◌, refl, ap}
use mathlib.Core.Bool.{Bool, true, false}
use mathlib.Core.List.{List, [], ◌∷◌}
use Prim.Native.Nat.{ℕ, zero, suc, ◌-◌, ◌≤◌, ◌<◌}
use native.Mathlib.Omega.{arith}
use lib.Dec.{ltb}
use borrow.Author.Tests.{ltb-true, ltb-false}
use Rattle.records.specs.declared.Step.{Step}
use Rattle.records.specs.declared.Step.TheVariants.{Enter as enter, Leave as leave, Token as taken, Error as failed, Expected as wanted}
use Rattle.promises.specs.Promised.{raw_of, raw_sum}
use Rattle.fromtext.specs.FromText.{raw_to, InStep, StepOnce}

-- a step that stands for tokens is a token step
token-step : (s : Step) → 0 < raw_of s → (k : ℕ) × (s ≡ taken k (raw_of s))
token-step (enter k) h = absurd (omega arith)
token-step leave h = absurd (omega arith)
token-step (taken k n) h = (k, refl)
token-step (failed c a) h = absurd (omega arith)
token-step (wanted k f) h = absurd (omega arith)

pub steps-once : (ss : List Step) (t : ℕ) → t < raw_sum ss → StepOnce ss t
unfolding raw_to raw_sum
steps-once [] t h = absurd (omega arith)
steps-once (s ∷ ss) t h = by (ltb t (raw_of s)) refl (λ l. steps-once ss (t - raw_of s) (omega (arith, h, l)))
  where
    by : (x : Bool) → ltb t (raw_of s) ≡ x → (raw_of s ≤ t → StepOnce ss (t - raw_of s)) → StepOnce (s ∷ ss) t
    by true e f = record { number = 0; in-it = record { kind = own.0; raw = raw_of s; is = own.1; begun = omega arith; unended = omega (arith, l) }; only = only }
      where
        l : t < raw_of s
        l = ltb-true t (raw_of s) e

        own : (k : ℕ) × (s ≡ taken k (raw_of s))
        own = token-step s (omega (arith, l))

        only : (j : ℕ) → InStep (s ∷ ss) j t → j ≡ 0
        only zero i = refl
        only (suc j) i = absurd (omega (arith, l, i.begun))
    by false e f =
        record {
          number = suc more.number;
          in-it = record { kind = more.in-it.kind; raw = more.in-it.raw; is = more.in-it.is; begun = omega (arith, l, more.in-it.begun); unended = omega (arith, l, more.in-it.unended) };
          only = only;
        }
      where
        l : raw_of s ≤ t
        l = ltb-false t (raw_of s) e

        more : StepOnce ss (t - raw_of s)
        more = f l

        only : (j : ℕ) → InStep (s ∷ ss) j t → j ≡ suc more.number
        only zero i = absurd (omega (arith, l, i.unended, ap raw_of i.is))
        only (suc j) i = ap suc (more.only j (record { kind = i.kind; raw = i.raw; is = i.is; begun = omega (arith, l, i.begun); unended = omega (arith, l, i.unended) }))
