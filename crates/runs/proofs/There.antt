-- The one difference between `do_bump` and the crate's `do_bump` shows at EOF alone: every other kind that stands somewhere is there to
-- be consumed. Assumes nothing.
use mathlib.Core.Path.{◌≡◌, refl, sym, ◌∙◌}
use mathlib.Core.Bool.{Bool, true, false}
use Prim.Native.Nat.{ℕ, pred, ◌+◌, ◌≤◌, ◌<◌, min}
use native.Mathlib.Omega.{arith}
use lib.ListN.{length, get_or-eq_default}
use lib.Dec.{eqb, ltb}
use borrow.Author.Tests.{ltb-true, ltb-false, eqb-true, le-leb}
use Rattle.kinds.specs.Kinds.{EOF}
use Rattle.input.specs.declared.Parts.{Parts}
use Rattle.input.specs.declared.Parts.TheVariants.{One, Two, Three}
use Rattle.input.specs.Input.{Env, is_joint, seen, most_tokens}
use Rattle.input.specs.Glue.{parts_of, raw_count, stands_at}
use Rattle.kinds.specs.Membership.{both}
use Rattle.event.specs.declared.Event.TheVariants.{Token}
use Rattle.runtime.specs.State.{St, push_event, consume, do_bump}
use Rattle.runtime.specs.Acts.{kind_ahead, sees}
use Rattle.input.proofs.Reading.{few-parts}
use Rattle.input.proofs.Reading.{both_true, final, final-not-end}
use Rattle.laws.proofs.Tests.{on}

-- a kind other than EOF is seen below the number of tokens
seen_below : (e : Env) (i : ℕ) → (seen e.kinds 0 i ≡ EOF → ⊥) → i < length e.kinds
unfolding seen
seen_below e i h = by (ltb i (length e.kinds)) refl
  where
    by : (b : Bool) → ltb i (length e.kinds) ≡ b → i < length e.kinds
    by true q = ltb-true _ _ q
    by false q = absurd (h (get_or-eq_default e.kinds EOF (ltb-false i (length e.kinds) q)))

-- the last part stands where it should
stands-final : (e : Env) (i : ℕ) (g : Parts) → stands_at e 0 i g ≡ true → seen e.kinds 0 (i + pred (raw_count g)) ≡ final g
unfolding stands_at final
stands-final e i (One a) h = let q : i + 0 ≡ i = omega arith in rw q (eqb-true (seen e.kinds 0 i) a h)
stands-final e i (Two a b) h =
    let u = both_true (eqb (seen e.kinds 0 i) a) (both (eqb (seen e.kinds 0 (i + 1)) b) (is_joint e.joints i)) h in
    eqb-true (seen e.kinds 0 (i + 1)) b (both_true (eqb (seen e.kinds 0 (i + 1)) b) (is_joint e.joints i) u.1).0
stands-final e i (Three a b c) h =
    let r = both (is_joint e.joints i) (is_joint e.joints (i + 1)) in
    let u = both_true (eqb (seen e.kinds 0 i) a) (both (eqb (seen e.kinds 0 (i + 1)) b) (both (eqb (seen e.kinds 0 (i + 2)) c) r)) h in
    let v = both_true (eqb (seen e.kinds 0 (i + 1)) b) (both (eqb (seen e.kinds 0 (i + 2)) c) r) u.1 in
    eqb-true (seen e.kinds 0 (i + 2)) c (both_true (eqb (seen e.kinds 0 (i + 2)) c) r v.1).0

module _ (e : Env) (few : length e.kinds ≤ most_tokens) (s : St) (z : s.p.refused ≡ 0) where
  -- what `eat` consumes
  pub eats-there : (k : ℕ) → (k ≡ EOF → ⊥) → sees e s.p k ≡ true → do_bump e k (raw_count (parts_of k)) s ≡ consume (raw_count (parts_of k)) (push_event (Token k (raw_count (parts_of k))) s)
  unfolding do_bump
  eats-there k n h = sym (on _ _ (le-leb (s.p.pos + raw_count (parts_of k)) (min (length e.kinds) most_tokens) (omega (arith, below, (few-parts (parts_of k)).0))))
    where
      here : stands_at e 0 s.p.pos (parts_of k) ≡ true
      here = let r : s.p.pos + 0 ≡ s.p.pos = omega arith in rw (z, r) at h

      below : s.p.pos + pred (raw_count (parts_of k)) < length e.kinds
      below = seen_below e (s.p.pos + pred (raw_count (parts_of k))) (λ q. n (final-not-end k (sym (stands-final e s.p.pos (parts_of k) here) ∙ q)))

  -- and what `bump_any` does
  pub takes-there : (kind_ahead e s.p 0 ≡ EOF → ⊥) → do_bump e (kind_ahead e s.p 0) 1 s ≡ consume 1 (push_event (Token (kind_ahead e s.p 0) 1) s)
  unfolding do_bump
  takes-there n = sym (on _ _ (le-leb (s.p.pos + 1) (min (length e.kinds) most_tokens) (omega (arith, seen_below e (s.p.pos + 0) (λ q. n (rw z q))))))
