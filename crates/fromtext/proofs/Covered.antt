-- The kinds that steps cover, written out, are those that stand there. Assumes nothing.
use mathlib.Core.Path.{◌≡◌, refl, sym, ap, ap₂, ◌∙◌}
use mathlib.Core.Logic.{◌⊎◌, inl, inr}
use mathlib.Core.Bool.{Bool, true, false, cond}
use mathlib.Core.List.{List, [], ◌∷◌, ◌++◌, append_assoc, append-nil}
use Prim.Native.Nat.{ℕ, suc, ◌+◌, ◌≤◌}
use native.Mathlib.Omega.{arith}
use lib.Dec.{eqb}
use lib.ListN.{length, drop, drop_of_length-le}
use lib.Seq.{drop-cons}
use borrow.Author.Tests.{eqb-true, eqb-false}
use Rattle.kinds.specs.Kinds.{EOF}
use Rattle.kinds.specs.Membership.{both}
use Rattle.laws.proofs.Tests.{apart}
use Rattle.input.specs.declared.Parts.{Parts}
use Rattle.input.specs.declared.Parts.TheVariants.{One, Two, Three}
use Rattle.input.specs.Input.{Env, seen}
use Rattle.input.specs.Glue.{glued_kinds, parts_in, parts_of, raw_count, stands_at}
use Rattle.input.proofs.Reading.{both_true}
use Rattle.runtime.specs.Cover.{Stands}
use Rattle.records.specs.declared.Step.{Step}
use Rattle.records.specs.declared.Step.TheVariants.{Enter as enter, Leave as leave, Token as taken, Error as failed, Expected as wanted}
use Rattle.promises.specs.Promised.{SaysAt, raw_of, CoverSteps}
use Rattle.fromtext.specs.FromText.{part_kinds, step_kinds, steps_kinds}

-- parts that stand at i are the next kinds
parts-there : (e : Env) (i : ℕ) (g : Parts) → stands_at e 0 i g ≡ true → i + raw_count g ≤ length e.kinds → drop i e.kinds ≡ part_kinds g ++ drop (i + raw_count g) e.kinds
unfolding stands_at seen
parts-there e i (One a) s h =
    let z : i + 1 ≡ suc i = omega arith in
    rw z (drop-cons e.kinds i EOF (omega arith) ∙ ap (λ (x : ℕ). x ∷ drop (suc i) e.kinds) (eqb-true _ a s))
parts-there e i (Two a b) s h =
    let u = both_true _ _ s in
    let v = both_true _ _ u.1 in
    let z : i + 2 ≡ suc (i + 1) = omega arith in
    let y : suc i ≡ i + 1 = omega arith in
    drop-cons e.kinds i EOF (omega arith)
    ∙ ap₂ (λ (x : ℕ) (r : List ℕ). x ∷ r) (eqb-true _ a u.0) (ap (λ (n : ℕ). drop n e.kinds) y ∙ drop-cons e.kinds (i + 1) EOF (omega arith) ∙ ap₂ (λ (x : ℕ) (n : ℕ). x ∷ drop n e.kinds) (eqb-true _ b v.0) (sym z))
parts-there e i (Three a b c) s h =
    let u = both_true _ _ s in
    let v = both_true _ _ u.1 in
    let w = both_true _ _ v.1 in
    let y : suc i ≡ i + 1 = omega arith in
    let z : suc (i + 1) ≡ i + 2 = omega arith in
    let x : suc (i + 2) ≡ i + 3 = omega arith in
    drop-cons e.kinds i EOF (omega arith)
    ∙ ap₂ (λ (x : ℕ) (r : List ℕ). x ∷ r) (eqb-true _ a u.0)
    (ap (λ (n : ℕ). drop n e.kinds) y ∙ drop-cons e.kinds (i + 1) EOF (omega arith)
    ∙ ap₂ (λ (x : ℕ) (r : List ℕ). x ∷ r) (eqb-true _ b v.0)
    (ap (λ (n : ℕ). drop n e.kinds) z ∙ drop-cons e.kinds (i + 2) EOF (omega arith) ∙ ap₂ (λ (x : ℕ) (n : ℕ). x ∷ drop n e.kinds) (eqb-true _ c w.0) x))

-- what a kind is made of that is one token, is the kind: one test that antt computes
several : Parts → Bool
several (One j) = false
several (Two j k) = true
several (Three j k l) = true

all-several : List (ℕ × Parts) → Bool
all-several [] = true
all-several (g ∷ gs) = both (several g.1) (all-several gs)

one_plain : (k : ℕ) (gs : List (ℕ × Parts)) → all-several gs ≡ true → raw_count (parts_in k gs) ≡ 1 → part_kinds (parts_in k gs) ≡ k ∷ []
unfolding all-several several
one_plain k [] t h = refl
one_plain k (g ∷ gs) t h = by (eqb k g.0) g.1 (both_true (several g.1) (all-several gs) t) h (one_plain k gs)
  where
    by : (x : Bool) (p : Parts) → (several p ≡ true) × (all-several gs ≡ true) → raw_count (cond x p (parts_in k gs)) ≡ 1 → (all-several gs ≡ true → raw_count (parts_in k gs) ≡ 1 → part_kinds (parts_in k gs) ≡ k ∷ []) → part_kinds (cond x p (parts_in k gs)) ≡ k ∷ []
    by true (One j) u h more = apart u.0
    by true (Two a b) u h more = absurd (omega arith)
    by true (Three a b c) u h more = absurd (omega arith)
    by false p u h more = more u.1 h

one-kind : (k : ℕ) → raw_count (parts_of k) ≡ 1 → part_kinds (parts_of k) ≡ k ∷ []
unfolding parts_of all-several several
one-kind k h = one_plain k glued_kinds refl h

-- so a token step says the next kinds
step-there : (e : Env) (i k n : ℕ) → Stands e i k n → drop i e.kinds ≡ step_kinds (taken k n) ++ drop (i + n) e.kinds
step-there e i k n s =
    let there = parts-there e i s.parts s.here (rw s.many at s.inside) in
    there ∙ ap₂ (λ (x : List ℕ) (m : ℕ). x ++ drop (i + m) e.kinds) (same s.of (eqb n 1) refl) (sym s.many)
  where
    same : (s.parts ≡ One k) ⊎ (s.parts ≡ parts_of k) → (x : Bool) → eqb n 1 ≡ x → part_kinds s.parts ≡ cond x (k ∷ []) (part_kinds (parts_of k))
    same (inl q) true p = ap part_kinds q
    same (inl q) false p = absurd (eqb-false n 1 p (s.many ∙ ap raw_count q))
    same (inr q) true p = ap part_kinds q ∙ one-kind k (ap raw_count (sym q) ∙ sym s.many ∙ eqb-true n 1 p)
    same (inr q) false p = ap part_kinds q

pub steps-there : (e : Env) (ss : List Step) (i j : ℕ) → CoverSteps e i ss j → drop i e.kinds ≡ steps_kinds ss ++ drop j e.kinds
unfolding steps_kinds
steps-there e [] i j h = ap (λ (n : ℕ). drop n e.kinds) h
steps-there e (s ∷ ss) i j h = first s h.0 ∙ ap (λ (r : List ℕ). step_kinds s ++ r) (steps-there e ss (i + raw_of s) j h.1) ∙ sym (append_assoc (step_kinds s) (steps_kinds ss) (drop j e.kinds))
  where
    stays : drop i e.kinds ≡ drop (i + 0) e.kinds
    stays = let z : i + 0 ≡ i = omega arith in rw z

    first : (s : Step) → SaysAt e i s → drop i e.kinds ≡ step_kinds s ++ drop (i + raw_of s) e.kinds
    first (enter k) t = stays
    first leave t = stays
    first (taken k n) t = step-there e i k n t
    first (failed c a) t = stays
    first (wanted k f) t = stays

-- steps that cover all have all kinds
pub all_there : (e : Env) (ss : List Step) → CoverSteps e 0 ss (length e.kinds) → steps_kinds ss ≡ e.kinds
all_there e ss h = sym (steps-there e ss 0 (length e.kinds) h ∙ ap (λ (r : List ℕ). steps_kinds ss ++ r) (drop_of_length-le e.kinds {i = length e.kinds} (omega arith)) ∙ append-nil (steps_kinds ss))
