-- Which joint bits a run sees: that of a token which another follows, and no other. Two lists of joint words that agree on these bits tell
-- the same at every act. Assumes nothing.
use mathlib.Core.Path.{◌≡◌, refl, sym, ap, ap₂, ◌∙◌}
use mathlib.Core.Bool.{Bool, true, false, not, cond}
use mathlib.Core.List.{List, [], ◌∷◌}
use Prim.Native.Nat.{ℕ, suc, ◌+◌, ◌≤◌, ◌<◌}
use native.Mathlib.Omega.{arith}
use lib.ListN.{length, get_or, get_or-eq_default}
use lib.Dec.{eqb, ltb}
use borrow.Author.Tests.{ltb-true, ltb-false, eqb-true, eqb-false, not-true}
use Rattle.kinds.specs.Kinds.{EOF}
use Rattle.kinds.specs.Membership.{both}
use Rattle.laws.proofs.Tests.{by-test}
use Rattle.input.specs.declared.Parts.{Parts}
use Rattle.input.specs.declared.Parts.TheVariants.{One, Two, Three}
use Rattle.input.specs.Input.{env, seen, is_joint}
use Rattle.input.specs.Glue.{glued_kinds, parts_in, parts_of, raw_count, stands_at}
use Rattle.input.proofs.Reading.{both_true}
use Rattle.runtime.specs.State.{St, do_bump}
use Rattle.runtime.specs.Acts.{Act, Act.looks, Act.peeks, Act.eats, Act.takes, Act.starts, Act.completes, Act.abandons, Act.precedes, Act.extends, Act.fails, Act.lacks, Act.stops, Act.asks, Answer, step, Acts, Acts.done, Acts.act, run}

-- the joint words agree on each token that another follows
abbrev pub Agree : List ℕ → List ℕ → List ℕ → Type 0
Agree kinds a b = (i : ℕ) → suc i < length kinds → is_joint a i ≡ is_joint b i

-- no part of a glued kind behind its first is the end's kind: one test that antt computes
sealed : Parts → Bool
sealed (One j) = true
sealed (Two j k) = not (eqb k EOF)
sealed (Three j k l) = both (not (eqb k EOF)) (not (eqb l EOF))

all-sealed : List (ℕ × Parts) → Bool
all-sealed [] = true
all-sealed (g ∷ gs) = both (sealed g.1) (all-sealed gs)

sealed-in : (k : ℕ) (gs : List (ℕ × Parts)) → all-sealed gs ≡ true → sealed (parts_in k gs) ≡ true
unfolding all-sealed sealed
sealed-in k [] t = refl
sealed-in k (g ∷ gs) t =
    let u : (sealed g.1 ≡ true) × (all-sealed gs ≡ true) = both_true (sealed g.1) (all-sealed gs) t in
    by-test (λ (x : Parts). sealed x ≡ true) (eqb k g.0) g.1 (parts_in k gs) (λ b. u.0) (λ b. sealed-in k gs u.1)

sealed-parts : (k : ℕ) → sealed (parts_of k) ≡ true
unfolding parts_of all-sealed sealed
sealed-parts k = sealed-in k glued_kinds refl

-- a kind that is not the end's stands at a token
inside : (ks : List ℕ) (r i k : ℕ) → not (eqb k EOF) ≡ true → eqb (seen ks r i) k ≡ true → i < length ks
unfolding seen
inside ks r i k n q = by (ltb i (length ks)) refl
  where
    beyond : length ks ≤ i → cond (eqb r 0) (get_or ks i EOF) EOF ≡ EOF
    beyond l = by-test (λ (x : ℕ). x ≡ EOF) (eqb r 0) (get_or ks i EOF) EOF (λ b. get_or-eq_default ks EOF l) (λ b. refl)

    by : (b : Bool) → ltb i (length ks) ≡ b → i < length ks
    by true z = ltb-true _ _ z
    by false z = absurd (eqb-false k EOF (not-true _ n) (sym (eqb-true _ k q) ∙ beyond (ltb-false _ _ z)))

both-same : (x a b : Bool) → (x ≡ true → a ≡ b) → both x a ≡ both x b
both-same true a b f = f refl
both-same false a b f = refl

module _ (kinds a b : List ℕ) (agree : Agree kinds a b) where
  stands_same : (r i : ℕ) (g : Parts) → sealed g ≡ true → stands_at (env kinds a) r i g ≡ stands_at (env kinds b) r i g
  unfolding stands_at sealed
  stands_same r i (One j) t = refl
  stands_same r i (Two j k) t = ap (both (eqb (seen kinds r i) j)) (both-same (eqb (seen kinds r (i + 1)) k) _ _ (λ q. agree i (omega (arith, inside kinds r (i + 1) k t q))))
  stands_same r i (Three j k l) t =
      let u : (not (eqb k EOF) ≡ true) × (not (eqb l EOF) ≡ true) = both_true _ _ t in
      ap (both (eqb (seen kinds r i) j))
      (both-same (eqb (seen kinds r (i + 1)) k) _ _
      (λ q. both-same (eqb (seen kinds r (i + 2)) l) _ _
      (λ z. let h : i + 2 < length kinds = inside kinds r (i + 2) l u.1 z in ap₂ both (agree i (omega arith)) (agree (i + 1) (omega arith)))))

  pub joints-step : (o : Act) (s : St) → step (env kinds a) o s ≡ step (env kinds b) o s
  unfolding step do_bump
  joints-step (looks n) s = refl
  joints-step (peeks n k) s = ap (λ (x : Bool). (x, s)) (stands_same s.p.refused (s.p.pos + n) (parts_of k) (sealed-parts k))
  joints-step (eats k) s = ap (λ (x : Bool). cond x (true, do_bump (env kinds b) k (raw_count (parts_of k)) s) (false, s)) (stands_same s.p.refused (s.p.pos + 0) (parts_of k) (sealed-parts k))
  joints-step takes s = refl
  joints-step starts s = refl
  joints-step (completes m k) s = refl
  joints-step (abandons m) s = refl
  joints-step (precedes m) s = refl
  joints-step (extends to m) s = refl
  joints-step (fails c x) s = refl
  joints-step (lacks k) s = refl
  joints-step (stops w) s = refl
  joints-step asks s = refl

  pub joints-run : {A : Type 0} (m : Acts A) (s : St) → run (env kinds a) m s ≡ run (env kinds b) m s
  unfolding run
  joints-run (done x) s = refl
  joints-run (act o m) s =
      joints-run (m (step (env kinds a) o s).0) (step (env kinds a) o s).1
      ∙ ap (λ (x : Answer o × St). run (env kinds b) (m x.0) x.1) (joints-step o s)
