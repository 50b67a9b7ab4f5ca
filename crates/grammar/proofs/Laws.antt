-- What flattens a definition, acts whose answer is not read, and the tests of a list that change nothing. Assumes nothing.
use mathlib.Core.Path.{◌≡◌, refl, ap, sym, ◌∙◌}
use mathlib.Core.Bool.{Bool, true, false, not, cond}
use Rattle.kinds.specs.Kinds.{EOF}
use Rattle.input.specs.Input.{Env}
use Rattle.runtime.specs.State.{St}
use Rattle.runtime.specs.Acts.{Acts, Acts.done, Acts.act, ◌>>=◌, run, sees, Does, Steps}
use Rattle.runtime.proofs.Laws.{run_bind, any, see}
use Rattle.grammar.specs.declared.Shape.{Shape}
use Rattle.grammar.specs.Params.{at_list_end, ends_here, list_goes, goes_here}

pub assoc : {A B C : Type 0} (m : Acts A) (f : A → Acts B) (g : B → Acts C) → (m >>= f) >>= g ≡ m >>= (λ x. f x >>= g)
unfolding ◌>>=◌
assoc (done a) f g = refl
assoc {C = C} (act o m) f g = ap {B = Acts C} (act o) (λ i x. assoc (m x) f g i)

pub done-bind : {A B : Type 0} (a : A) (f : A → Acts B) → (done a) >>= f ≡ f a
unfolding ◌>>=◌
done-bind a f = refl

pub cond-bind : {A B : Type 0} (b : Bool) (x y : Acts A) (f : A → Acts B) → (cond b x y) >>= f ≡ cond b (x >>= f) (y >>= f)
cond-bind true x y f = refl
cond-bind false x y f = refl

-- acts whose answer is not read, and then the rest
pub past : {A B : Type 0} (e : Env) (m : Acts A) (k : Acts B) (s : St) {r : St} {b : B} {t : St} → Does e (m >>= (λ x. done (tt {0}))) s (tt {0}) r → Does e k r b t → Does e (m >>= (λ x. k)) s b t
unfolding run
past e m k s {r} h g =
    let q : (run e m s).1 ≡ r = ap (λ (o : Unit {0} × St). o.1) (sym (run_bind e m (λ x. done (tt {0})) s) ∙ h.same) in
    record { same = run_bind e m (λ x. k) s ∙ rw q g.same }

pub passed : {A B : Type 0} (e : Env) (m : Acts A) (k : Acts B) (s : St) {r : St} {b : B} {t : St} → Steps (m >>= (λ x. done (tt {0}))) s (tt {0}) r → Does e k r b t → Does e (m >>= (λ x. k)) s b t
passed e m k s h g = past e m k s (any e _ s h) g

module _ {B : Type 0} (e : Env) (sh : Shape) (f : Bool → Acts B) (s : St) where
  ends_as : (a b : Bool) → sees e s.p sh.end ≡ a → sees e s.p sh.end2 ≡ b → {r : B} {t : St} → Does e (f (cond a true b)) s r t → Does e (at_list_end sh >>= f) s r t
  unfolding at_list_end
  ends_as true b p q d = simp (assoc, cond-bind, done-bind) (see _ _ _ _ (sym p) d)
  ends_as false b p q d = simp (assoc, cond-bind, done-bind) (see _ _ _ _ (sym p) (see _ _ _ _ (sym q) d))

  pub list-end : {x : Bool} {r : B} {t : St} → x ≡ ends_here e s.p sh → Does e (f x) s r t → Does e (at_list_end sh >>= f) s r t
  list-end q d = ends_as (sees e s.p sh.end) (sees e s.p sh.end2) refl refl (rw (sym q) d)

module _ {B : Type 0} (e : Env) (sh : Shape) (f : Bool → Acts B) (s : St) where
  goes-as : (a : Bool) → sees e s.p EOF ≡ a → {r : B} {t : St} → Does e (f (cond a false (not (ends_here e s.p sh)))) s r t → Does e (list_goes sh >>= f) s r t
  unfolding list_goes
  goes-as true p d = simp (assoc, cond-bind, done-bind) (see _ _ _ _ (sym p) d)
  goes-as false p d = simp (assoc, cond-bind, done-bind) (see _ _ _ _ (sym p) (list-end e sh _ s refl d))

  pub list-go : {x : Bool} {r : B} {t : St} → x ≡ goes_here e s.p sh → Does e (f x) s r t → Does e (list_goes sh >>= f) s r t
  list-go q d = goes-as (sees e s.p EOF) refl (rw (sym q) d)
