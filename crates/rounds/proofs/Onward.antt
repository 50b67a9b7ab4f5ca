-- A loop whose every round that goes on spends something: it ends by itself, and further rounds make no difference. Assumes nothing.
use mathlib.Core.Path.{◌≡◌, refl, sym, ap, ◌∙◌, subst}
use mathlib.Core.Bool.{Bool, true, false, cond}
use Prim.Native.Nat.{ℕ, zero, suc, pred, ◌+◌, ◌≤◌, ◌<◌}
use native.Mathlib.Omega.{arith}
use borrow.Author.Tests.{eqb-true}
use Rattle.kinds.specs.Kinds.{EOF}
use Rattle.input.specs.Input.{Env}
use Rattle.input.proofs.Reading.{unseen}
use Rattle.runtime.specs.State.{St, live, looked}
use Rattle.runtime.specs.Acts.{Acts, Acts.done, ◌>>=◌, run, step, current, Turn, Turn.more, Turn.last, iter, left, rounds, repeats}
use Rattle.runtime.proofs.Laws.{run_bind, most-left, Spends, spends-first, spends-nth, left-live}

-- where the acts end with a round that goes on, P holds of what they leave
pub record On {X : Type 0} (P : St → Type 0) (e : Env) (m : Acts (Turn X)) (s : St) : Type 0 where
  pub holds : (y : X) (r : St) → run e m s ≡ (more y, r) → P r

-- less is left than before
abbrev pub Less : St → St → Type 0
Less s r = left r.p < left s.p

-- each round of f that goes on spends something
abbrev pub Onward : {X : Type 0} → (X → Acts (Turn X)) → Type 0
Onward {X} f = (e : Env) (x : X) (s : St) → On (Less s) e (f x) s

-- Two numbers of rounds that are both above what is left come to the same.
pub as_many : {X : Type 0} (f : X → Acts (Turn X)) → Onward f → (e : Env) (n m : ℕ) (x : X) (s : St) → left s.p < n → left s.p < m → run e (iter n f x) s ≡ run e (iter m f x) s
unfolding iter run
as_many f on e zero m x s h k = absurd (omega arith)
as_many f on e (suc n) zero x s h k = absurd (omega arith)
as_many {X} f on e (suc n) (suc m) x s h k =
    run_bind e (f x) _ s ∙ by (run e (f x) s) refl (λ y r l. as_many f on e n m y r (omega arith) (omega arith)) ∙ sym (run_bind e (f x) _ s)
  where
    by : (o : Turn X × St) → run e (f x) s ≡ o → ((y : X) (r : St) → left r.p < left s.p → run e (iter n f y) r ≡ run e (iter m f y) r)
        → run {A = X} e (elim o.0 [ more y ↦ iter n f y | last y ↦ done y ]) o.1 ≡ run {A = X} e (elim o.0 [ more y ↦ iter m f y | last y ↦ done y ]) o.1
    by (more y, r) q rest = rest y r ((on e x s).holds y r q)
    by (last y, r) q rest = refl

-- So no loop of such rounds ends because its rounds run out.
pub never-out : {X : Type 0} (f : X → Acts (Turn X)) → Onward f → (e : Env) (n : ℕ) (x : X) (s : St) → run e (iter (rounds + n) f x) s ≡ run e (repeats f x) s
never-out f on e n x s = as_many f on e (rounds + n) rounds x s (omega (arith, most-left s.p)) (most-left s.p)

-- What is shown of a round: it is the last one;
pub on-last : {X : Type 0} (P : St → Type 0) (e : Env) (x : X) (s : St) → On P e (done (last x)) s
unfolding run
on-last {X} P e x s = record { holds = λ y r q. absurd (let z : ◌≡◌ {A = ℕ} 0 1 = ap (λ (o : Turn X × St). elim o.0 [ more a ↦ 1 | last a ↦ 0 ]) q in omega arith) }

-- it goes on where P holds;
pub on-more : {X : Type 0} (P : St → Type 0) (e : Env) (x : X) (s : St) → P s → On P e (done (more x)) s
unfolding run
on-more {X} P e x s h = record { holds = λ y r q. subst P (ap (λ (o : Turn X × St). o.1) q) h }

-- it spends, where something is left;
pub on-spent : {X : Type 0} (e : Env) (m : Acts (Turn X)) (s : St) → Spends m → 0 < left s.p → On (Less s) e m s
on-spent {X} e m s h l = record { holds = λ y r q. let k : left r.p ≤ pred (left s.p) = subst (λ (o : Turn X × St). left o.1.p ≤ pred (left s.p)) q (h.falls e s) in omega arith }

-- it spends, and something is left behind it;
pub on-alive : {X : Type 0} (e : Env) (m : Acts (Turn X)) (s : St) → Spends m → On (λ (r : St). 0 < left r.p) e m s → On (Less s) e m s
on-alive {X} e m s h g =
    record { holds = λ y r q. let k : left r.p ≤ pred (left s.p) = subst (λ (o : Turn X × St). left o.1.p ≤ pred (left s.p)) q (h.falls e s) in omega (arith, g.holds y r q) }

-- a choice; and what follows some acts.
pub on-cond : {X : Type 0} (P : St → Type 0) (e : Env) (c : Bool) (x y : Acts (Turn X)) (s : St) → (c ≡ true → On P e x s) → (c ≡ false → On P e y s) → On P e (cond c x y) s
on-cond P e true x y s f g = f refl
on-cond P e false x y s f g = g refl

pub on_then : {X A : Type 0} (P : St → Type 0) (e : Env) (m : Acts A) (f : A → Acts (Turn X)) (s : St) → On P e (f (run e m s).0) (run e m s).1 → On P e (m >>= f) s
on_then P e m f s h = record { holds = λ y r q. h.holds y r (sym (run_bind e m f s) ∙ q) }

-- A loop with a test that changes nothing, and that holds only where something is left.
pub record Tells (t : Acts Bool) : Type 0 where
  pub still : (e : Env) (s : St) → (run e t s).1 ≡ s
  pub there : (e : Env) (s : St) → (run e t s).0 ≡ true → 0 < left s.p

pub guarded : {X : Type 0} (t : Acts Bool) → Tells t → (f g : X → Acts (Turn X)) → ((x : X) → Spends (f x)) → ((P : St → Type 0) (e : Env) (x : X) (s : St) → On P e (g x) s) → Onward (λ x. t >>= (λ go. cond go (f x) (g x)))
guarded t h f g k l e x s =
    on_then (Less s) e t (λ go. cond go (f x) (g x)) s
    (on-cond (Less s) e (run e t s).0 (f x) (g x) (run e t s).1
    (λ q. subst (λ (r : St). On (Less s) e (f x) r) (sym (h.still e s)) (on-spent e (f x) s (k x) (h.there e s q)))
    (λ q. l (Less s) e x (run e t s).1))

-- A loop that looks first, and ends at the end: a refused run sees the end.
pub dead-look : (e : Env) (s : St) → live s.p ≡ false → run e current s ≡ (EOF, s)
unfolding run step looked
dead-look e s dead = rw (dead, unseen e.kinds s.p.refused (s.p.pos + 0) dead)

pub looking : {X : Type 0} (f : X → ℕ → Acts (Turn X)) → ((P : St → Type 0) (e : Env) (x : X) (s : St) → On P e (f x EOF) s) → Onward (λ x. current >>= f x)
looking {X} f h e x s = by (live s.p) refl
  where
    by : (b : Bool) → live s.p ≡ b → On (Less s) e (current >>= f x) s
    by true q = on-spent e (current >>= f x) s (spends-first current (f x) (spends-nth 0)) (left-live s.p (eqb-true _ _ q))
    by false q = on_then (Less s) e current (f x) s (subst (λ (o : ℕ × St). On (Less s) e (f x o.0) o.1) (sym (dead-look e s q)) (h (Less s) e x s))
