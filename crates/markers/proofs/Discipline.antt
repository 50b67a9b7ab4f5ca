-- What a marker act finds at its marker, at every moment of a run of safe acts, and what such a run covers. Assumes nothing.
use mathlib.Core.Path.{◌≡◌, refl, sym, ap, ◌∙◌, subst}
use mathlib.Core.Bool.{Bool, true, false}
use mathlib.Core.List.{List}
use Prim.Native.Nat.{ℕ}
use native.Mathlib.Omega.{arith}
use lib.Dec.{eqb}
use borrow.Author.Tests.{eqb-true, eqb-false}
use mathlib.Core.Logic.{◌⊎◌, inl, inr}
use Rattle.input.specs.Input.{Env}
use Rattle.runtime.specs.State.{St, view, new, Fit}
use Rattle.runtime.specs.Cover.{Covers, events}
use Rattle.runtime.specs.Acts.{Act, step, Acts, Acts.done, Acts.act, run, one}
use Rattle.runtime.proofs.Kept.{coded-keeps, kept_step}
use Rattle.runtime.proofs.Runs.{fits, Held, helds, refused-run}
use Rattle.runs.proofs.Covered.{Covered, covers}
use Rattle.markers.proofs.Marks.{Marks}
use Rattle.markers.proofs.Safe.{handling, Safe, Finds, Bounded, WellMade, Next, safe-step, safe-finds}

-- what `handling` says that an act finds
abbrev pub Proper : Act → St → Type 0
Proper a s = Finds (handling a) s

-- at each act of a run, as long as it is not refused
abbrev pub Orderly : {A : Type 0} → Env → Acts A → St → Type 0
Orderly e (done a) s = Unit {0}
Orderly e (act a m) s = (s.p.refused ≡ 0 → Proper a s) × Orderly e (m (step e a s).0) (step e a s).1

still : (e : Env) (a : Act) (s : St) → (s.p.refused ≡ 0 → ⊥) → (step e a s).1 ≡ s
unfolding run
still e a s n = refused-run e (one a) s n

refused-orderly : {A : Type 0} (e : Env) (m : Acts A) (s : St) → (s.p.refused ≡ 0 → ⊥) → Orderly e m s
refused-orderly e (done a) s n = tt
refused-orderly e (act a m) s n = (λ z. absurd (n z), refused-orderly e (m (step e a s).0) (step e a s).1 (λ z. n (sym (ap (λ (r : St). r.p.refused) (still e a s n)) ∙ z)))

-- every run of safe acts is orderly, refused or not
pub safe-orderly : {A : Type 0} (e : Env) → Bounded e → (m : Acts A) (o : Marks) (Q : A → Marks → Type 0) (s : St) → Fit s.p → Held s → Safe m o Q → WellMade o s → Orderly e m s
safe-orderly e b (done a) o Q s f d g h = tt
safe-orderly e b (act a m) o Q s f d g h = (
  λ z. safe-finds e b o s f d h Q a m g z,
  by (safe-step e b o s f d h Q a m g)
      (λ o' g' h'. safe-orderly e b (m (step e a s).0) o' Q (step e a s).1 (kept_step e (λ (r : St). Fit r.p) (fits e) a s f) (kept_step e Held (helds e) a s d) g' h'),
)
  where
    by : ((step e a s).1.p.refused ≡ 0 → ⊥) ⊎ Next e a m Q s → ((o' : Marks) → Safe (m (step e a s).0) o' Q → WellMade o' (step e a s).1 → Orderly e (m (step e a s).0) (step e a s).1) → Orderly e (m (step e a s).0) (step e a s).1
    by (inl n) k = refused-orderly e (m (step e a s).0) (step e a s).1 n
    by (inr x) k = k x.after x.safe x.sound

-- The token events of an orderly run cover the tokens that it consumed, and each error says what it stood at: none has code 1 but with the
-- kind of the token there.
pub covered-run : {A : Type 0} (e : Env) (m : Acts A) (s : St) → Orderly e m s → Covered e s → Covered e (run e m s).1
unfolding run
covered-run e (done a) s o h = h
covered-run e (act a m) s o h = covered-run e (m (step e a s).0) (step e a s).1 o.1 (by (eqb s.p.refused 0) refl)
  where
    by : (b : Bool) → eqb s.p.refused 0 ≡ b → Covered e (step e a s).1
    by true q = coded-keeps e (Covered e) (covers e) a s (λ c x w. subst (λ (b : Act). Proper b s) w (o.0 (eqb-true _ _ q))) h
    by false q = subst (Covered e) (sym (still e a s (eqb-false _ _ q))) h

-- from the beginning
pub covered : {A : Type 0} (e : Env) (m : Acts A) (room : List ℕ) → Orderly e m (view new room) → Covers e 0 (events (run e m (view new room)).1) (run e m (view new room)).1.p.pos
covered e m room o = (covered-run e m (view new room) o (record { held = omega arith; tokens = refl })).tokens
