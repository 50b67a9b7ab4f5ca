-- Each way to change a run keeps this: its token events cover the tokens consumed, and each error says what it stood at. Assumes nothing.
use mathlib.Core.Path.{◌≡◌, refl, sym, ap, ◌∙◌, subst}
use mathlib.Core.List.{List, [], ◌∷◌, ◌++◌}
use mathlib.Core.Bool.{true}
use Prim.Native.Nat.{ℕ, zero, suc, ◌+◌, ◌-◌, ◌<◌}
use native.Mathlib.Numerals.{add-one}
use native.Mathlib.Omega.{arith}
use lib.ListN.{length, get_or, set, take}
use lib.Seq.{length-take-le, get_or-take, take-take, take-suc-set, take-set-lt, take-set-le}
use borrow.Author.Tests.{ne_eqb}
use Rattle.input.specs.Input.{Env, seen}
use Rattle.event.specs.declared.Event.{Event}
use Rattle.event.specs.declared.Event.TheVariants.{Start, Finish, Token, Error, NoEvent}
use Rattle.event.specs.Event.{is_start}
use Rattle.event.proofs.Encoding.{bare-start}
use Rattle.laws.proofs.Tests.{apart}
use Rattle.runtime.specs.State.{St}
use Rattle.runtime.specs.Cover.{Says, after, Covers, events}
use Rattle.runtime.proofs.Kept.{Writes, Writes.opens, Writes.ends, Writes.says, Writes.finds, KeptBy}
use Rattle.runtime.proofs.Runs.{Held, helds}

-- a start says nothing, and the next event is about the same place
quiet : (e : Env) (i : ℕ) (v : Event) → is_start v ≡ true → Says e i v × (after v i ≡ i)
quiet e i (Start k d) h = (tt, refl)
quiet e i Finish h = apart h
quiet e i (Token k n) h = apart h
quiet e i (Error c a f) h = apart h
quiet e i (NoEvent a b) h = apart h

-- the code of "expected KIND" is none that `error` is called with
abbrev pub Other : ℕ → Type 0
Other c = c ≡ 1 → ⊥

-- what is written without consuming anything says what stands here
written : (e : Env) (s : St) {v : Event} → s.p.refused ≡ 0 → Writes e Other s v → Says e s.p.pos v × (after v s.p.pos ≡ s.p.pos)
unfolding seen
written e s z opens = (tt, refl)
written e s z ends = (tt, refl)
written e s z (says c a n) = (rw (ne_eqb c 1 n), refl)
written e s z (finds k) = let q : s.p.pos + 0 ≡ s.p.pos = omega arith in (rw (z, q), refl)

-- one event more
cover-add : (e : Env) (i j : ℕ) (l : List Event) (v : Event) → Covers e i l j → Says e j v → Covers e i (l ++ v ∷ []) (after v j)
cover-add e i j [] v h s = (subst (λ (x : ℕ). Says e x v) (sym h) s, ap (after v) h)
cover-add e i j (w ∷ l) v h s = (h.0, cover-add e (after w i) j l v h.1 s)

-- another in the place of a start
cover-set : (e : Env) (i j : ℕ) (l : List Event) (n : ℕ) (v : Event) → is_start (get_or l n (NoEvent 0 0)) ≡ true → is_start v ≡ true → Covers e i l j → Covers e i (set l n v) j
cover-set e i j [] n v a b h = h
cover-set e i j (w ∷ l) zero v a b h =
    ((quiet e i v b).0, subst (λ (x : ℕ). Covers e x l j) ((quiet e i w a).1 ∙ sym (quiet e i v b).1) h.1)
cover-set e i j (w ∷ l) (suc n) v a b h = (h.0, cover-set e (after w i) j l n v a b h.1)

-- one event less
cover-take : (e : Env) (i j : ℕ) (l : List Event) (n : ℕ) → suc n ≡ length l → is_start (get_or l n (NoEvent 0 0)) ≡ true → Covers e i l j → Covers e i (take n l) j
cover-take e i j [] n q a h = absurd (omega arith)
cover-take e i j (w ∷ []) zero q a h = sym (quiet e i w a).1 ∙ h.1
cover-take e i j (w ∷ u ∷ l) zero q a h = absurd (omega arith)
cover-take e i j (w ∷ l) (suc n) q a h = (h.0, cover-take e (after w i) j l n (omega arith) a h.1)

-- the events after each change
pub events-added : (l : List Event) (n : ℕ) (v : Event) → n < length l → take (n + 1) (set l n v) ≡ take n l ++ v ∷ []
events-added l n v h = rw (add-one n) (take-suc-set l n v h)

pub events-popped : (l : List Event) (n m : ℕ) (v : Event) → m + 1 ≡ n → take (n - 1) (set l (n - 1) v) ≡ take m (take n l)
events-popped l n m v h = let q : n - 1 ≡ m = omega arith in rw q (take-set-le m l m v (omega arith) ∙ sym (take-take m n l (omega arith)))

pub record Covered (e : Env) (s : St) : Type 0 where
  pub held : Held s
  pub tokens : Covers e 0 (events s) s.p.pos

-- Each change keeps it, where no error has code 1 but with what was found.
pub covers : (e : Env) → KeptBy e Other (Covered e)
covers e =
    record {
      refusing = λ n s z h. record { held = h.held; tokens = h.tokens };
      looking = λ s z l h. record { held = h.held; tokens = h.tokens };
      pushing = λ v s t z l h. let w : Says e s.p.pos v × (after v s.p.pos ≡ s.p.pos) = written e s z t in record { held = held.pushing v s t z l h.held; tokens = subst (λ (x : ℕ). Covers e 0 (take (s.p.len + 1) (set s.room s.p.len v)) x) w.1 (more s v (omega arith) h.tokens w.0) };
      moving = λ k n s t q z l h. record { held = held.moving k n s t q z l h.held; tokens = more s (Token k n) (omega arith) h.tokens t };
      changing = λ i v s l t u z h. record { held = held.changing i v s l t u z h.held; tokens = rw (take-set-lt s.p.len s.room i v l) (cover-set e 0 s.p.pos (events s) i v (ap is_start (get_or-take s.p.len s.room i (NoEvent 0 0) l) ∙ t) u h.tokens) };
      popping = λ s m l t z h. record { held = held.popping s m l t z h.held; tokens = rw (events-popped s.room s.p.len m (NoEvent 0 0) l) (cover-take e 0 s.p.pos (events s) m (rw (length-take-le s.p.len s.room h.held) (omega arith)) (ap is_start (get_or-take s.p.len s.room m (NoEvent 0 0) (omega arith)) ∙ bare-start (get_or s.room m (NoEvent 0 0)) t) h.tokens) };
    }
  where
    held : KeptBy e Other Held
    held = helds e

    more : (s : St) (v : Event) → s.p.len < length s.room → Covers e 0 (events s) s.p.pos → Says e s.p.pos v → Covers e 0 (take (s.p.len + 1) (set s.room s.p.len v)) (after v s.p.pos)
    more s v l h t = rw (events-added s.room s.p.len v l) (cover-add e 0 s.p.pos (events s) v h t)
