-- What holds of every run, whatever its acts: bounds, sizes, spending, refusal, the words past the events. Assumes nothing.
use Rattle.std.proofs.Common.{◌≡◌, ℕ, ◌+◌, ◌-◌, ◌*◌, ◌<◌, ◌≤◌, Bool, true, false, eqb, ltb, ◌⊎◌, List, length, get_or, set, sym, refl, ap, ◌∙◌, inl, inr, le_trans, le_refl, le_of_lt, arith, length-set, get_or-set_other, get_or-set_same, ltb-false, ltb-true, eqb-true}
use lib.ListN.{get_or-eq_default}
use borrow.Author.Tests.{eqb-false}
use Rattle.runtime.specs.State.{Parser}
use Rattle.input.specs.Input.{Env, most_tokens}
use Rattle.event.specs.declared.Event.{Event}
use Rattle.event.specs.declared.Event.TheVariants.{Token, NoEvent}
use Rattle.laws.proofs.Tests.{by-test}
use Rattle.input.proofs.Reading.{few-parts}
use Rattle.runtime.specs.State.{St, most_looks, refusal, counted, consumed, Fit}
use Rattle.runtime.specs.Cover.{Stands}
use Rattle.runtime.specs.Acts.{Acts, run, left}
use Rattle.runtime.proofs.Kept.{KeptBy, Kept, kept_run}

some-tokens : {e : Env} {i k n : ℕ} → Stands e i k n → 1 ≤ n
some-tokens t = omega (arith, t.many, (few-parts t.parts).0)

-- The bounds are kept.
pub fits : (e : Env) → Kept e (λ (s : St). Fit s.p)
fits e =
    record {
      refusing = λ n s z h. record { few = h.few; near = h.near; all = h.all; short = h.short };
      looking = λ s z l h. record { few = h.few; near = omega arith; all = omega arith; short = h.short };
      pushing = λ v s t z l h. record { few = h.few; near = h.near; all = h.all; short = omega arith };
      moving = λ k n s t m z l h. record { few = m; near = omega arith; all = omega (arith, some-tokens t, h.all, h.near); short = omega arith };
      changing = λ i v s l t u z h. h;
      popping = λ s m l t z h. record { few = h.few; near = h.near; all = h.all; short = omega arith };
    }

pub fit-run : {A : Type 0} (e : Env) (m : Acts A) (s : St) → Fit s.p → Fit (run e m s).1.p
fit-run e m s h = kept_run e (λ (r : St). Fit r.p) (fits e) m s h

-- The room keeps its places, and the word that is in none.
pub Sized : St → St → Type 0
Sized s r = (length r.room ≡ length s.room) × (r.rest ≡ s.rest)

pub size-run : {A : Type 0} (e : Env) (m : Acts A) (s : St) → Sized s (run e m s).1
unfolding Sized
size-run e m s =
    kept_run e (Sized s)
    (record {
      refusing = λ n r z h. h;
      looking = λ r z l h. h;
      pushing = λ v r t z l h. (length-set r.room r.p.len v ∙ h.0, h.1);
      moving = λ k n r t q z l h. (length-set r.room r.p.len _ ∙ h.0, h.1);
      changing = λ i v r l t u z h. (length-set r.room i v ∙ h.0, h.1);
      popping = λ r m l t z h. (length-set r.room (r.p.len - 1) _ ∙ h.0, h.1);
    })
    m
    s
    (refl, refl)

-- The events are places of the room.
abbrev pub Held : St → Type 0
Held s = s.p.len ≤ length s.room

pub helds : (e : Env) {C : ℕ → Type 0} → KeptBy e C Held
helds e =
    record {
      refusing = λ n r z h. h;
      looking = λ r z l h. h;
      pushing = λ v r t z l h. rw (length-set r.room r.p.len v) (omega arith);
      moving = λ k n r t q z l h. rw (length-set r.room r.p.len (Token k n)) (omega arith);
      changing = λ i v r l t u z h. rw (length-set r.room i v) h;
      popping = λ r m l t z h. rw (length-set r.room (r.p.len - 1) (NoEvent 0 0)) (omega arith);
    }

pub held-run : {A : Type 0} (e : Env) (m : Acts A) (s : St) → Held s → Held (run e m s).1
held-run e m s h = kept_run e Held (helds e) m s h

-- Past the events a place is as it came in, or its words are zero: an event stood there and was taken away.
abbrev pub AsCame : List Event → List Event → ℕ → Type 0
AsCame l r i = (get_or r i (NoEvent 0 0) ≡ get_or l i (NoEvent 0 0)) ⊎ (get_or r i (NoEvent 0 0) ≡ NoEvent 0 0)

pub record Past (l : List Event) (s : St) : Type 0 where
  pub place : (i : ℕ) → s.p.len ≤ i → AsCame l s.room i

-- a store below what is looked at
below : (l r : List Event) (i j : ℕ) (v : Event) → i < j → AsCame l r j → AsCame l (set r i v) j
below l r i j v h o = rw (get_or-set_other r i j v (NoEvent 0 0) (omega arith)) o

zero-there : (l : List Event) (i : ℕ) → get_or (set l i (NoEvent 0 0)) i (NoEvent 0 0) ≡ NoEvent 0 0
zero-there l i = by (ltb i (length l)) refl
  where
    by : (b : Bool) → ltb i (length l) ≡ b → get_or (set l i (NoEvent 0 0)) i (NoEvent 0 0) ≡ NoEvent 0 0
    by true q = get_or-set_same l i (NoEvent 0 0) (NoEvent 0 0) (ltb-true _ _ q)
    by false q = get_or-eq_default (set l i (NoEvent 0 0)) (NoEvent 0 0) (rw (length-set l i (NoEvent 0 0)) (ltb-false _ _ q))

pub past-run : {A : Type 0} (e : Env) (m : Acts A) (s : St) → Past s.room (run e m s).1
past-run e m s =
    kept_run e (Past s.room)
    (record {
      refusing = λ n r z h. record { place = h.place };
      looking = λ r z l h. record { place = h.place };
      pushing = λ v r t z l h. record { place = λ i q. below s.room r.room r.p.len i v (omega arith) (h.place i (omega arith)) };
      moving = λ k n r t q z l h. record { place = λ i q. below s.room r.room r.p.len i (Token k n) (omega arith) (h.place i (omega arith)) };
      changing = λ i v r l t u z h. record { place = λ j q. below s.room r.room i j v (omega arith) (h.place j q) };
      popping = λ r m l t z h. record { place = λ i q. taken r i q h (eqb i (r.p.len - 1)) refl };
    })
    m
    s
    (record { place = λ i q. inl refl })
  where
    taken : (r : St) (i : ℕ) → r.p.len - 1 ≤ i → Past s.room r → (b : Bool) → eqb i (r.p.len - 1) ≡ b → AsCame s.room (set r.room (r.p.len - 1) (NoEvent 0 0)) i
    taken r i q h true f = inr (rw (eqb-true i (r.p.len - 1) f) (zero-there r.room (r.p.len - 1)))
    taken r i q h false f =
        let n : i ≡ r.p.len - 1 → ⊥ = eqb-false i (r.p.len - 1) f in
        below s.room r.room (r.p.len - 1) i (NoEvent 0 0) (omega arith) (h.place i (omega arith))

-- A refused run changes nothing more.
pub refused-run : {A : Type 0} (e : Env) (m : Acts A) (s : St) → (s.p.refused ≡ 0 → ⊥) → (run e m s).1 ≡ s
refused-run e m s n =
    kept_run e (λ (r : St). r ≡ s)
    (record {
      refusing = λ n r z h. absurd (stuck r z h);
      looking = λ r z l h. absurd (stuck r z h);
      pushing = λ v r t z l h. absurd (stuck r z h);
      moving = λ k n r t q z l h. absurd (stuck r z h);
      changing = λ i v r l t u z h. absurd (stuck r z h);
      popping = λ r m l t z h. absurd (stuck r z h);
    })
    m
    s
    refl
  where
    stuck : (r : St) → r.p.refused ≡ 0 → r ≡ s → ⊥
    stuck r z h = n (sym (ap (λ (x : St). x.p.refused) h) ∙ z)

-- Tokens are consumed, and never handed back; none that is not there.
pub onward-run : {A : Type 0} (e : Env) (m : Acts A) (s : St) → s.p.pos ≤ (run e m s).1.p.pos
onward-run e m s =
    kept_run e (λ (r : St). s.p.pos ≤ r.p.pos)
    (record {
      refusing = λ n r z h. h;
      looking = λ r z l h. h;
      pushing = λ v r t z l h. h;
      moving = λ k n r t q z l h. omega arith;
      changing = λ i v r l t u z h. h;
      popping = λ r m l t z h. h;
    })
    m
    s
    (le_refl _)

pub inside-run : {A : Type 0} (e : Env) (m : Acts A) (s : St) → s.p.pos ≤ length e.kinds → (run e m s).1.p.pos ≤ length e.kinds
inside-run e m s h =
    kept_run e (λ (r : St). r.p.pos ≤ length e.kinds)
    (record {
      refusing = λ n r z h. h;
      looking = λ r z l h. h;
      pushing = λ v r t z l h. h;
      moving = λ k n r t q z l h. t.inside;
      changing = λ i v r l t u z h. h;
      popping = λ r m l t z h. h;
    })
    m
    s
    h

-- What is left is spent, and never gained: a lookup takes one, a token more than the lookups before it, a refusal all.
left-live : (p : Parser) → p.refused ≡ 0 → left p ≡ 1 + (most_tokens - p.pos) * 10001 + (most_looks - p.since)
unfolding left
left-live p z = rw z

left-refused : (n : ℕ) (p : Parser) → p.refused ≡ 0 → left (refusal n p) ≤ left p
unfolding left
left-refused n p z = by-test (λ (x : ℕ). x ≤ left p) (eqb n 0) _ 0 (λ q. rw z (le_refl _)) (λ q. omega arith)

pub counted-spends : (p : Parser) → p.refused ≡ 0 → p.since < most_looks → left (counted p) < left p
counted-spends p z l = rw (left-live p z, left-live (counted p) z) (omega arith)

pub consumed-spends : (n : ℕ) (p : Parser) → p.refused ≡ 0 → 1 ≤ n → p.pos + n ≤ most_tokens → left (consumed n p) < left p
consumed-spends n p z h m = rw (left-live p z, left-live (consumed n p) z) (omega arith)

spends : (e : Env) (n : ℕ) → Kept e (λ (r : St). left r.p ≤ n)
unfolding left
spends e n =
    record {
      refusing = λ i s z h. le_trans (left-refused i s.p z) h;
      looking = λ s z l h. le_trans (le_of_lt (counted-spends s.p z l)) h;
      pushing = λ v s t z l h. h;
      moving = λ k i s t q z l h. le_trans (le_of_lt (consumed-spends i s.p z (some-tokens t) q)) h;
      changing = λ i v s l t u z h. h;
      popping = λ s m l t z h. h;
    }

pub spent-run : {A : Type 0} (e : Env) (m : Acts A) (s : St) → left (run e m s).1.p ≤ left s.p
spent-run e m s = kept_run e (λ (r : St). left r.p ≤ left s.p) (spends e (left s.p)) m s (le_refl _)
