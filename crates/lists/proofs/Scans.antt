-- The check, event by event: what each test of the code says of the definition.
-- Assumes nothing.
use Prim.Native.Nat.{ℕ, zero, suc, ◌+◌, ◌/◌, ◌%◌, ◌≤◌, ◌<◌, min}
use native.Mathlib.Omega.{arith}
use mathlib.Core.Path.{◌≡◌, refl, sym, ap, ◌∙◌}
use mathlib.Core.Bool.{Bool, true, false, cond}
use mathlib.Core.List.{List, []}
use lib.ListN.{length, get_or, drop, drop_of_length-le, get_or-eq_default}
use lib.Seq.{drop-cons, get_or-drop}
use borrow.Author.Tests.{eq-eqb, ne_eqb, lt-ltb, le-ltb}
use Rattle.event.specs.declared.Event.{Event}
use Rattle.event.specs.declared.Event.TheVariants.{Start, Finish, Token, Error, NoEvent}
use Rattle.event.specs.Event.{events_of, is_start}
use Rattle.lists.specs.Answer.{says}
use Rattle.lists.specs.Check.{Next.Open, Next.Fault, lands, next, scan, checked}
use Rattle.own.specs.Own.{cost, need}

-- where a distance lands, by its index
pub lands-index : (es : List Event) (i d : ℕ) → (d ≡ 0 → ⊥) → is_start (get_or es (i + d) (NoEvent 0 0)) ≡ lands (drop (suc i) es) d
lands-index es i zero n = absurd (n refl)
lands-index es i (suc d) n = let e : i + suc d ≡ suc i + d = omega arith in rw (e, get_or-drop)

pub lands-past : (es : List Event) (i d : ℕ) → (d ≡ 0 → ⊥) → length es ≤ i + d → false ≡ lands (drop (suc i) es) d
lands-past es i d n h = ap is_start (sym (get_or-eq_default es (NoEvent 0 0) h)) ∙ lands-index es i d n

-- an event opens one node at most
pub next-bound : (x : Event) (o p : ℕ) (es : List Event) → next x o es ≡ Open p → p ≤ o + 1
unfolding next
next-bound (Start k d) o p es e = go (lands es d) e
  where
    go : (t : Bool) → cond t (Open (o + min k 1)) Fault ≡ Open p → p ≤ o + 1
    go true e = let q : o + min k 1 ≡ p = cc in omega arith
    go false e = let z : ◌≡◌ {A = ℕ} 0 1 = cc in absurd (omega arith)
next-bound Finish zero p es e = let z : ◌≡◌ {A = ℕ} 0 1 = cc in absurd (omega arith)
next-bound Finish (suc o) p es e = let q : o ≡ p = cc in omega arith
next-bound (Token k n) o p es e = let q : o ≡ p = cc in omega arith
next-bound (Error c x f) o p es e = let q : o ≡ p = cc in omega arith
next-bound (NoEvent a b) o p es e = let z : ◌≡◌ {A = ℕ} 0 1 = cc in absurd (omega arith)

-- the check's loop
module _ (es : List Event) (i o : ℕ) where
  pub scan-open : (p : ℕ) → i < length es → next (get_or es i (NoEvent 0 0)) o (drop (suc i) es) ≡ Open p → scan (drop (suc i) es) (suc i) p ≡ scan (drop i es) i o
  unfolding scan
  scan-open p h e = rw (drop-cons es i (NoEvent 0 0) h, e)

  pub scan-fault : i < length es → next (get_or es i (NoEvent 0 0)) o (drop (suc i) es) ≡ Fault → says 9 i ≡ scan (drop i es) i o
  unfolding scan
  scan-fault h e = rw (drop-cons es i (NoEvent 0 0) h, e)

  pub scan-done : length es ≤ i → o ≡ 0 → says 0 i ≡ scan (drop i es) i o
  unfolding scan
  scan-done h z = rw (drop_of_length-le es h, z)

  pub scan-held : length es ≤ i → (o ≡ 0 → ⊥) → says 9 i ≡ scan (drop i es) i o
  unfolding scan
  scan-held h n = rw (drop_of_length-le es h) (go o n)
    where
      go : (o : ℕ) → (o ≡ 0 → ⊥) → says 9 i ≡ scan [] i o
      go zero n = absurd (n refl)
      go (suc o) n = refl

module _ (ws : List ℕ) where
  pub checked-long : 65536 < length ws / 2 → says 2 0 ≡ checked ws
  unfolding checked
  checked-long h = rw (lt-ltb _ _ h)

  pub checked-odd : length ws / 2 ≤ 65536 → (length ws % 2 ≡ 0 → ⊥) → says 9 (length ws / 2) ≡ checked ws
  unfolding checked
  checked-odd h n = rw (le-ltb _ _ h, ne_eqb _ _ n)

  pub checked-list : length ws / 2 ≤ 65536 → length ws % 2 ≡ 0 → scan (events_of ws) 0 0 ≡ checked ws
  unfolding checked
  checked-list h e = rw (le-ltb _ _ h, eq-eqb _ _ e)

-- the sum's loop
pub need-turn : (es : List Event) (i : ℕ) → i < length es → need (drop i es) ≡ cost (get_or es i (NoEvent 0 0)) + need (drop (suc i) es)
unfolding need
need-turn es i h = rw (drop-cons es i (NoEvent 0 0) h)

pub need-end : (es : List Event) (i : ℕ) → length es ≤ i → need (drop i es) ≡ 0
unfolding need
need-end es i h = rw (drop_of_length-le es h)
