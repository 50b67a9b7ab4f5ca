-- The traits of events: the table against `decode`, by one test that antt computes; and what they say of the check.
-- Assumes nothing.
use Prim.Native.Nat.{ℕ, zero, suc, ◌+◌, ◌*◌, ◌-◌, ◌/◌, ◌%◌, ◌^◌, ◌≤◌, ◌<◌, min}
use native.Mathlib.Omega.{arith}
use mathlib.Core.Path.{◌≡◌, refl, sym, ap, ◌∙◌}
use mathlib.Core.Bool.{Bool, true, false, cond, true≢false}
use mathlib.Core.List.{List, [], ◌∷◌}
use lib.Dec.{T, eqb, leb, eqb→eq}
use lib.ListN.{length, get_or, drop, get_or-eq_default}
use borrow.Author.Tests.{eqb-true, eqb-false, ne_eqb, le-leb, lt-leb, leb-true, leb-false}
use Rattle.event.specs.declared.Event.{Event}
use Rattle.event.specs.declared.Event.TheVariants.{Start, Finish, Token, Error, NoEvent}
use Rattle.event.specs.Event.{decode, events_of, is_start, distance}
use Rattle.laws.proofs.Tests.{by-test}
use Rattle.event.proofs.Rooms.{event-index}
use Rattle.event.proofs.Encoding.{say-start, say-other}
use Rattle.records.specs.Record.{bytes}
use Rattle.lists.specs.Check.{Next.Open, Next.Fault, lands, next}
use Rattle.own.specs.Own.{cost}
use Rattle.lists.specs.Inside.{tells, Traits}
use Rattle.lists.proofs.Scans.{lands-index}

-- ---- the table

-- the numbers, as src/lib.rt has them
abbrev pub table : List ℕ
table = 0 ∷ 0 ∷ 63 ∷ 863 ∷ 513 ∷ 0 ∷ 942 ∷ 942 ∷ []

-- `tells` of an event by its tag, its kind and its second word
told : ℕ → ℕ → ℕ → ℕ
told t k b =
    cond (eqb t 1) (2 + min k 1 + 4 * cond (eqb k 0) 0 6)
    (cond (eqb t 2) (cond (eqb k 0) (cond (eqb b 0) 17 0) 0)
    (cond (eqb t 3) (cond (eqb b 0) 0 (cond (leb b 3) 30 0)) 0))

tells-start : (k d : ℕ) → tells (Start k d) ≡ 2 + min k 1 + 4 * cond (eqb k 0) 0 6
unfolding tells bytes
tells-start zero d = refl
tells-start (suc k) d = rw (ne_eqb (suc k) 0 (λ z. omega arith)) (omega arith)

tells-cond : (t : Bool) (x y : Event) → tells (cond t x y) ≡ cond t (tells x) (tells y)
tells-cond true x y = refl
tells-cond false x y = refl

tells-finish : tells Finish ≡ 17
unfolding tells bytes
tells-finish = refl

tells-token : (k n : ℕ) → tells (Token k n) ≡ 30
unfolding tells bytes
tells-token k n = refl

tells_none : (a b : ℕ) → tells (NoEvent a b) ≡ 0
unfolding tells
tells_none a b = refl

tells-told : (a b : ℕ) → a < 262144 → tells (decode a b) ≡ told (a / 65536) (a % 65536) b
unfolding decode told
tells-told a b h = rw (ne_eqb (a / 65536) 4 (λ e. omega arith)) (simp (tells-cond, tells-start, tells-finish, tells-token, tells_none))

-- a kind counts as 0 or 1, and a second word as one below 5
told-small : (t k b : ℕ) → told t k b ≡ told t (min k 1) (min b 4)
unfolding told
told-small t k b =
    let k₁ : min (min k 1) 1 ≡ min k 1 = omega arith in
    rw (k₁, zeros k 1 (omega arith), zeros b 4 (omega arith), threes (leb b 3) refl)
  where
    zeros : (x m : ℕ) → 0 < m → eqb x 0 ≡ eqb (min x m) 0
    zeros zero m l = let e : min 0 m ≡ 0 = omega arith in rw e
    zeros (suc x) m l = rw (ne_eqb (suc x) 0 (λ z. omega arith), ne_eqb (min (suc x) m) 0 (λ z. omega arith))

    threes : (s : Bool) → leb b 3 ≡ s → leb b 3 ≡ leb (min b 4) 3
    threes true e = rw (e, le-leb (min b 4) 3 (omega (arith, leb-true b 3 e)))
    threes false e = rw (e, lt-leb (min b 4) 3 (omega (arith, leb-false b 3 e)))

-- what the number at a class says of one such case
abbrev says : ℕ → ℕ → ℕ
says r c = r / 2 ^ c % 2 * (1 + r / 32)

right : ℕ → ℕ → ℕ → Bool
right t z c = eqb (says (get_or table ((2 * t + z) % 8) 0) c) (told t z c)

-- every case: tag 1 to 3, no kind or one, second word 0 to 4
every : ℕ → Bool
every zero = true
every (suc n) = cond (right (1 + n / 10) (n / 5 % 2) (n % 5)) (every n) false

all_right : T (every 30)
unfolding every right told
all_right = tt

one_right : (m : ℕ) → T (every m) → (n : ℕ) → n < m → T (right (1 + n / 10) (n / 5 % 2) (n % 5))
unfolding every
one_right zero t n h = absurd (omega arith)
one_right (suc m) t n h = go (right (1 + m / 10) (m / 5 % 2) (m % 5)) refl t (eqb n m) refl (λ u. one_right m u n)
  where
    go : (s : Bool) → right (1 + m / 10) (m / 5 % 2) (m % 5) ≡ s → T (cond s (every m) false) → (e : Bool) → eqb n m ≡ e
        → (T (every m) → n < m → T (right (1 + n / 10) (n / 5 % 2) (n % 5))) → T (right (1 + n / 10) (n / 5 % 2) (n % 5))
    go true q u true e before = rw (eqb-true n m e, q) tt
    go true q u false e before = before u (omega (arith, eqb-false n m e))
    go false q u e f before = absurd u

table-right : (t z c : ℕ) → 0 < t → t < 4 → z < 2 → c < 5 → says (get_or table ((2 * t + z) % 8) 0) c ≡ told t z c
unfolding right
table-right t z c h₀ h₁ h₂ h₃ =
    let n : ℕ = (t - 1) * 10 + z * 5 + c in
    let e₁ : 1 + n / 10 ≡ t = omega arith in
    let e₂ : n / 5 % 2 ≡ z = omega arith in
    let e₃ : n % 5 ≡ c = omega arith in
    eqb→eq _ _ (rw (e₁, e₂, e₃) at (one_right 30 all_right n (omega arith)))

-- the number at a word's class says its traits
pub traits-at : (a class n : ℕ) → 65536 ≤ a → a < 262144 → class ≡ 2 * (a / 65536) + min (a % 65536) 1 → get_or table (class % 8) 0 ≡ n → Traits a n
traits-at a class n l h e q b s =
    let r = table-right (a / 65536) (min (a % 65536) 1) (min b 4) (omega arith) (omega arith) (omega arith) (omega arith) in
    (rw (← q, e) r) ∙ sym (told-small (a / 65536) (a % 65536) b) ∙ sym (tells-told a b (omega arith))

-- ---- what two words say

-- whether a start stands there, by the product that the code has
astray : (a b d : ℕ) → a < 4294967296 → eqb (suc d * ((a / 65536 + 65535) % 65536)) 0 ≡ is_start (decode a b)
astray a b d h = go ((a / 65536 + 65535) % 65536) refl
  where
    go : (x : ℕ) → (a / 65536 + 65535) % 65536 ≡ x → eqb (suc d * ((a / 65536 + 65535) % 65536)) 0 ≡ is_start (decode a b)
    go zero e =
        let z : suc d * 0 ≡ 0 = omega arith in
        rw (e, say-start a b (omega arith), z)
    go (suc x) e = rw (e, (say-other a b (λ q. omega arith)).0) (ne_eqb (suc d * suc x) 0 (λ z. omega arith))

pub lands-astray : (ws : List ℕ) (i d : ℕ) → i + d < length ws / 2 → get_or ws (2 * (i + d)) 0 < 4294967296
    → eqb (d * ((get_or ws (2 * (i + d)) 0 / 65536 + 65535) % 65536)) 0 ≡ lands (drop (suc i) (events_of ws)) d
lands-astray ws i zero h l =
    let z : 0 * ((get_or ws (2 * (i + 0)) 0 / 65536 + 65535) % 65536) ≡ 0 = omega arith in
    rw z
lands-astray ws i (suc d) h l =
    astray (get_or ws (2 * (i + suc d)) 0) (get_or ws (2 * (i + suc d) + 1) 0) d l
    ∙ ap is_start (event-index ws (i + suc d) h)
    ∙ lands-index (events_of ws) i (suc d) (λ z. omega arith)

-- ---- the nodes open past an event, by its traits

module _ (o : ℕ) (es : List Event) where
  -- two words that say no event
  pub next-none : (e : Event) → tells e ≡ 0 → Fault ≡ next e o es
  unfolding tells next
  next-none (Start k d) h = absurd (omega arith)
  next-none Finish h = absurd (omega arith)
  next-none (Token k n) h = absurd (omega arith)
  next-none (Error c x f) h = absurd (omega arith)
  next-none (NoEvent a b) h = refl

  -- a distance that does not land
  pub next-lost : (e : Event) → lands es (distance e) ≡ false → Fault ≡ next e o es
  unfolding next
  next-lost (Start k d) h = rw h
  next-lost Finish h = absurd (true≢false h)
  next-lost (Token k n) h = absurd (true≢false h)
  next-lost (Error c x f) h = absurd (true≢false h)
  next-lost (NoEvent a b) h = absurd (true≢false h)

  -- an event whose distance lands, and whose traits r has
  module _ (r : ℕ) where
    pub next-fault : (e : Event) → 1 + r / 32 ≡ tells e → lands es (distance e) ≡ true → o + r / 32 % 4 ≡ 0 → Fault ≡ next e o es
    unfolding tells next bytes
    next-fault (Start k d) h l z = absurd (omega arith)
    next-fault Finish h l z = let q : o ≡ 0 = omega arith in rw q
    next-fault (Token k n) h l z = absurd (omega arith)
    next-fault (Error c x f) h l z = absurd (omega arith)
    next-fault (NoEvent a b) h l z = absurd (omega arith)

    pub next-passes : (e : Event) → 1 + r / 32 ≡ tells e → lands es (distance e) ≡ true → (o + r / 32 % 4 ≡ 0 → ⊥) → Open (o + r / 32 % 4 - 1) ≡ next e o es
    unfolding tells next bytes
    next-passes (Start k d) h l n = let q : o + r / 32 % 4 - 1 ≡ o + min k 1 = omega arith in rw (l, q)
    next-passes Finish h l n =
        let p : o + r / 32 % 4 ≡ o = omega arith in
        rw p (close o (omega arith))
      where
        close : (o : ℕ) → (o ≡ 0 → ⊥) → Open (o - 1) ≡ next Finish o es
        close zero n = absurd (n refl)
        close (suc o) n = let q : suc o - 1 ≡ o = omega arith in rw q
    next-passes (Token k m) h l n = let q : o + r / 32 % 4 - 1 ≡ o = omega arith in rw q
    next-passes (Error c x f) h l n = let q : o + r / 32 % 4 - 1 ≡ o = omega arith in rw q
    next-passes (NoEvent a b) h l n = absurd (omega arith)

  -- a second word too large for any list, of an event that is no error
  abbrev Faulty : Event → Type 0
  Faulty e = Fault ≡ next e o es

  pub next-far : (a b : ℕ) → a < 262144 → 65535 < b → length es < b → Faulty (decode a b)
  unfolding decode next
  next-far a b f h l =
      by-test Faulty (eqb (a / 65536) 1) _ _ (λ _. next-lost (Start (a % 65536) b) (past b l)) λ _.
      rw (ne_eqb b 0 (λ z. omega arith), lt-leb b 3 (omega arith), ne_eqb (a / 65536) 4 (λ z. omega arith))
      (by-test Faulty (eqb (a / 65536) 2) _ _ (λ _. by-test Faulty (eqb (a % 65536) 0) _ _ (λ _. refl) (λ _. refl)) λ _.
      by-test Faulty (eqb (a / 65536) 3) _ _ (λ _. refl) (λ _. refl))
    where
      past : (b : ℕ) → length es < b → lands es b ≡ false
      past zero l = absurd (omega arith)
      past (suc d) l = ap is_start (get_or-eq_default es (NoEvent 0 0) (omega arith))

-- no event has so small a first word
pub tells-out : (a b : ℕ) → a < 65536 → tells (decode a b) ≡ 0
unfolding decode
tells-out a b h =
    rw (ne_eqb (a / 65536) 1 (λ e. omega arith), ne_eqb (a / 65536) 2 (λ e. omega arith), ne_eqb (a / 65536) 3 (λ e. omega arith), ne_eqb (a / 65536) 4 (λ e. omega arith))
    (tells_none a b)

-- a bit that is not set, and one that is
pub bit-off : (x n m : ℕ) → x % 2 ≡ 0 → x % 2 * n ≡ m → m ≡ 0
bit-off x n m q e = omega (arith, rw q at e)

pub bit-on : (x n m : ℕ) → (x % 2 ≡ 0 → ⊥) → x % 2 * n ≡ m → n ≡ m
bit-on x n m h e = let q : x % 2 ≡ 1 = omega arith in omega (arith, rw q at e)

-- what an event's number says of its bytes
pub tells-cost : (e : Event) (r : ℕ) → 1 + r / 32 ≡ tells e → r / 128 ≡ cost e
unfolding tells
tells-cost (Start k d) r h = omega arith
tells-cost Finish r h = omega arith
tells-cost (Token k n) r h = omega arith
tells-cost (Error c x f) r h = omega arith
tells-cost (NoEvent a b) r h = absurd (omega arith)
