-- Laws of the definitions that the walk over a text rests on. Assumes nothing.
use Prim.Native.Nat.{ℕ, zero, suc, ◌+◌, ◌-◌, ◌≤◌, ◌<◌, min}
use native.Mathlib.Omega.{arith}
use native.Mathlib.Numerals.{add-one}
use mathlib.Core.Path.{◌≡◌, sym, ap, ◌∙◌}
use mathlib.Core.Bool.{Bool, true, false}
use mathlib.Core.List.{List}
use mathlib.Core.Logic.{inl, inr}
use borrow.Author.Tests.{leb-true, leb-false, ne_eqb}
use lib.Dec.{eqb, leb}
use lib.ListN.{length, get_or, get_or-eq_default}
use Rattle.laws.proofs.Tests.{by-test, apart}
use Rattle.position.specs.declared.Position.{Position}
use Rattle.position.specs.declared.Spot.{Spot}
use Rattle.position.specs.declared.Cursor.{Cursor}
use Rattle.position.specs.Position.{ends, ended, began, position, count, kind_of, size_of, is_trivia, offset, passed, byte_of, At}
use Rattle.position.specs.Inside.{spot, cursor, Stands, has_come}

-- behind the end there is no LF
pub beyond : (t : List ℕ) (i : ℕ) → length t ≤ i → eqb (get_or t i 0) 10 ≡ false
beyond t i h = ne_eqb _ 10 (λ (e : get_or t i 0 ≡ 10). omega (arith, get_or-eq_default t 0 {n = i} h))

-- no more lines have ended than bytes stand before, and a line begins no later than its bytes
pub ended_le : (t : List ℕ) (n : ℕ) → ended t n ≤ n
unfolding ended
ended_le t zero = omega arith
ended_le t (suc n) =
    let h = ended_le t n in
    by-test (λ (x : ℕ). x ≤ suc n) (ends t n) _ _ (λ e. omega arith) (λ e. omega arith)

pub began-le : (t : List ℕ) (n : ℕ) → began t n ≤ n
unfolding began
began-le t zero = omega arith
began-le t (suc n) =
    let h = began-le t n in
    by-test (λ (x : ℕ). x ≤ suc n) (ends t n) _ _ (λ e. omega arith) (λ e. omega arith)

-- a spot behind a byte with which a line ends, and behind another
pub spot_ends : (t : List ℕ) (s : Spot) → s ≡ spot t s.at → ends t s.at ≡ true → ◌≡◌ {A = Spot} (record { at = s.at + 1; lines = s.lines + 1; start = s.at + 1 }) (spot t (s.at + 1))
unfolding ended began
spot_ends t s h e = rw (add-one s.at, e, ap (λ (x : Spot). x.lines) h)

pub spot_goes : (t : List ℕ) (s : Spot) → s ≡ spot t s.at → ends t s.at ≡ false → ◌≡◌ {A = Spot} (record { at = s.at + 1; lines = s.lines; start = s.start }) (spot t (s.at + 1))
unfolding ended began
spot_goes t s h e = rw (add-one s.at, e, ap (λ (x : Spot). x.lines) h, ap (λ (x : Spot). x.start) h)

-- of so many tokens no more are no trivia
pub passed_le : (ws : List ℕ) (i : ℕ) → passed ws i ≤ i
unfolding passed
passed_le ws zero = omega arith
passed_le ws (suc i) =
    let h = passed_le ws i in
    by-test (λ (x : ℕ). x ≤ suc i) (is_trivia (kind_of ws i)) _ _ (λ e. omega arith) (λ e. omega arith)

-- a cursor behind a token that is trivia, and behind another
module _ (t ws : List ℕ) (c : Cursor) (s : Spot) (n : ℕ) (h : c ≡ cursor t ws c.token) (w : n ≡ size_of ws c.token) (e : s ≡ spot t (min (c.spot.at + n) (length t))) where
  spot_past : s ≡ spot t (byte_of t ws (c.token + 1))
  unfolding offset
  spot_past =
      let a = ap (λ (x : Cursor). x.spot.at) h in
      e ∙ ap (spot t) (rw (add-one c.token) (omega arith))

  pub past_trivia : is_trivia (kind_of ws c.token) ≡ true → ◌≡◌ {A = Cursor} (record { token = c.token + 1; place = c.place; spot = s }) (cursor t ws (c.token + 1))
  unfolding passed
  past_trivia k = rw (spot_past, add-one c.token, k, ap (λ (x : Cursor). x.place) h)

  pub past_other : is_trivia (kind_of ws c.token) ≡ false → ◌≡◌ {A = Cursor} (record { token = c.token + 1; place = c.place + 1; spot = s }) (cursor t ws (c.token + 1))
  unfolding passed
  past_other k = rw (spot_past, add-one c.token, k, ap (λ (x : Cursor). x.place) h)

-- where a walk ends it has come to the token with the place, and where it goes on it does not pass it
module _ (ws : List ℕ) (p i : ℕ) (l : i ≤ count ws) (m : passed ws i ≤ p) where
  comes : has_come ws p i (passed ws i) ≡ true → At ws p i
  unfolding has_come
  comes =
      by-test (λ (b : Bool). b ≡ true → At ws p i) (leb (count ws) i) _ _
      (λ t y. inr (omega (arith, leb-true (count ws) i t), m))
      (λ f.
      by-test (λ (b : Bool). b ≡ true → At ws p i) (is_trivia (kind_of ws i)) _ _
      (λ k y. apart y)
      (λ k y. inl (omega (arith, leb-false (count ws) i f), k, omega (arith, leb-true p (passed ws i) y))))

  passes-trivia : is_trivia (kind_of ws i) ≡ true → passed ws (i + 1) ≤ p
  unfolding passed
  passes-trivia k = rw (add-one i, k) m

  passes-other : is_trivia (kind_of ws i) ≡ false → passed ws i < p → passed ws (i + 1) ≤ p
  unfolding passed
  passes-other k q = rw (add-one i, k) (omega arith)

  goes : has_come ws p i (passed ws i) ≡ false → (i < count ws) × (passed ws (i + 1) ≤ p)
  unfolding has_come
  goes =
      by-test (λ (b : Bool). b ≡ false → (i < count ws) × (passed ws (i + 1) ≤ p)) (leb (count ws) i) _ _
      (λ t n. apart (sym n))
      (λ f.
      by-test (λ (b : Bool). b ≡ false → (i < count ws) × (passed ws (i + 1) ≤ p)) (is_trivia (kind_of ws i)) _ _
      (λ k n. (omega (arith, leb-false (count ws) i f), passes-trivia k))
      (λ k n. (omega (arith, leb-false (count ws) i f), passes-other k (leb-false p (passed ws i) n))))

-- the same of a cursor
module _ (t ws : List ℕ) (p : ℕ) (c : Cursor) (h : Stands t ws c) (m : c.place ≤ p) where
  place_is : c.place ≡ passed ws c.token
  place_is = ap (λ (x : Cursor). x.place) h.is

  pub cursor-comes : has_come ws p c.token c.place ≡ true → At ws p c.token
  cursor-comes y = comes ws p c.token h.inside (omega (arith, place_is)) (ap (has_come ws p c.token) (sym place_is) ∙ y)

  pub cursor-goes : has_come ws p c.token c.place ≡ false → (c.token < count ws) × (passed ws (c.token + 1) ≤ p)
  cursor-goes n = goes ws p c.token h.inside (omega (arith, place_is)) (ap (has_come ws p c.token) (sym place_is) ∙ n)

-- a cursor's line begins no later than it stands, which is in the text, and no more lines have ended there than bytes stand before it
module _ (t ws : List ℕ) (c : Cursor) (h : c ≡ cursor t ws c.token) where
  pub starts_before : c.spot.start ≤ c.spot.at
  starts_before = omega (arith, ap (λ (x : Cursor). x.spot.start) h, ap (λ (x : Cursor). x.spot.at) h, began-le t (byte_of t ws c.token))

  pub in-text : c.spot.at ≤ length t
  in-text = omega (arith, ap (λ (x : Cursor). x.spot.at) h)

  pub few_lines : c.spot.lines ≤ length t
  few_lines = omega (arith, ap (λ (x : Cursor). x.spot.lines) h, ended_le t (byte_of t ws c.token))

  pub few-columns : c.spot.at - c.spot.start ≤ length t
  few-columns = omega (arith, in-text)

  pub stands : ◌≡◌ {A = Position} (record { line = c.spot.lines + 1; column = c.spot.at - c.spot.start + 1 }) (position t (byte_of t ws c.token))
  stands = rw (ap (λ (x : Cursor). x.spot) h)

  pub spot_of : c.spot ≡ spot t c.spot.at
  spot_of = ap (λ (x : Cursor). x.spot) h ∙ ap (spot t) (sym (ap (λ (x : Cursor). x.spot.at) h))
