-- What follows of the definitions. Assumes nothing.
use Prim.Native.Nat.{ℕ, zero, suc, ◌+◌, ◌-◌, ◌≤◌, ◌<◌}
use native.Mathlib.Omega.{arith}
use native.Mathlib.Nat.{zero-min, zero-add, suc-add}
use mathlib.Core.Path.{◌≡◌, sym, ap, ◌∙◌}
use mathlib.Core.Bool.{Bool, true, false}
use mathlib.Core.List.{List}
use mathlib.Core.Logic.{inl, inr}
use lib.Dec.{eqb}
use lib.ListN.{length}
use borrow.Author.Tests.{eqb-true, eqb-false}
use Rattle.laws.proofs.Tests.{by-test, apart}
use Rattle.position.specs.Position.{ends, ended, began, count, kind_of, is_trivia, offset, passed, is_at, seek, token_of, At}
use Rattle.position.specs.Inside.{begins, Stands}

-- the beginning is a cursor of every text and list
pub begins-stands : (t ws : List ℕ) → Stands t ws begins
unfolding ended began offset passed
begins-stands t ws = record { is = rw (zero-min (length t)); inside = omega arith }

-- **Where a line begins.** It is the text's first byte, or a line ends with the byte before it; and no line ends between it and byte n.
pub began-behind : (t : List ℕ) (n m : ℕ) → began t n ≡ suc m → ends t m ≡ true
unfolding began
began-behind t zero m = λ e. absurd (omega arith)
began-behind t (suc n) m =
    by-test (λ (x : ℕ). x ≡ suc m → ends t m ≡ true) (ends t n) _ _ (λ y e. let h : n ≡ m = omega arith in ap (ends t) (sym h) ∙ y) (λ f e. began-behind t n m e)

pub began-last : (t : List ℕ) (n k : ℕ) → began t n ≤ k → k < n → ends t k ≡ false
unfolding began
began-last t zero k = λ b l. absurd (omega arith)
began-last t (suc n) k =
    by-test (λ (x : ℕ). x ≤ k → k < suc n → ends t k ≡ false) (ends t n) _ _
    (λ y b l. absurd (omega arith))
    (λ f b l.
    by-test (λ (x : ℕ). ends t k ≡ false) (eqb k n) 0 0
    (λ y. ap (ends t) (eqb-true k n y) ∙ f)
    (λ d. let o : (k ≡ n → ⊥) = eqb-false k n d in began-last t n k b (omega arith)))

-- further on no fewer are passed, and behind a token that is no trivia one more
passed-step : (ws : List ℕ) (i : ℕ) → passed ws i ≤ passed ws (suc i)
unfolding passed
passed-step ws i = by-test (λ (x : ℕ). passed ws i ≤ x) (is_trivia (kind_of ws i)) _ _ (λ e. omega arith) (λ e. omega arith)

passed-far : (ws : List ℕ) (i n : ℕ) → passed ws i ≤ passed ws (n + i)
passed-far ws i zero = rw zero-add (omega arith)
passed-far ws i (suc n) = rw (suc-add) (omega (arith, passed-far ws i n, passed-step ws (n + i)))

passed-past : (ws : List ℕ) (i : ℕ) → is_trivia (kind_of ws i) ≡ false → passed ws (suc i) ≡ passed ws i + 1
unfolding passed
passed-past ws i k = rw k

-- before a later token, all that are no trivia up to it are passed
passed_later : (ws : List ℕ) (i j : ℕ) → i < j → is_trivia (kind_of ws i) ≡ false → passed ws i < passed ws j
passed_later ws i j l k =
    let e : j - suc i + suc i ≡ j = omega arith in
    omega (arith, passed-past ws i k, passed-far ws (suc i) (j - suc i), ap (passed ws) e)

no-earlier : (ws : List ℕ) (p i j : ℕ) → At ws p i → At ws p j → i < j → ⊥
no-earlier ws p i j (inl a) (inl b) l = omega (arith, passed_later ws i j l a.1, a.2, b.2)
no-earlier ws p i j (inl a) (inr b) l = omega (arith, passed_later ws i j l a.1, a.2, b.1)
no-earlier ws p i j (inr a) (inl b) l = omega (arith, a.0, b.0)
no-earlier ws p i j (inr a) (inr b) l = omega (arith, a.0, b.0)

-- **One token.** No two tokens have one place, and the end of the list has it only where no token does.
pub one_token : (ws : List ℕ) (p i j : ℕ) → At ws p i → At ws p j → i ≡ j
one_token ws p i j a b =
    let g : (i < j → ⊥) = no-earlier ws p i j a b in
    let h : (j < i → ⊥) = no-earlier ws p j i b a in
    omega arith

-- what the search asks of a token
is-at : (ws : List ℕ) (p i : ℕ) → is_at ws p i ≡ true → (is_trivia (kind_of ws i) ≡ false) × (passed ws i ≡ p)
unfolding is_at
is-at ws p i =
    by-test (λ (b : Bool). b ≡ true → (is_trivia (kind_of ws i) ≡ false) × (passed ws i ≡ p)) (is_trivia (kind_of ws i)) _ _
    (λ k y. apart y)
    (λ k y. (k, eqb-true _ _ y))

-- where it goes on, no more than p are passed
on-trivia : (ws : List ℕ) (p i : ℕ) → passed ws i ≤ p → is_trivia (kind_of ws i) ≡ true → passed ws (suc i) ≤ p
unfolding passed
on-trivia ws p i l k = rw k l

not_at : (ws : List ℕ) (p i : ℕ) → passed ws i ≤ p → is_at ws p i ≡ false → passed ws (suc i) ≤ p
unfolding is_at
not_at ws p i l =
    by-test (λ (b : Bool). b ≡ false → passed ws (suc i) ≤ p) (is_trivia (kind_of ws i)) _ _
    (λ k n. on-trivia ws p i l k)
    (λ k n. let d : (passed ws i ≡ p → ⊥) = eqb-false _ _ n in omega (arith, passed-past ws i k))

seek-at : (ws : List ℕ) (p n i : ℕ) → n + i ≡ count ws → passed ws i ≤ p → At ws p (seek ws p n i)
unfolding seek
seek-at ws p zero i e l = inr (omega arith, l)
seek-at ws p (suc n) i e l =
    by-test (λ (j : ℕ). At ws p j) (is_at ws p i) _ _
    (λ t. let a = is-at ws p i t in inl (omega arith, a.0, a.1))
    (λ f. seek-at ws p n (suc i) (omega arith) (not_at ws p i l f))

-- **The search finds it**, and so nothing else is that token.
pub token-at : (ws : List ℕ) (p : ℕ) → At ws p (token_of ws p)
unfolding passed
token-at ws p = seek-at ws p (count ws) 0 (omega arith) (omega arith)

pub is-token : (ws : List ℕ) (p i : ℕ) → At ws p i → i ≡ token_of ws p
is-token ws p i a = one_token ws p i (token_of ws p) a (token-at ws p)
