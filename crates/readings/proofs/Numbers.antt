-- The tokens that are no trivia, numbered: each number below that of the kinds is one token's, and each such token has one below it. Assumes nothing.
use mathlib.Core.Path.{◌≡◌, refl, sym, ap, ◌∙◌}
use mathlib.Core.Bool.{Bool, true, false, cond}
use mathlib.Core.List.{List, [], ◌∷◌, ◌++◌}
use mathlib.Core.Logic.{inl, inr}
use Prim.Native.Nat.{ℕ, zero, suc, ◌≤◌, ◌<◌}
use native.Mathlib.Omega.{arith}
use lib.Dec.{eqb}
use lib.ListN.{length, get_or, take, drop}
use borrow.Author.Tests.{eqb-true, eq-eqb, ne_eqb}
use Rattle.kinds.specs.Kinds.{WHITESPACE, COMMENT}
use Rattle.kinds.specs.Membership.{one_of}
use Rattle.laws.proofs.Tests.{apart}
use Rattle.lexical.specs.Lexed.{Rule, Token, nothing, token, Tiles}
use Rattle.lex.specs.Lexing.{is_trivia, kinds_in}
use Rattle.readings.specs.Readings.{kind, size, Trivia, Other, number_of, Numbered}

-- ---- trivia

pub other-kind : (k : ℕ) → (Trivia k → ⊥) → is_trivia k ≡ false
unfolding one_of
other-kind k h = rw (ne_eqb k WHITESPACE (λ e. h (inl e)), ne_eqb k COMMENT (λ e. h (inr e)))

pub kind-other : (k : ℕ) → is_trivia k ≡ false → Trivia k → ⊥
unfolding one_of
kind-other k e (inl q) = apart (sym e ∙ rw (eq-eqb k WHITESPACE q))
kind-other k e (inr q) = by (eqb k WHITESPACE) refl
  where
    by : (x : Bool) → eqb k WHITESPACE ≡ x → ⊥
    by true c = apart (sym e ∙ rw c)
    by false c = apart (sym e ∙ rw (c, eq-eqb k COMMENT q))

trivia-is : (k : ℕ) → is_trivia k ≡ true → Trivia k
unfolding one_of
trivia-is k e = by (eqb k WHITESPACE) refl (eqb k COMMENT) refl
  where
    by : (x : Bool) → eqb k WHITESPACE ≡ x → (y : Bool) → eqb k COMMENT ≡ y → Trivia k
    by true c y d = inl (eqb-true k WHITESPACE c)
    by false c true d = inr (eqb-true k COMMENT d)
    by false c false d = apart (sym (sym e ∙ rw (c, d)))

-- ---- numbers

-- a reading is all tokens
pub token-there : (rs : List Rule) (w : List ℕ) (ts : List Token) → Tiles rs w ts → (j : ℕ) → j < length ts → ts ≡ take j ts ++ token (kind (get_or ts j nothing)) (size (get_or ts j nothing)) ∷ drop (suc j) ts
token-there rs w [] t j h = absurd (omega arith)
token-there rs w (nothing ∷ ts) t j h = absurd t
token-there rs w (token k n ∷ ts) t zero h = refl
token-there rs w (token k n ∷ ts) t (suc j) h = ap (λ (us : List Token). token k n ∷ us) (token-there rs (drop n w) ts t.1 j (omega (arith, h)))

-- numbers are in the order of the tokens
pub numbers-grow : (ts : List Token) (i j : ℕ) → i ≤ j → number_of ts i ≤ number_of ts j
unfolding kinds_in
numbers-grow ts zero j h = omega arith
numbers-grow [] (suc i) j h = omega arith
numbers-grow (t ∷ ts) (suc i) zero h = absurd (omega (arith, h))
numbers-grow (nothing ∷ ts) (suc i) (suc j) h = numbers-grow ts i j (omega (arith, h))
numbers-grow (token k n ∷ ts) (suc i) (suc j) h = by (is_trivia k) (numbers-grow ts i j (omega (arith, h)))
  where
    by : (x : Bool) → number_of ts i ≤ number_of ts j → length (cond x (kinds_in (take i ts)) (k ∷ kinds_in (take i ts))) ≤ length (cond x (kinds_in (take j ts)) (k ∷ kinds_in (take j ts)))
    by true l = l
    by false l = omega (arith, l)

-- each number is one token's
pub numbered : (rs : List Rule) (w : List ℕ) (ts : List Token) → Tiles rs w ts → (i : ℕ) → i < length (kinds_in ts) → Numbered ts i
unfolding kinds_in
numbered rs w [] t i h = absurd (omega arith)
numbered rs w (nothing ∷ ts) t i h = absurd t
numbered rs w (token k n ∷ ts) t i h = by (is_trivia k) refl i h (λ j l. numbered rs (drop n w) ts t.1 j l)
  where
    by : (x : Bool) → is_trivia k ≡ x → (i : ℕ) → i < length (cond x (kinds_in ts) (k ∷ kinds_in ts)) → ((j : ℕ) → j < length (kinds_in ts) → Numbered ts j) → Numbered (token k n ∷ ts) i
    by true e i h f =
        record {
          place = suc m.place;
          counts = record { there = omega (arith, m.counts.there); other = m.counts.other };
          number = rw e m.number;
          only = only;
        }
      where
        m : Numbered ts i
        m = f i h

        only : (j : ℕ) → Other (token k n ∷ ts) j → number_of (token k n ∷ ts) j ≡ i → j ≡ suc m.place
        only zero o q = absurd (o.other (trivia-is k e))
        only (suc j) o q = ap suc (m.only j (record { there = omega (arith, o.there); other = o.other }) (rw e at q))
    by false e zero h f = record { place = 0; counts = record { there = omega arith; other = kind-other k e }; number = refl; only = only }
      where
        only : (j : ℕ) → Other (token k n ∷ ts) j → number_of (token k n ∷ ts) j ≡ 0 → j ≡ 0
        only zero o q = refl
        only (suc j) o q = let z : suc (length (kinds_in (take j ts))) ≡ 0 = rw e at q in absurd (omega (arith, z))
    by false e (suc i) h f =
        record {
          place = suc m.place;
          counts = record { there = omega (arith, m.counts.there); other = m.counts.other };
          number = rw e (ap suc m.number);
          only = only;
        }
      where
        m : Numbered ts i
        m = f i (omega (arith, h))

        only : (j : ℕ) → Other (token k n ∷ ts) j → number_of (token k n ∷ ts) j ≡ suc i → j ≡ suc m.place
        only zero o q = absurd (omega (arith, q))
        only (suc j) o q =
            let z : suc (length (kinds_in (take j ts))) ≡ suc i = rw e at q in
            ap suc (m.only j (record { there = omega (arith, o.there); other = o.other }) (omega (arith, z)))
