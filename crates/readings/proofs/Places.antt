-- Where the tokens of a reading stand: each is right at its first byte, and each byte of the text is in one of them. Assumes nothing.
use mathlib.Core.Path.{◌≡◌, refl, sym, ap, subst}
use mathlib.Core.Bool.{Bool, true, false}
use mathlib.Core.List.{List, [], ◌∷◌, ◌++◌}
use Prim.Native.Nat.{ℕ, zero, suc, ◌+◌, ◌-◌, ◌≤◌, ◌<◌}
use native.Mathlib.Omega.{arith}
use lib.Dec.{ltb}
use lib.ListN.{length, get_or, take, drop, length-drop}
use lib.Seq.{drop-drop}
use borrow.Author.Tests.{ltb-true, ltb-false}
use Rattle.lexical.specs.Lexed.{Rule, Token, nothing, token, Longest, Tiles}
use Rattle.lexical.proofs.Theorem.{total}
use Rattle.readings.specs.Readings.{kind, size, start_of, In, Once}

-- each token is the longest, of the first rule, where it begins
pub token-right : (rs : List Rule) (w : List ℕ) (ts : List Token) → Tiles rs w ts → (i : ℕ) → i < length ts → Longest rs (drop (start_of ts i) w) (kind (get_or ts i nothing)) (size (get_or ts i nothing))
unfolding start_of
token-right rs w [] t i h = absurd (omega arith)
token-right rs w (nothing ∷ ts) t i h = absurd t
token-right rs w (token k n ∷ ts) t zero h = t.0
token-right rs w (token k n ∷ ts) t (suc i) h =
    subst (λ (v : List ℕ). Longest rs v (kind (get_or ts i nothing)) (size (get_or ts i nothing))) (drop-drop (start_of ts i) n w)
    (token-right rs (drop n w) ts t.1 i (omega (arith, h)))

-- a token's first byte is the sum of the lengths before it
pub start-total : (ts : List Token) (i : ℕ) → start_of ts i ≡ total (take i ts)
unfolding start_of total
start-total [] zero = refl
start-total [] (suc i) = refl
start-total (t ∷ ts) zero = refl
start-total (nothing ∷ ts) (suc i) = omega (arith, start-total ts i)
start-total (token k n ∷ ts) (suc i) = omega (arith, start-total ts i)

-- behind the last token the text ends
pub last-ends : (rs : List Rule) (w : List ℕ) (ts : List Token) → Tiles rs w ts → start_of ts (length ts) ≡ length w
unfolding start_of
last-ends rs w [] t = ap length (sym t)
last-ends rs w (nothing ∷ ts) t = absurd t
last-ends rs w (token k n ∷ ts) t = omega (arith, last-ends rs (drop n w) ts t.1, length-drop n w, t.0.fits)

-- a token begins where the one before it ends
pub next-begins : (ts : List Token) (i : ℕ) → i < length ts → start_of ts (suc i) ≡ start_of ts i + size (get_or ts i nothing)
unfolding start_of
next-begins [] i h = absurd (omega arith)
next-begins (t ∷ []) zero h = omega arith
next-begins (t ∷ u ∷ ts) zero h = omega arith
next-begins (t ∷ ts) (suc i) h = omega (arith, next-begins ts i (omega (arith, h)))

-- THE THEOREM: each byte of the text is in exactly one token
pub bytes-once : (rs : List Rule) (w : List ℕ) (ts : List Token) → Tiles rs w ts → (b : ℕ) → b < length w → Once ts b
unfolding start_of
bytes-once rs w [] t b h = absurd (omega (arith, ap length t, h))
bytes-once rs w (nothing ∷ ts) t b h = absurd t
bytes-once rs w (token k n ∷ ts) t b h =
    by (ltb b n) refl (λ l. bytes-once rs (drop n w) ts t.1 (b - n) (omega (arith, h, l, length-drop n w)))
  where
    by : (x : Bool) → ltb b n ≡ x → (n ≤ b → Once ts (b - n)) → Once (token k n ∷ ts) b
    by true e f = record { number = 0; in-it = record { there = omega arith; begun = omega arith; unended = omega (arith, l) }; only = only }
      where
        l : b < n
        l = ltb-true b n e

        only : (j : ℕ) → In (token k n ∷ ts) j b → j ≡ 0
        only zero i = refl
        only (suc j) i = absurd (omega (arith, l, i.begun))
    by false e f =
        record {
          number = suc more.number;
          in-it = record { there = omega (arith, more.in-it.there); begun = omega (arith, l, more.in-it.begun); unended = omega (arith, l, more.in-it.unended) };
          only = only;
        }
      where
        l : n ≤ b
        l = ltb-false b n e

        more : Once ts (b - n)
        more = f l

        only : (j : ℕ) → In (token k n ∷ ts) j b → j ≡ suc more.number
        only zero i = absurd (omega (arith, l, i.unended))
        only (suc j) i = ap suc (more.only j (record { there = omega (arith, i.there); begun = omega (arith, l, i.begun); unended = omega (arith, l, i.unended) }))

-- the tokens behind some others read the text behind them
pub reads-behind : (rs : List Rule) (w : List ℕ) (us vs : List Token) → Tiles rs w (us ++ vs) → Tiles rs (drop (start_of (us ++ vs) (length us)) w) vs
unfolding start_of
reads-behind rs w [] [] t = t
reads-behind rs w [] (v ∷ vs) t = t
reads-behind rs w (nothing ∷ us) vs t = absurd t
reads-behind rs w (token k n ∷ us) vs t =
    subst (λ (v : List ℕ). Tiles rs v vs) (drop-drop (start_of (us ++ vs) (length us)) n w) (reads-behind rs (drop n w) us vs t.1)
