-- The kinds of a reading: each is permitted or trivia, and its length is at least 1. Assumes nothing.
use mathlib.Core.Path.{◌≡◌, refl, ap, subst}
use mathlib.Core.Bool.{Bool, true, false, cond}
use mathlib.Core.List.{List, [], ◌∷◌}
use mathlib.Core.Logic.{◌⊎◌, inl, inr}
use Prim.Native.Nat.{ℕ, zero, suc, ◌≤◌, ◌<◌}
use native.Mathlib.Omega.{arith}
use lib.ListN.{length, get_or}
use Rattle.kinds.specs.Kinds.{EOF}
use Rattle.kinds.specs.Sets.{PERMITTED}
use Rattle.kinds.specs.Membership.{both, one_of}
use Rattle.laws.proofs.Tests.{apart}
use Rattle.lexical.specs.Lexed.{Rule, Token, nothing, token, FirstRule, Tiles, lexed}
use Rattle.lexical.specs.Rules.{rules}
use Rattle.lexical.proofs.Theorem.{lexed-right, total, tiles-total}
use Rattle.lex.specs.Lexing.{is_trivia, kinds_in, touched, joints_in}
use Rattle.readings.specs.Readings.{kind, size}
use Rattle.readings.proofs.Places.{token-right}

-- ---- one test of every rule

abbrev sound : ℕ → Bool
sound k = cond (one_of PERMITTED k) true (is_trivia k)

abbrev all_sound : List Rule → Bool
all_sound [] = true
all_sound (r ∷ rs) = both (sound r.0) (all_sound rs)

rules-sound : all_sound rules ≡ true
unfolding one_of
rules-sound = refl

parts : (a b : Bool) → both a b ≡ true → (a ≡ true) × (b ≡ true)
parts true b e = (refl, e)
parts false b e = apart e

first-sound : (rs : List Rule) (k : ℕ) (w : List ℕ) → all_sound rs ≡ true → FirstRule rs k w → sound k ≡ true
first-sound [] k w a f = absurd f
first-sound (r ∷ rs) k w a (inl p) = subst (λ (x : ℕ). sound x ≡ true) p.0 (parts (sound r.0) (all_sound rs) a).0
first-sound (r ∷ rs) k w a (inr p) = first-sound rs k w (parts (sound r.0) (all_sound rs) a).1 p.1

other-permitted : (k : ℕ) → sound k ≡ true → is_trivia k ≡ false → one_of PERMITTED k ≡ true
other-permitted k s t = by (one_of PERMITTED k) refl
  where
    by : (x : Bool) → one_of PERMITTED k ≡ x → one_of PERMITTED k ≡ true
    by true e = e
    by false e = apart (rw (e, t) at s)

kinds-of : (rs : List Rule) → all_sound rs ≡ true → (w : List ℕ) (ts : List Token) → Tiles rs w ts → (i : ℕ) → i < length (kinds_in ts) → one_of PERMITTED (get_or (kinds_in ts) i 0) ≡ true
unfolding kinds_in
kinds-of rs a w [] t i h = absurd (omega arith)
kinds-of rs a w (nothing ∷ ts) t i h = absurd t
kinds-of rs a w (token k n ∷ ts) t i h = by (is_trivia k) refl (kinds-of rs a _ ts t.1) i h
  where
    by : (x : Bool) → is_trivia k ≡ x → ((j : ℕ) → j < length (kinds_in ts) → one_of PERMITTED (get_or (kinds_in ts) j 0) ≡ true) → (i : ℕ) → i < length (cond x (kinds_in ts) (k ∷ kinds_in ts)) → one_of PERMITTED (get_or (cond x (kinds_in ts) (k ∷ kinds_in ts)) i 0) ≡ true
    by true e f i h = f i h
    by false e f zero h = other-permitted k (first-sound rs k _ a t.0.first) e
    by false e f (suc i) h = f i (omega (arith, h))

-- every kind that is handed out is permitted
pub kinds-permitted : (text : List ℕ) (i : ℕ) → i < length (kinds_in (lexed rules text)) → one_of PERMITTED (get_or (kinds_in (lexed rules text)) i 0) ≡ true
kinds-permitted text = kinds-of rules rules-sound text (lexed rules text) (lexed-right text)

-- and none is that of the end
no_end : (k : ℕ) → one_of PERMITTED k ≡ true → k ≡ EOF → ⊥
unfolding one_of
no_end k p e = apart (rw e at p)

pub kinds-no-end : (text : List ℕ) (i : ℕ) → i < length (kinds_in (lexed rules text)) → get_or (kinds_in (lexed rules text)) i 0 ≡ EOF → ⊥
kinds-no-end text i h = no_end (get_or (kinds_in (lexed rules text)) i 0) (kinds-permitted text i h)

-- every token's kind is permitted or trivia
pub tokens-sound : (text : List ℕ) (i : ℕ) → i < length (lexed rules text) → (one_of PERMITTED (kind (get_or (lexed rules text) i nothing)) ≡ true) ⊎ (is_trivia (kind (get_or (lexed rules text) i nothing)) ≡ true)
tokens-sound text i h = by (kind (get_or (lexed rules text) i nothing)) (first-sound rules _ _ rules-sound (token-right rules text (lexed rules text) (lexed-right text) i h).first)
  where
    by : (k : ℕ) → sound k ≡ true → (one_of PERMITTED k ≡ true) ⊎ (is_trivia k ≡ true)
    by k s = on (one_of PERMITTED k) refl
      where
        on : (x : Bool) → one_of PERMITTED k ≡ x → (one_of PERMITTED k ≡ true) ⊎ (is_trivia k ≡ true)
        on true e = inl e
        on false e = inr (rw e at s)

-- the lengths are at least 1, and they add up to the text's
pub lengths : (text : List ℕ) → (total (lexed rules text) ≡ length text) × ((i : ℕ) → i < length (lexed rules text) → 1 ≤ size (get_or (lexed rules text) i nothing))
lengths text =
    let t : Tiles rules text (lexed rules text) = lexed-right text in
    (tiles-total rules text (lexed rules text) t, λ i h. (token-right rules text (lexed rules text) t i h).some)

-- ---- kinds and joint bits of tokens

-- there is a joint bit for each kind
pub joints-kinds : (ts : List Token) → length (joints_in ts) ≡ length (kinds_in ts)
unfolding joints_in kinds_in
joints-kinds [] = refl
joints-kinds (nothing ∷ ts) = joints-kinds ts
joints-kinds (token k n ∷ ts) = by (is_trivia k) (touched ts) (joints-kinds ts)
  where
    by : (x b : Bool) → length (joints_in ts) ≡ length (kinds_in ts) → length (cond x (joints_in ts) (b ∷ joints_in ts)) ≡ length (cond x (kinds_in ts) (k ∷ kinds_in ts))
    by true b e = e
    by false b e = ap suc e
