-- The tokens that are computed are the right ones: each is the longest, of the first rule, and they tile the text. Assumes nothing.
use mathlib.Core.Path.{◌≡◌, refl, sym, ap, subst}
use mathlib.Core.Bool.{Bool, true, false}
use mathlib.Core.List.{List, [], ◌∷◌, ◌++◌}
use mathlib.Core.Logic.{inl, inr, ⊎_elim}
use Prim.Native.Nat.{ℕ, zero, suc, ◌+◌, ◌≤◌, ◌<◌}
use native.Mathlib.Omega.{arith}
use lib.Dec.{T}
use lib.ListN.{length, take, drop, length-drop}
use Rattle.lexical.specs.Regular.{pick, but, has, Re, none, empty, one, seq, alt, star, Matches, nullable, after}
use Rattle.lexical.specs.Lexed.{Rule, Token, nothing, token, NoRule, FirstRule, Longest, Tiles, keep, afters, accepted, or_else, longest, rest, tokens, lexed, coded}
use Rattle.kinds.specs.Kinds.{ERROR}
use Rattle.lexical.specs.Rules.{known, rules}
use Rattle.lexical.proofs.Derivative.{nullable-sound, nullable-complete, after-sound, after-complete}

-- ---- rules behind a byte

keep-first : (k : ℕ) (r : Re) (rs : List Rule) (j : ℕ) (w : List ℕ) → FirstRule (keep k r rs) j w → FirstRule ((k, r) ∷ rs) j w
unfolding keep
keep-first k none rs j w m = inr (λ x. x, m)
keep-first k empty rs j w m = m
keep-first k (one s) rs j w m = m
keep-first k (seq r s) rs j w m = m
keep-first k (alt r s) rs j w m = m
keep-first k (star r) rs j w m = m

keep-no : (k : ℕ) (r : Re) (rs : List Rule) (w : List ℕ) → NoRule (keep k r rs) w → NoRule ((k, r) ∷ rs) w
unfolding keep
keep-no k none rs w m = (λ x. x, m)
keep-no k empty rs w m = m
keep-no k (one s) rs w m = m
keep-no k (seq r s) rs w m = m
keep-no k (alt r s) rs w m = m
keep-no k (star r) rs w m = m

afters-first : (b : ℕ) (w : List ℕ) (rs : List Rule) (k : ℕ) → FirstRule (afters b rs) k w → FirstRule rs k (b ∷ w)
unfolding afters
afters-first b w [] k m = m
afters-first b w (r ∷ rs) k m =
    ⊎_elim
    (λ p. inl (p.0, after-sound b w r.1 p.1))
    (λ q. inr (λ x. q.0 (after-complete b w r.1 x), afters-first b w rs k q.1))
    (keep-first r.0 (after b r.1) (afters b rs) k w m)

afters-no : (b : ℕ) (w : List ℕ) (rs : List Rule) → NoRule (afters b rs) w → NoRule rs (b ∷ w)
unfolding afters
afters-no b w [] m = m
afters-no b w (r ∷ rs) m =
    let parts : NoRule ((r.0, after b r.1) ∷ afters b rs) w = keep-no r.0 (after b r.1) (afters b rs) w m in
    (λ x. parts.0 (after-complete b w r.1 x), afters-no b w rs parts.1)

-- ---- a token of the rules that take the empty text

abbrev Accepts : List Rule → ℕ → Token → Type 0
Accepts rs n nothing = NoRule rs []
Accepts rs n (token k m) = (m ≡ n) × FirstRule rs k []

accepted-right : (n : ℕ) (rs : List Rule) → Accepts rs n (accepted n rs)
unfolding accepted
accepted-right n [] = tt
accepted-right n (r ∷ rs) = by (nullable r.1) (nullable-sound r.1) (nullable-complete r.1) (accepted n rs) (accepted-right n rs)
  where
    by : (x : Bool) → (T x → Matches r.1 []) → (Matches r.1 [] → T x) → (t : Token) → Accepts rs n t → Accepts (r ∷ rs) n (pick x (token r.0 n) t)
    by true f g t h = (refl, inl (refl, f tt))
    by false f g nothing h = (g, h)
    by false f g (token k m) h = (h.0, inr (g, h.1))

-- ---- the longest

-- what a token says that is computed where n bytes are passed
abbrev Told : List Rule → ℕ → List ℕ → Token → Type 0
Told rs n w nothing = (j : ℕ) → 1 ≤ j → j ≤ length w → NoRule rs (take j w)
Told rs n w (token k m) = (d : ℕ) × (m ≡ n + d) × Longest rs w k d

longest-right : (rs : List Rule) (n : ℕ) (w : List ℕ) → Told rs n w (longest rs n w)
unfolding longest
longest-right rs n [] = λ j h l. absurd (omega arith)
longest-right rs n (b ∷ w) =
    by (longest (afters b rs) (suc n) w) (accepted (suc n) (afters b rs)) (longest-right (afters b rs) (suc n) w) (accepted-right (suc n) (afters b rs))
  where
    by : (t u : Token) → Told (afters b rs) (suc n) w t → Accepts (afters b rs) (suc n) u → Told rs n (b ∷ w) (or_else t u)
    by nothing nothing h g = none
      where
        none : (j : ℕ) → 1 ≤ j → j ≤ length (b ∷ w) → NoRule rs (take j (b ∷ w))
        none zero l m = absurd (omega arith)
        none (suc zero) l m = afters-no b [] rs g
        none (suc (suc j)) l m = afters-no b (take (suc j) w) rs (h (suc j) (omega arith) (omega arith))
    by nothing (token k m) h g =
        (1, omega (arith, g.0), record { some = omega arith; fits = omega arith; first = afters-first b [] rs k g.1; none-longer = none })
      where
        none : (j : ℕ) → 1 < j → j ≤ length (b ∷ w) → NoRule rs (take j (b ∷ w))
        none zero l m = absurd (omega arith)
        none (suc j) l m = afters-no b (take j w) rs (h j (omega arith) (omega arith))
    by (token k m) u h g =
        (suc h.0, omega (arith, h.1), record { some = omega arith; fits = omega (arith, h.2.fits); first = afters-first b (take h.0 w) rs k h.2.first; none-longer = none })
      where
        none : (j : ℕ) → suc h.0 < j → j ≤ length (b ∷ w) → NoRule rs (take j (b ∷ w))
        none zero l m = absurd (omega arith)
        none (suc j) l m = afters-no b (take j w) rs (h.2.none-longer j (omega arith) (omega arith))

-- ---- all tokens

-- every byte is taken by some rule
abbrev pub Total : List Rule → Type 0
Total rs = (b : ℕ) → NoRule rs (b ∷ []) → ⊥

tokens-tile : (rs : List Rule) → Total rs → (k : ℕ) (w : List ℕ) → k ≤ length w → Tiles rs (drop k w) (tokens rs k w)
unfolding tokens
tokens-tile rs all zero [] h = refl
tokens-tile rs all (suc k) [] h = refl
tokens-tile rs all zero (b ∷ w) h = by (longest rs 0 (b ∷ w)) (longest-right rs 0 (b ∷ w)) (λ k l. tokens-tile rs all k w l)
  where
    from : (k m : ℕ) → Longest rs (b ∷ w) k m → ((j : ℕ) → j ≤ length w → Tiles rs (drop j w) (tokens rs j w)) → Tiles rs (b ∷ w) (token k m ∷ tokens rs (rest (token k m)) w)
    from k zero t more = absurd (omega (arith, t.some))
    from k (suc m) t more = (t, more m (omega (arith, t.fits)))

    by : (t : Token) → Told rs 0 (b ∷ w) t → ((j : ℕ) → j ≤ length w → Tiles rs (drop j w) (tokens rs j w)) → Tiles rs (b ∷ w) (t ∷ tokens rs (rest t) w)
    by nothing t more = absurd (all b (t 1 (omega arith) (omega arith)))
    by (token k m) t more =
        let same : t.0 ≡ m = omega (arith, t.1) in
        from k m (subst (Longest rs (b ∷ w) k) same t.2) more
tokens-tile rs all (suc k) (b ∷ w) h = tokens-tile rs all k w (omega arith)

pub lexed-tiles : (rs : List Rule) → Total rs → (w : List ℕ) → Tiles rs w (lexed rs w)
lexed-tiles rs all w = tokens-tile rs all 0 w (omega arith)

-- ---- the rules here

last-rule : (rs : List Rule) (r : Rule) (w : List ℕ) → NoRule (rs ++ r ∷ []) w → Matches r.1 w → ⊥
last-rule [] r w h = h.0
last-rule (x ∷ rs) r w h = last-rule rs r w h.1

pub rules-total : Total rules
unfolding has
rules-total b h = last-rule known (ERROR, one (but [])) (b ∷ []) h (b, refl, tt)

-- THE THEOREM: the tokens of a text are right, one behind the other up to its end
pub lexed-right : (w : List ℕ) → Tiles rules w (lexed rules w)
lexed-right = lexed-tiles rules rules-total

-- the lengths add up
unfoldable pub total : List Token → ℕ
total [] = 0
total (nothing ∷ ts) = total ts
total (token k n ∷ ts) = n + total ts

pub tiles-total : (rs : List Rule) (w : List ℕ) (ts : List Token) → Tiles rs w ts → total ts ≡ length w
unfolding total
tiles-total rs w [] t = ap length (sym t)
tiles-total rs w (nothing ∷ ts) t = absurd t
tiles-total rs w (token k n ∷ ts) t = omega (arith, t.0.fits, tiles-total rs (drop n w) ts t.1, length-drop n w)

-- there are no more tokens than bytes
pub tiles-few : (rs : List Rule) (w : List ℕ) (ts : List Token) → Tiles rs w ts → length ts ≤ length w
tiles-few rs w [] t = omega arith
tiles-few rs w (nothing ∷ ts) t = absurd t
tiles-few rs w (token k n ∷ ts) t = omega (arith, t.0.some, t.0.fits, tiles-few rs (drop n w) ts t.1, length-drop n w)

-- ---- one token after the other, as the code goes

skip : (rs : List Rule) (k : ℕ) (w : List ℕ) → tokens rs k w ≡ tokens rs 0 (drop k w)
unfolding tokens
skip rs zero w = refl
skip rs (suc k) [] = refl
skip rs (suc k) (b ∷ w) = skip rs k w

pub record Found (w : List ℕ) (k m : ℕ) : Type 0 where
  pub right : Longest rules w k m
  pub more : tokens rules 0 w ≡ token k m ∷ tokens rules 0 (drop m w)

pub found : (w : List ℕ) (k m : ℕ) → 1 ≤ length w → longest rules 0 w ≡ coded k m → Found w k m
unfolding tokens
found [] k m h e = absurd (omega arith)
found (b ∷ w) zero m h e =
    let t : Told rules 0 (b ∷ w) nothing = subst (Told rules 0 (b ∷ w)) e (longest-right rules 0 (b ∷ w)) in
    absurd (rules-total b (t 1 (omega arith) (omega arith)))
found (b ∷ w) (suc k) zero h e =
    let t : Told rules 0 (b ∷ w) (token (suc k) zero) = subst (Told rules 0 (b ∷ w)) e (longest-right rules 0 (b ∷ w)) in
    absurd (omega (arith, t.1, t.2.some))
found (b ∷ w) (suc k) (suc m) h e =
    let t : Told rules 0 (b ∷ w) (token (suc k) (suc m)) = subst (Told rules 0 (b ∷ w)) e (longest-right rules 0 (b ∷ w)) in
    let same : t.0 ≡ suc m = omega (arith, t.1) in
    record { right = subst (Longest rules (b ∷ w) (suc k)) same t.2; more = rw (e, skip rules m w) }

pub no_more : tokens rules 0 [] ≡ []
unfolding tokens
no_more = refl
