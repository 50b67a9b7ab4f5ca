-- What a done run leaves, place by place, and its joint bits as the request says them. docs/PROOFS.md has a sentence for each. Assumes nothing.
use mathlib.Core.Path.{◌≡◌, refl, sym, ap, subst, ◌∙◌}
use mathlib.Core.Bool.{Bool, true, false, not, cond}
use mathlib.Core.List.{List, [], ◌∷◌, ◌++◌}
use Prim.Native.Nat.{ℕ, zero, suc, ◌+◌, ◌-◌, ◌*◌, ◌≤◌, ◌<◌}
use native.Mathlib.Omega.{arith}
use lib.ListN.{length, get_or, take, drop, length-append, length-drop, get_or-append}
use lib.Seq.{length-take-le, get_or-append-add, get_or-drop, drop-drop}
use Rattle.kinds.specs.Membership.{bit}
use Rattle.laws.proofs.Tests.{apart}
use Rattle.lexical.specs.Lexed.{Rule, Token, nothing, token, Tiles, words}
use Rattle.lexical.specs.Rules.{rules}
use Rattle.lex.specs.Lexing.{is_trivia, kinds_in, touched, joints_in, at_front, Lent, writes, lexing}
use Rattle.lex.proofs.Laws.{Held}
use Rattle.readings.specs.Readings.{Reading, kind, size, Left, Trivia, Other, number_of, Begins, start_of}
use Rattle.readings.proofs.Joints.{bits-length, bits_put, bits-kept}
use Rattle.readings.proofs.One.{longest-one}
use Rattle.readings.proofs.Places.{reads-behind}
use Rattle.readings.proofs.Numbers.{other-kind, kind-other, token-there}
use Rattle.readings.proofs.Permitted.{joints-kinds}
use Rattle.readings.proofs.Conditions.{done-writes, done-holds}

-- ---- a room with a list at its front

front-size : (xs room : List ℕ) → length xs ≤ length room → length (at_front xs room) ≡ length room
front-size xs room h = length-append xs (drop (length xs) room) ∙ omega (arith, h, length-drop (length xs) room)

front-there : (xs room : List ℕ) (i : ℕ) → i < length xs → get_or (at_front xs room) i 0 ≡ get_or xs i 0
front-there xs room i h = get_or-append xs (drop (length xs) room) 0 i h

front-stays : (xs room : List ℕ) (i : ℕ) → length xs ≤ i → get_or (at_front xs room) i 0 ≡ get_or room i 0
front-stays xs room i h =
    let e : length xs + (i - length xs) ≡ i = omega (arith, h) in
    rw e at (get_or-append-add xs (drop (length xs) room) (i - length xs) 0 ∙ get_or-drop (length xs) room (i - length xs) 0)

-- ---- the words of a reading

words_size : (rs : List Rule) (w : List ℕ) (ts : List Token) → Tiles rs w ts → length (words ts) ≡ 2 * length ts
unfolding words
words_size rs w [] t = refl
words_size rs w (nothing ∷ ts) t = absurd t
words_size rs w (token k n ∷ ts) t = omega (arith, words_size rs _ ts t.1)

words-at : (rs : List Rule) (w : List ℕ) (ts : List Token) → Tiles rs w ts → (i : ℕ) → i < length ts → (get_or (words ts) (2 * i) 0 ≡ kind (get_or ts i nothing)) × (get_or (words ts) (2 * i + 1) 0 ≡ size (get_or ts i nothing))
unfolding words
words-at rs w [] t i h = absurd (omega arith)
words-at rs w (nothing ∷ ts) t i h = absurd t
words-at rs w (token k n ∷ ts) t zero h = (refl, refl)
words-at rs w (token k n ∷ ts) t (suc i) h =
    let a : 2 * suc i ≡ suc (suc (2 * i)) = omega arith in
    let b : suc (suc (2 * i)) + 1 ≡ suc (suc (2 * i + 1)) = omega arith in
    rw (a, b) (words-at rs _ ts t.1 i (omega (arith, h)))

-- THE ROOMS behind a done run
pub done-left : (l : Lent) → (lexing l).answer.code ≡ 0 → (ts : List Token) → Reading l.text ts → Left ts l (lexing l)
done-left l e ts r = rw (done-writes l e ts r) left
  where
    h : Held (length ts) (length (kinds_in ts)) (length l.kinds) (length l.joints) (length l.tokens)
    h = done-holds l e ts r

    size_of : length (words ts) ≡ 2 * length ts
    size_of = words_size rules l.text ts r

    left : Left ts l (writes ts l)
    left =
        record {
          kinds-size = front-size (kinds_in ts) l.kinds h.numbers;
          joints-size = bits-length 0 (joints_in ts) l.joints;
          tokens-size = front-size (words ts) l.tokens (omega (arith, h.words, size_of));
          kind-there = λ i g. front-there (kinds_in ts) l.kinds i g;
          kind-stays = λ i g. front-stays (kinds_in ts) l.kinds i g;
          joint-there = λ i g. bits_put (joints_in ts) l.joints i (omega (arith, g, joints-kinds ts)) (omega (arith, h.bits, joints-kinds ts));
          joint-stays = λ i g. bits-kept (joints_in ts) l.joints i (omega (arith, g, joints-kinds ts));
          token-kind = λ i g. front-there (words ts) l.tokens (2 * i) (omega (arith, g, size_of)) ∙ (words-at rules l.text ts r i g).0;
          token-size = λ i g. front-there (words ts) l.tokens (2 * i + 1) (omega (arith, g, size_of)) ∙ (words-at rules l.text ts r i g).1;
          word-stays = λ i g. front-stays (words ts) l.tokens i (omega (arith, g, size_of));
        }

-- ---- a token among the others

pub kinds-at : (us vs : List Token) (k n : ℕ) → is_trivia k ≡ false → (length (kinds_in us) < length (kinds_in (us ++ token k n ∷ vs))) × (get_or (kinds_in (us ++ token k n ∷ vs)) (length (kinds_in us)) 0 ≡ k)
unfolding kinds_in
kinds-at [] vs k n e = rw e (omega arith, refl)
kinds-at (nothing ∷ us) vs k n e = kinds-at us vs k n e
kinds-at (token j m ∷ us) vs k n e = by (is_trivia j) (kinds-at us vs k n e)
  where
    by : (x : Bool) → (length (kinds_in us) < length (kinds_in (us ++ token k n ∷ vs))) × (get_or (kinds_in (us ++ token k n ∷ vs)) (length (kinds_in us)) 0 ≡ k) → (length (cond x (kinds_in us) (j ∷ kinds_in us)) < length (cond x (kinds_in (us ++ token k n ∷ vs)) (j ∷ kinds_in (us ++ token k n ∷ vs)))) × (get_or (cond x (kinds_in (us ++ token k n ∷ vs)) (j ∷ kinds_in (us ++ token k n ∷ vs))) (length (cond x (kinds_in us) (j ∷ kinds_in us))) 0 ≡ k)
    by true p = p
    by false p = (omega (arith, p.0), p.1)

joints-at : (us vs : List Token) (k n : ℕ) → is_trivia k ≡ false → get_or (joints_in (us ++ token k n ∷ vs)) (length (kinds_in us)) false ≡ touched vs
unfolding kinds_in joints_in
joints-at [] vs k n e = rw e
joints-at (nothing ∷ us) vs k n e = joints-at us vs k n e
joints-at (token j m ∷ us) vs k n e = by (is_trivia j) (touched (us ++ token k n ∷ vs)) (joints-at us vs k n e)
  where
    by : (x b : Bool) → get_or (joints_in (us ++ token k n ∷ vs)) (length (kinds_in us)) false ≡ touched vs → get_or (cond x (joints_in (us ++ token k n ∷ vs)) (b ∷ joints_in (us ++ token k n ∷ vs))) (length (cond x (kinds_in us) (j ∷ kinds_in us))) false ≡ touched vs
    by true b p = p
    by false b p = p

-- a text begins with a token that is no trivia exactly where its first token is none
touched-is : (w : List ℕ) (vs : List Token) → Reading w vs → touched vs ≡ true → Begins w
touched-is w [] t e = apart e
touched-is w (nothing ∷ vs) t e = apart e
touched-is w (token k n ∷ vs) t e = record { first = k; bytes = n; right = t.0; other = kind-other k (by (is_trivia k) e) }
  where
    by : (x : Bool) → not x ≡ true → x ≡ false
    by true c = apart c
    by false c = refl

is-touched : (w : List ℕ) (vs : List Token) → Reading w vs → Begins w → touched vs ≡ true
is-touched w [] t b = absurd (omega (arith, ap length t, b.right.some, b.right.fits))
is-touched w (nothing ∷ vs) t b = absurd t
is-touched w (token k n ∷ vs) t b = let e = longest-one rules w b.first b.bytes k n b.right t.0 in rw (← e.0, other-kind b.first b.other)

-- A token that is no trivia behind some others: its kind stands at its number among them that are none, and the joint bit there is 1 exactly where
-- the byte behind the token begins a token that is no trivia.
module _ (l : Lent) (d : (lexing l).answer.code ≡ 0) (us vs : List Token) (k n : ℕ) (r : Reading l.text (us ++ token k n ∷ vs)) (other : Trivia k → ⊥) where
  pub kind-is : get_or (lexing l).kinds (length (kinds_in us)) 0 ≡ k
  kind-is = let p = kinds-at us vs k n (other-kind k other) in (done-left l d (us ++ token k n ∷ vs) r).kind-there (length (kinds_in us)) p.0 ∙ p.1

  pub joint-is : bit (lexing l).joints (length (kinds_in us)) ≡ touched vs
  joint-is =
      (done-left l d (us ++ token k n ∷ vs) r).joint-there (length (kinds_in us)) (kinds-at us vs k n (other-kind k other)).0
      ∙ joints-at us vs k n (other-kind k other)

  rest-reads : Reading (drop (start_of (us ++ token k n ∷ vs) (length us) + n) l.text) vs
  rest-reads =
      subst (λ (w : List ℕ). Reading w vs) (drop-drop n (start_of (us ++ token k n ∷ vs) (length us)) l.text)
      (reads-behind rules l.text us (token k n ∷ vs) r).1

  pub joint-when : Begins (drop (start_of (us ++ token k n ∷ vs) (length us) + n) l.text) → bit (lexing l).joints (length (kinds_in us)) ≡ true
  joint-when b = joint-is ∙ is-touched (drop (start_of (us ++ token k n ∷ vs) (length us) + n) l.text) vs rest-reads b

  pub when-joint : bit (lexing l).joints (length (kinds_in us)) ≡ true → Begins (drop (start_of (us ++ token k n ∷ vs) (length us) + n) l.text)
  when-joint e = touched-is (drop (start_of (us ++ token k n ∷ vs) (length us) + n) l.text) vs rest-reads (sym joint-is ∙ e)

-- The same of token j of a reading.
module _ (l : Lent) (d : (lexing l).answer.code ≡ 0) (ts : List Token) (r : Reading l.text ts) (j : ℕ) (o : Other ts j) where
  apart-at : ts ≡ take j ts ++ token (kind (get_or ts j nothing)) (size (get_or ts j nothing)) ∷ drop (suc j) ts
  apart-at = token-there rules l.text ts r j o.there

  reads-apart : Reading l.text (take j ts ++ token (kind (get_or ts j nothing)) (size (get_or ts j nothing)) ∷ drop (suc j) ts)
  reads-apart = subst (Reading l.text) apart-at r

  same_start : start_of (take j ts ++ token (kind (get_or ts j nothing)) (size (get_or ts j nothing)) ∷ drop (suc j) ts) (length (take j ts)) ≡ start_of ts j
  same_start = let q : length (take j ts) ≡ j = length-take-le j ts (omega (arith, o.there)) in λ i. start_of (sym apart-at i) (q i)

  pub number-below : number_of ts j < length (kinds_in ts)
  number-below =
      let p = kinds-at (take j ts) (drop (suc j) ts) (kind (get_or ts j nothing)) (size (get_or ts j nothing)) (other-kind (kind (get_or ts j nothing)) o.other) in
      omega (arith, p.0, ap (λ (us : List Token). length (kinds_in us)) apart-at)

  pub kind_at : get_or (lexing l).kinds (number_of ts j) 0 ≡ kind (get_or ts j nothing)
  kind_at = kind-is l d (take j ts) (drop (suc j) ts) (kind (get_or ts j nothing)) (size (get_or ts j nothing)) reads-apart o.other

  pub joint-at-when : Begins (drop (start_of ts j + size (get_or ts j nothing)) l.text) → bit (lexing l).joints (number_of ts j) ≡ true
  joint-at-when b =
      joint-when l d (take j ts) (drop (suc j) ts) (kind (get_or ts j nothing)) (size (get_or ts j nothing)) reads-apart o.other
      (subst (λ (p : ℕ). Begins (drop (p + size (get_or ts j nothing)) l.text)) (sym same_start) b)

  pub when-joint-at : bit (lexing l).joints (number_of ts j) ≡ true → Begins (drop (start_of ts j + size (get_or ts j nothing)) l.text)
  when-joint-at e =
      subst (λ (p : ℕ). Begins (drop (p + size (get_or ts j nothing)) l.text)) same_start
      (when-joint l d (take j ts) (drop (suc j) ts) (kind (get_or ts j nothing)) (size (get_or ts j nothing)) reads-apart o.other e)
