-- What the loops over the tokens keep true. Assumes nothing.
use mathlib.Core.Path.{◌≡◌, refl, sym, ap, subst, ◌∙◌}
use mathlib.Core.Bool.{Bool, true, false, not, cond}
use mathlib.Core.List.{List, [], ◌∷◌}
use Prim.Native.Nat.{ℕ, suc, ◌+◌, ◌*◌, ◌≤◌, ◌<◌}
use native.Mathlib.Numerals.{add-one}
use native.Mathlib.Omega.{arith}
use lib.ListN.{length, set}
use mir.Val.{bool_byte}
use Rattle.std.specs.Prelude.{Option, None, Some, is_some}
use Rattle.std.specs.Option.{ForSome}
use Rattle.lexical.specs.Lexed.{Token, nothing, token, lexed, words}
use Rattle.lexical.specs.Rules.{rules}
use Rattle.lexical.proofs.Theorem.{lexed-right, tiles-few}
use Rattle.lex.specs.Lexing.{is_trivia, kinds_in, touched, joints_in, put_bit, put_bits, fits, Lent, ends, says, writes}
use Rattle.lex.specs.Inside.{joined}
use Rattle.lex.proofs.Laws.{Held, held}
use Rattle.lex.proofs.Fronts.{Front, front-put, front-size, front-end, front_same}

-- ---- what a token adds

kinds-more : (k m : ℕ) (ts : List Token) → kinds_in (token k m ∷ ts) ≡ cond (is_trivia k) (kinds_in ts) (k ∷ kinds_in ts)
unfolding kinds_in
kinds-more k m ts = refl

words_more : (k m : ℕ) (ts : List Token) → words (token k m ∷ ts) ≡ k ∷ m ∷ words ts
unfolding words
words_more k m ts = refl

joints-more : (k m : ℕ) (ts : List Token) → joints_in (token k m ∷ ts) ≡ cond (is_trivia k) (joints_in ts) (touched ts ∷ joints_in ts)
unfolding joints_in
joints-more k m ts = refl

-- there are no more tokens than bytes, and no more kinds than tokens
pub tokens-few : (text : List ℕ) → length (lexed rules text) ≤ length text
tokens-few text = tiles-few rules text (lexed rules text) (lexed-right text)

pub kinds-few : (ts : List Token) → length (kinds_in ts) ≤ length ts
unfolding kinds_in
kinds-few [] = omega arith
kinds-few (nothing ∷ ts) = omega (arith, kinds-few ts)
kinds-few (token k n ∷ ts) = by (is_trivia k) (kinds-few ts)
  where
    by : (x : Bool) → length (kinds_in ts) ≤ length ts → length (cond x (kinds_in ts) (k ∷ kinds_in ts)) ≤ suc (length ts)
    by true h = omega (arith, h)
    by false h = omega (arith, h)

-- ---- counting: some tokens are counted, and the rest is to come

pub record Counting (whole rest : List Token) (all some : ℕ) : Type 0 where
  pub tokens-are : length whole ≡ all + length rest
  pub kinds-are : length (kinds_in whole) ≡ some + length (kinds_in rest)

pub count-on : {whole ts ts' : List Token} {all some : ℕ} (k m r : ℕ) → Counting whole ts all some → ts ≡ token k m ∷ ts' → r ≡ bool_byte (not (is_trivia k)) → Counting whole ts' (all + 1) (some + r)
count-on {whole} {ts} {ts'} {all} {some} k m r h t e =
    record {
      tokens-are = omega (arith, h.tokens-are, ap length t);
      kinds-are = h.kinds-are ∙ rw e (by (is_trivia k) (ap (λ (ts : List Token). length (kinds_in ts)) t ∙ ap length (kinds-more k m ts')));
    }
  where
    by : (x : Bool) → length (kinds_in ts) ≡ length (cond x (kinds_in ts') (k ∷ kinds_in ts')) → some + length (kinds_in ts) ≡ some + bool_byte (not x) + length (kinds_in ts')
    by true e = omega (arith, e)
    by false e = omega (arith, e)

-- so many are counted at most
pub count-few : (text : List ℕ) {ts : List Token} {all some : ℕ} → Counting (lexed rules text) ts all some → (all + length ts ≤ length text) × (some ≤ length text)
count-few text {ts} {all} {some} h = (omega (arith, h.tokens-are, tokens-few text), omega (arith, h.kinds-are, tokens-few text, kinds-few (lexed rules text)))

pub count-end : {whole ts : List Token} {all some : ℕ} → Counting whole ts all some → ts ≡ [] → (all ≡ length whole) × (some ≡ length (kinds_in whole))
unfolding kinds_in
count-end {whole} {ts} {all} {some} h none = (omega (arith, h.tokens-are, ap length none), omega (arith, h.kinds-are, ap (λ (ts : List Token). length (kinds_in ts)) none))

-- ---- joint bits, of which the last waits for the next token

abbrev pub pending : Option ℕ → ℕ → List Token → List ℕ → List ℕ
pending (Some i) m ts joints = put_bits i (touched ts ∷ joints_in ts) joints
pending None m ts joints = put_bits m (joints_in ts) joints

bits-settled : (w : Option ℕ) (m k n : ℕ) (ts : List Token) (joints : List ℕ) → ForSome w (λ (i : ℕ). m ≡ suc i) → pending w m (token k n ∷ ts) joints ≡ put_bits m (joints_in (token k n ∷ ts)) (joined w (not (is_trivia k)) joints)
unfolding put_bits
bits-settled (Some i) m k n ts joints h = ap (λ (j : ℕ). put_bits j (joints_in (token k n ∷ ts)) (put_bit joints i (not (is_trivia k)))) (sym (h i refl))
bits-settled None m k n ts joints h = refl

bits-waiting : (x : Bool) (m : ℕ) (ts : List Token) (joints : List ℕ) → put_bits m (cond x (joints_in ts) (touched ts ∷ joints_in ts)) joints ≡ pending (cond x None (Some m)) (m + bool_byte (is_some (cond x None (Some m)))) ts joints
bits-waiting true m ts joints = let e : m ≡ m + 0 = omega arith in ap (λ (j : ℕ). put_bits j (joints_in ts) joints) e
bits-waiting false m ts joints = refl

bits-ended : (w : Option ℕ) (m : ℕ) (joints : List ℕ) → pending w m [] joints ≡ joined w false joints
unfolding put_bits joints_in
bits-ended (Some i) m joints = refl
bits-ended None m joints = refl

-- ---- writing: n tokens and m kinds are written, the rest is to come, and the bit of the last kind waits, or none does

pub record Writing (l : Lent) (kinds joints tokens : List ℕ) (rest : List Token) (n m : ℕ) (waiting : Option ℕ) : Type 0 where
  pub counted : length (lexed rules l.text) ≡ n + length rest
  pub listed : Front l.tokens tokens (words (lexed rules l.text)) (words rest) (2 * n)
  pub parted : Front l.kinds kinds (kinds_in (lexed rules l.text)) (kinds_in rest) m
  pub joined_to : put_bits 0 (joints_in (lexed rules l.text)) l.joints ≡ pending waiting m rest joints
  pub last : ForSome waiting (λ (i : ℕ). m ≡ suc i)

pub rooms : (l : Lent) → fits (lexed rules l.text) l ≡ true → Held (length (lexed rules l.text)) (length (kinds_in (lexed rules l.text))) (length l.kinds) (length l.joints) (length l.tokens)
rooms l e = held (length (lexed rules l.text)) (length (kinds_in (lexed rules l.text))) (length l.kinds) (length l.joints) (length l.tokens) e

module _ {l : Lent} {kinds joints tokens : List ℕ} {ts : List Token} {n m : ℕ} {w : Option ℕ} (h : Writing l kinds joints tokens ts n m w) where
  pub finish : {joints' : List ℕ} → ts ≡ [] → joints' ≡ joined w false joints → writes (lexed rules l.text) l ≡ ends (says 0 n m) kinds joints' tokens
  unfolding kinds_in words
  finish {joints'} none ej =
      let all : length (lexed rules l.text) ≡ n = omega (arith, h.counted, ap length none) in
      let parts : Front l.kinds kinds (kinds_in (lexed rules l.text)) [] m = front_same (kinds_in ts) [] (ap kinds_in none) h.parted in
      let list : Front l.tokens tokens (words (lexed rules l.text)) [] (2 * n) = front_same (words ts) [] (ap words none) h.listed in
      let some : length (kinds_in (lexed rules l.text)) ≡ m = omega (arith, front-size [] parts) in
      same all some (sym (front-end parts)) (h.joined_to ∙ ap (λ (ts : List Token). pending w m ts joints) none ∙ bits-ended w m joints ∙ sym ej) (sym (front-end list))
    where
      same : {a a' b b' : ℕ} {k k' j j' t t' : List ℕ} → a ≡ a' → b ≡ b' → k ≡ k' → j ≡ j' → t ≡ t' → ends (says 0 a b) k j t ≡ ends (says 0 a' b') k' j' t'
      same ea eb ek ej et = λ i. ends (says 0 (ea i) (eb i)) (ek i) (ej i) (et i)

-- a token more
module _ {l : Lent} {kinds joints tokens : List ℕ} {ts ts' : List Token} {n m : ℕ} {w : Option ℕ} (k len : ℕ) (h : Writing l kinds joints tokens ts n m w) (t : ts ≡ token k len ∷ ts') where
  pub token-there : n < length (lexed rules l.text)
  token-there = omega (arith, h.counted, ap length t)

  pub kind-there : is_trivia k ≡ false → m < length (kinds_in (lexed rules l.text))
  kind-there e =
      let more : kinds_in ts ≡ cond false (kinds_in ts') (k ∷ kinds_in ts') = ap kinds_in t ∙ kinds-more k len ts' ∙ ap (λ (x : Bool). cond x (kinds_in ts') (k ∷ kinds_in ts')) e in
      omega (arith, front-size (kinds_in ts) h.parted, ap length more)

  module _ (room : 2 * n + 2 ≤ length l.tokens) (kept : is_trivia k ≡ false → m < length l.kinds) where
    abbrev after : Bool → Option ℕ
    after x = cond x None (Some m)

    part-on : (x : Bool) → is_trivia k ≡ x → Front l.kinds kinds (kinds_in (lexed rules l.text)) (cond x (kinds_in ts') (k ∷ kinds_in ts')) m → Front l.kinds (cond x kinds (set kinds m k)) (kinds_in (lexed rules l.text)) (kinds_in ts') (m + bool_byte (is_some (after x)))
    part-on true e f = let same : m ≡ m + 0 = omega arith in subst (Front l.kinds kinds (kinds_in (lexed rules l.text)) (kinds_in ts')) same f
    part-on false e f = subst (Front l.kinds (set kinds m k) (kinds_in (lexed rules l.text)) (kinds_in ts')) (sym (add-one m)) (front-put k (kinds_in ts') f (kept e))

    waits-last : (x : Bool) → ForSome (after x) (λ (i : ℕ). m + bool_byte (is_some (after x)) ≡ suc i)
    waits-last true i e = absurd (cc)
    waits-last false i e = let same : m ≡ i = cc in omega (arith, same)

    pub onward : Writing l (cond (is_trivia k) kinds (set kinds m k)) (joined w (not (is_trivia k)) joints) (set (set tokens (2 * n) k) (2 * n + 1) len) ts' (n + 1) (m + bool_byte (is_some (after (is_trivia k)))) (after (is_trivia k))
    onward =
        let two : suc (suc (2 * n)) ≡ 2 * (n + 1) = omega arith in
        let first : Front l.tokens (set tokens (2 * n) k) (words (lexed rules l.text)) (len ∷ words ts') (suc (2 * n)) =
        front-put k (len ∷ words ts') (front_same (words ts) (k ∷ len ∷ words ts') (ap words t ∙ words_more k len ts') h.listed) (omega (arith, room)) in
        let second : Front l.tokens (set (set tokens (2 * n) k) (suc (2 * n)) len) (words (lexed rules l.text)) (words ts') (suc (suc (2 * n))) =
        front-put len (words ts') first (omega (arith, room)) in
        record {
          counted = omega (arith, h.counted, ap length t);
          listed = rw (add-one (2 * n), ← two) second;
          parted = part-on (is_trivia k) refl (front_same (kinds_in ts) (cond (is_trivia k) (kinds_in ts') (k ∷ kinds_in ts')) (ap kinds_in t ∙ kinds-more k len ts') h.parted);
          joined_to =
              h.joined_to
              ∙ ap (λ (ts : List Token). pending w m ts joints) t
              ∙ bits-settled w m k len ts' joints h.last
              ∙ ap (λ (bs : List Bool). put_bits m bs (joined w (not (is_trivia k)) joints)) (joints-more k len ts')
              ∙ bits-waiting (is_trivia k) m ts' (joined w (not (is_trivia k)) joints);
          last = waits-last (is_trivia k);
        }

-- the same of what the calls have left
pub settled : {l : Lent} {kinds joints tokens kinds' joints' tokens' : List ℕ} {ts : List Token} {n m m' : ℕ} {w w' : Option ℕ} → kinds' ≡ kinds → joints' ≡ joints → tokens' ≡ tokens → m' ≡ m → w' ≡ w → Writing l kinds joints tokens ts n m w → Writing l kinds' joints' tokens' ts n m' w'
settled {l} {ts = ts} {n = n} ek ej et em ew h = coe 0 1 (j. Writing l (sym ek j) (sym ej j) (sym et j) ts n (sym em j) (sym ew j)) h
