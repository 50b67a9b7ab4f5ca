-- When lexing refuses, with which number and place, and what it leaves: exactly where the conditions say so. Assumes nothing.
use mathlib.Core.Path.{◌≡◌, refl, sym, ap, subst, ◌∙◌}
use mathlib.Core.Bool.{Bool, true, false, cond}
use mathlib.Core.List.{List}
use Prim.Native.Nat.{ℕ, ◌+◌, ◌*◌, ◌/◌, ◌≤◌, ◌<◌}
use native.Mathlib.Omega.{arith}
use lib.Dec.{eqb, ltb, leb}
use lib.ListN.{length}
use borrow.Author.Tests.{ltb-true, ltb-false, leb-false}
use Rattle.kinds.specs.Membership.{both}
use Rattle.laws.proofs.Tests.{apart}
use Rattle.lexical.specs.Lexed.{Token, lexed}
use Rattle.lexical.specs.Rules.{rules}
use Rattle.lexical.proofs.Theorem.{lexed-right}
use Rattle.std.proofs.Common.{Result, Ok, Err}
use Rattle.lex.specs.declared.Lexed.{Lexed}
use Rattle.lex.specs.declared.Refusal.{Refusal}
use Rattle.lex.specs.declared.Refusal.TheVariants.{TooLong, NoRoom}
use Rattle.lex.specs.Answer.{Answer, numbers}
use Rattle.lex.specs.Lexing.{kinds_in, fits, Lent, Outcome, ends, says, refuses, writes, lexing}
use Rattle.lex.proofs.Laws.{Held, held}
use Rattle.lex.proofs.Placed.{written, refused, too_long, not-long}
use Rattle.readings.specs.Readings.{Reading, Small, Small.few_words, Small.few-kinds, Small.few_bits, Refused, Refused.long, Refused.small, Answers}
use Rattle.readings.specs.Readings as R
use Rattle.readings.proofs.One.{one-reading}

-- ---- rooms that are too small

-- at 64 bits to a word there are fewer bits than numbers exactly where there are fewer words than the numbers by 64, rounded up
pub words-bits : (n j : ℕ) → 64 * j < n → j < (n + 63) / 64
words-bits n j h = omega (arith, h)

pub bits-words : (n j : ℕ) → j < (n + 63) / 64 → 64 * j < n
bits-words n j h = omega (arith, h)

unfit : (ts : List Token) (l : Lent) → Small ts l → fits ts l ≡ true → ⊥
unfit ts l s e = by s (held (length ts) (length (kinds_in ts)) (length l.kinds) (length l.joints) (length l.tokens) e)
  where
    by : Small ts l → Held (length ts) (length (kinds_in ts)) (length l.kinds) (length l.joints) (length l.tokens) → ⊥
    by (few_words h) k = omega (arith, h, k.words)
    by (few-kinds h) k = omega (arith, h, k.numbers)
    by (few_bits h) k = omega (arith, h, k.bits)

pub small-unfit : (ts : List Token) (l : Lent) → Small ts l → fits ts l ≡ false
small-unfit ts l s = by (fits ts l) refl
  where
    by : (x : Bool) → fits ts l ≡ x → fits ts l ≡ false
    by true e = absurd (unfit ts l s e)
    by false e = e

pub unfit-small : (ts : List Token) (l : Lent) → fits ts l ≡ false → Small ts l
unfit-small ts l e =
    by (leb (2 * length ts) (length l.tokens)) (leb (length (kinds_in ts)) (length l.kinds)) (leb ((length (kinds_in ts) + 63) / 64) (length l.joints)) refl refl refl e
  where
    by : (a b c : Bool) → leb (2 * length ts) (length l.tokens) ≡ a → leb (length (kinds_in ts)) (length l.kinds) ≡ b → leb ((length (kinds_in ts) + 63) / 64) (length l.joints) ≡ c → both a (both b c) ≡ false → Small ts l
    by false b c ea eb ec e = few_words (leb-false _ _ ea)
    by true false c ea eb ec e = few-kinds (leb-false _ _ eb)
    by true true false ea eb ec e = few_bits (bits-words _ _ (leb-false _ _ ec))
    by true true true ea eb ec e = apart (sym e)

-- ---- exactly when

module _ (l : Lent) where
  of-lexed : (ts : List Token) → Reading l.text ts → lexed rules l.text ≡ ts
  of-lexed ts r = sym (one-reading l.text ts r)

  -- A refusal has the number whose condition holds, its place and no kinds, and leaves the rooms as they were.
  pub refused-when : (n p : ℕ) → Refused l n p → lexing l ≡ ends (says n p 0) l.kinds l.joints l.tokens
  refused-when n p (long h) = too_long l h
  refused-when n p (small h ts r s) =
      not-long l h
      ∙ refused l (ap length (one-reading l.text ts r)) (small-unfit (lexed rules l.text) l (subst (λ (us : List Token). Small us l) (one-reading l.text ts r) s))

  -- Where no condition holds the reading is written.
  pub done-when : ((n p : ℕ) → Refused l n p → ⊥) → (ts : List Token) → Reading l.text ts → lexing l ≡ writes ts l
  done-when free ts r = subst (λ (us : List Token). lexing l ≡ writes us l) (of-lexed ts r) (by (ltb 65536 (length l.text)) refl (fits (lexed rules l.text) l) refl)
    where
      by : (x : Bool) → ltb 65536 (length l.text) ≡ x → (y : Bool) → fits (lexed rules l.text) l ≡ y → lexing l ≡ writes (lexed rules l.text) l
      by true e y f = absurd (free 14 0 (long (ltb-true _ _ e)))
      by false e true f = not-long l (ltb-false _ _ e) ∙ written l f refl
      by false e false f = absurd (free 15 (length (lexed rules l.text)) (small (ltb-false _ _ e) (lexed rules l.text) (lexed-right l.text) (unfit-small (lexed rules l.text) l f)))

  -- What holds of all that is lent is what lexing says and leaves.
  pub gives : (o : Outcome) → Answers l o → lexing l ≡ o
  gives o (R.Answers.refuses n p r) = refused-when n p r
  gives o (R.Answers.done free ts r) = done-when free ts r

  answers : Answers l (lexing l)
  answers = by (ltb 65536 (length l.text)) refl (fits (lexed rules l.text) l) refl
    where
      from : (o : Outcome) → Answers l o → Answers l (lexing l)
      from o a = subst (Answers l) (sym (gives o a)) a

      free : length l.text ≤ 65536 → fits (lexed rules l.text) l ≡ true → (n p : ℕ) → Refused l n p → ⊥
      free h f n p (long g) = omega (arith, h, g)
      free h f n p (small g ts r s) = unfit ts l s (subst (λ (us : List Token). fits us l ≡ true) (of-lexed ts r) f)

      by : (x : Bool) → ltb 65536 (length l.text) ≡ x → (y : Bool) → fits (lexed rules l.text) l ≡ y → Answers l (lexing l)
      by true e y f = from _ (R.Answers.refuses 14 0 (long (ltb-true _ _ e)))
      by false e true f = from _ (R.Answers.done (free (ltb-false _ _ e) f) (lexed rules l.text) (lexed-right l.text))
      by false e false f = from _ (R.Answers.refuses 15 (length (lexed rules l.text)) (small (ltb-false _ _ e) (lexed rules l.text) (lexed-right l.text) (unfit-small (lexed rules l.text) l f)))

  -- And what it says and leaves holds.
  pub given : (o : Outcome) → lexing l ≡ o → Answers l o
  given o e = subst (Answers l) e answers

  -- A number is said with its place where its condition holds, and only then.
  pub when-refused : (0 < (lexing l).answer.code) → Refused l (lexing l).answer.code (lexing l).answer.place
  when-refused h = by (lexing l) answers h
    where
      by : (o : Outcome) → Answers l o → 0 < o.answer.code → Refused l o.answer.code o.answer.place
      by o (R.Answers.refuses n p r) h = r
      by o (R.Answers.done free ts r) h = absurd (omega (arith, h))

  -- It is done only where no condition holds.
  pub when-done : (lexing l).answer.code ≡ 0 → (n p : ℕ) → Refused l n p → ⊥
  when-done e n p r = by n p r (ap (λ (o : Outcome). o.answer.code) (sym (refused-when n p r)) ∙ e)
    where
      by : (n p : ℕ) → Refused l n p → n ≡ 0 → ⊥
      by n p (long h) e = omega (arith, e)
      by n p (small h ts r s) e = omega (arith, e)

  -- one number at most has a condition that holds, and one place
  pub one-condition : (n p m q : ℕ) → Refused l n p → Refused l m q → (n ≡ m) × (p ≡ q)
  one-condition n p m q a b =
      let e : refuses n p l ≡ refuses m q l = sym (refused-when n p a) ∙ refused-when m q b in
      (ap (λ (o : Outcome). o.answer.code) e, ap (λ (o : Outcome). o.answer.place) e)

  -- what a done run says and leaves, and that the rooms hold it
  pub done-writes : (lexing l).answer.code ≡ 0 → (ts : List Token) → Reading l.text ts → lexing l ≡ writes ts l
  done-writes e = done-when (when-done e)

  pub done-holds : (lexing l).answer.code ≡ 0 → (ts : List Token) → Reading l.text ts → Held (length ts) (length (kinds_in ts)) (length l.kinds) (length l.joints) (length l.tokens)
  done-holds e ts r = held (length ts) (length (kinds_in ts)) (length l.kinds) (length l.joints) (length l.tokens) (by (ltb 65536 (length l.text)) refl (fits ts l) refl)
    where
      by : (x : Bool) → ltb 65536 (length l.text) ≡ x → (y : Bool) → fits ts l ≡ y → fits ts l ≡ true
      by true c y f = absurd (when-done e 14 0 (long (ltb-true _ _ c)))
      by false c true f = f
      by false c false f = absurd (when-done e 15 (length ts) (small (ltb-false _ _ c) ts r (unfit-small ts l f)))

-- ---- one answer

-- the result that has these numbers: so no two results have the same
abbrev said : Answer → Result Lexed Refusal
said a = cond (eqb a.code 0) (Ok (record { tokens = a.place; kinds = a.kinds })) (cond (eqb a.code 14) (Err TooLong) (Err (NoRoom a.place)))

is-said : (r : Result Lexed Refusal) → said (numbers r) ≡ r
is-said (Ok n) = refl
is-said (Err TooLong) = refl
is-said (Err (NoRoom n)) = refl

-- Two results that meet the contract of `lex` are the same, with the rooms that they leave.
pub lex-unique : (l : Lent) (a b : Result Lexed Refusal) (ka ja ta kb jb tb : List ℕ) → lexing l ≡ ends (numbers a) ka ja ta → lexing l ≡ ends (numbers b) kb jb tb → (a ≡ b) × (ka ≡ kb) × (ja ≡ jb) × (ta ≡ tb)
lex-unique l a b ka ja ta kb jb tb p q =
    let e : ends (numbers a) ka ja ta ≡ ends (numbers b) kb jb tb = sym p ∙ q in
    (sym (is-said a) ∙ ap (λ (o : Outcome). said o.answer) e ∙ is-said b, ap (λ (o : Outcome). o.kinds) e, ap (λ (o : Outcome). o.joints) e, ap (λ (o : Outcome). o.tokens) e)
