-- What is proved of lexing and parsing together; docs/PROOFS.md has a sentence for each. Assumes nothing.
use mathlib.Core.Path.{◌≡◌, refl, sym, ap, ap₂, subst, ◌∙◌}
use mathlib.Core.Bool.{Bool, true, false, cond}
use mathlib.Core.List.{List, ◌∷◌, ◌++◌}
use mathlib.Core.Option.{Option, none, some}
use Prim.Native.Nat.{ℕ, suc, ◌+◌, ◌*◌, ◌/◌, ◌≤◌, ◌<◌}
use native.Mathlib.Omega.{arith}
use lib.Dec.{eqb, ltb}
use lib.ListN.{length, get_or, take, drop, replicate, length-replicate}
use lib.Seq.{take-append_seam}
use borrow.Author.Tests.{eqb-true, eq-eqb, ne_eqb, le-leb, le-ltb, ltb-true}
use Rattle.laws.proofs.Tests.{apart}
use Rattle.input.specs.Input.{env}
use Rattle.runs.proofs.Joints.{Agree}
use Rattle.lists.specs.Answer.{says}
use Rattle.lists.specs.Check.{checked}
use Rattle.lexical.specs.Lexed.{Token, nothing, token, lexed}
use Rattle.lexical.specs.Rules.{rules}
use Rattle.lexical.proofs.Theorem.{lexed-right}
use Rattle.lex.specs.Lexing.{kinds_in, joints_in, put_bits, fit, writes}
use Rattle.lex.specs.Lexing as X
use Rattle.lex.proofs.Placed.{roomy, written, not-long}
use Rattle.readings.specs.Readings.{kind, size, Reading, Other, number_of}
use Rattle.readings.proofs.Joints.{bits_put, bits-length}
use Rattle.readings.proofs.One.{one-reading}
use Rattle.readings.proofs.Places.{token-right, last-ends, bytes-once}
use Rattle.readings.proofs.Permitted.{kinds-permitted, joints-kinds}
use Rattle.readings.proofs.Theorems.{kinds-at}
use Rattle.readings.proofs.Numbers.{other-kind, token-there}
use Rattle.readings.proofs.Conditions.{done-writes, done-holds}
use Rattle.parse.specs.declared.Entry.{Entry}
use Rattle.parse.specs.declared.Entry.TheVariants.{SourceFile}
use Rattle.parse.specs.Parse.{few_joints, first_fault, not_permitted, parsed}
use Rattle.parse.specs.Parse as P
use Rattle.answers.specs.Handed.{handed, steps_in}
use Rattle.answers.proofs.Lent.{joints-ignored}
use Rattle.answers.proofs.Theorems.{given, fault-there}
use Rattle.promises.specs.Promised.{CoverSteps}
use Rattle.promises.proofs.Theorems.{list-passes, raw-counts, all-consumed, source-covered, source-rooted}
use Rattle.fromtext.specs.FromText.{Lent, lex_lent, read, parse_lent, read_parsed, Outcome, ends, from_text, kinds_of, joints_of, text_lent, parsed_text, steps_kinds, StepOnce, TextTiled, TextCovered}
use Rattle.fromtext.proofs.Steps.{steps-once}
use Rattle.fromtext.proofs.Covered.{all_there}

-- ---- the joint bits of a text, in words of 0 and in a room

module _ (text : List ℕ) where
  few_bits : length (joints_in (lexed rules text)) ≡ length (kinds_of text)
  few_bits = joints-kinds (lexed rules text)

  fresh : List ℕ
  fresh = replicate ((length (joints_in (lexed rules text)) + 63) / 64) 0

  fresh-length : length fresh ≡ (length (kinds_of text) + 63) / 64
  unfolding fresh
  fresh-length = length-replicate {A = ℕ} ((length (joints_in (lexed rules text)) + 63) / 64) 0 ∙ ap (λ (n : ℕ). (n + 63) / 64) few_bits

  -- there are as many words as the bits need
  pub words-enough : length (joints_of text) ≡ (length (kinds_of text) + 63) / 64
  unfolding fresh
  words-enough = bits-length 0 (joints_in (lexed rules text)) fresh ∙ fresh-length

  -- the bits are the same in all words that hold them
  same_bits : (a b : List ℕ) → (length (kinds_of text) + 63) / 64 ≤ length a → (length (kinds_of text) + 63) / 64 ≤ length b
      → Agree (kinds_of text) (put_bits 0 (joints_in (lexed rules text)) a) (put_bits 0 (joints_in (lexed rules text)) b)
  same_bits a b g h i l =
      bits_put (joints_in (lexed rules text)) a i (omega (arith, few_bits, l)) (rw few_bits g)
      ∙ sym (bits_put (joints_in (lexed rules text)) b i (omega (arith, few_bits, l)) (rw few_bits h))

-- ---- rooms that are always enough

-- A text that is not too long is read in rooms with a place for each byte.
pub read_done : (l : Lent) → length l.text ≤ 65536 → length l.text ≤ length l.kinds → length l.text ≤ 64 * length l.joints → 2 * length l.text ≤ length l.tokens → (read l).answer.code ≡ 0
read_done l h k j t = ap (λ (o : X.Outcome). o.answer.code) (not-long (lex_lent l) h ∙ written (lex_lent l) (roomy (lex_lent l) refl fits) refl)
  where
    fits : fit (length l.text) (length l.text) (length l.kinds) (length l.joints) (length l.tokens) ≡ true
    fits =
        rw (le-leb (2 * length l.text) (length l.tokens) t, le-leb (length l.text) (length l.kinds) k, le-leb ((length l.text + 63) / 64) (length l.joints) (omega (arith, j)))

-- ---- one function of the text

module _ (l : Lent) (done : (read l).answer.code ≡ 0) where
  left : read l ≡ writes (lexed rules l.text) (lex_lent l)
  left = done-writes (lex_lent l) done (lexed rules l.text) (lexed-right l.text)

  room-enough : (length (kinds_of l.text) + 63) / 64 ≤ length l.joints
  room-enough = (done-holds (lex_lent l) done (lexed rules l.text) (lexed-right l.text)).bits

  -- the first of the kinds that the lexer leaves, as many as it says
  kinds-left : take (read l).answer.kinds (read l).kinds ≡ kinds_of l.text
  kinds-left = ap (λ (o : X.Outcome). take o.answer.kinds o.kinds) left ∙ take-append_seam (kinds_of l.text) (drop (length (kinds_of l.text)) l.kinds)

  lent_is : parse_lent l (read l) ≡ P.lent l.entry l.mode (kinds_of l.text) (put_bits 0 (joints_in (lexed rules l.text)) l.joints) l.room
  lent_is = ap₂ (λ (ks js : List ℕ). P.lent l.entry l.mode ks js l.room) kinds-left (ap (λ (o : X.Outcome). o.joints) left)

  read-parsed : read_parsed l ≡ parsed_text l.entry l.mode l.text l.room
  unfolding fresh
  read-parsed =
      ap parsed lent_is
      ∙ joints-ignored (text_lent l.entry l.mode l.text l.room) (put_bits 0 (joints_in (lexed rules l.text)) l.joints) (few ∙ sym few-own)
      (same_bits l.text l.joints (fresh l.text) room-enough (omega (arith, fresh-length l.text)))
    where
      few : ltb (length (put_bits 0 (joints_in (lexed rules l.text)) l.joints)) ((length (kinds_of l.text) + 63) / 64) ≡ false
      few =
          le-ltb (length (put_bits 0 (joints_in (lexed rules l.text)) l.joints)) ((length (kinds_of l.text) + 63) / 64)
          (omega (arith, bits-length 0 (joints_in (lexed rules l.text)) l.joints, room-enough))

      few-own : ltb (length (joints_of l.text)) ((length (kinds_of l.text) + 63) / 64) ≡ false
      few-own = le-ltb (length (joints_of l.text)) ((length (kinds_of l.text) + 63) / 64) (omega (arith, words-enough l.text))

  -- Where the lexer is done, all that is said and left is what it says and leaves, and the parse of the text alone, whatever its three rooms held.
  pub text-done : from_text l ≡ ends (read l) (some (parsed_text l.entry l.mode l.text l.room))
  unfolding from_text
  text-done =
      ap (λ (b : Bool). ends (read l) (cond b (some (read_parsed l)) none)) (eq-eqb (read l).answer.code 0 done)
      ∙ ap (λ (o : P.Outcome). ends (read l) (some o)) read-parsed

-- Where it refuses nothing is parsed.
pub text-refused : (l : Lent) → ((read l).answer.code ≡ 0 → ⊥) → from_text l ≡ ends (read l) none
unfolding from_text
text-refused l h = ap (λ (b : Bool). ends (read l) (cond b (some (read_parsed l)) none)) (ne_eqb (read l).answer.code 0 h)

-- what is in an option
inner : P.Outcome → Option P.Outcome → P.Outcome
inner d none = d
inner d (some o) = o

abbrev Full : Option P.Outcome → Type 0
Full none = ⊥
Full (some o) = Unit {0}

-- there is a parse only where the lexer is done
pub parse-there : (l : Lent) (o : P.Outcome) → (from_text l).parse ≡ some o → (read l).answer.code ≡ 0
unfolding from_text
parse-there l o e = by (eqb (read l).answer.code 0) refl e
  where
    by : (b : Bool) → eqb (read l).answer.code 0 ≡ b → cond b (some (read_parsed l)) none ≡ some o → (read l).answer.code ≡ 0
    by true q e = eqb-true (read l).answer.code 0 q
    by false q e = absurd (subst Full (sym e) tt)

-- Whatever is parsed of a text is the parse of that text alone: one function of text, entry, mode and room for events.
pub text-parsed : (l : Lent) (o : P.Outcome) → (from_text l).parse ≡ some o → o ≡ parsed_text l.entry l.mode l.text l.room
unfolding inner
text-parsed l o e = ap (inner o) (sym e ∙ ap (λ (x : Outcome). x.parse) (text-done l (parse-there l o e)))

-- So two parses of one text are the same, whatever rooms the lexer was lent.
pub rooms-forgotten : (l m : Lent) (o p : P.Outcome) → l.entry ≡ m.entry → l.mode ≡ m.mode → l.text ≡ m.text → l.room ≡ m.room
    → (from_text l).parse ≡ some o → (from_text m).parse ≡ some p → o ≡ p
rooms-forgotten l m o p a b c d x y = text-parsed l o x ∙ (λ i. parsed_text (a i) (b i) (c i) (d i)) ∙ sym (text-parsed m p y)

-- ---- never refused with 3 or 4

module _ (entry : Entry) (mode : ℕ) (text room : List ℕ) where
  -- the two tests fail on each text
  pub enough-joints : few_joints (text_lent entry mode text room) ≡ false
  enough-joints = le-ltb (length (joints_of text)) ((length (kinds_of text) + 63) / 64) (omega (arith, words-enough text))

  pub all-permitted : not_permitted (text_lent entry mode text room) ≡ false
  all-permitted = by (ltb (first_fault (kinds_of text)) (length (kinds_of text))) refl
    where
      by : (b : Bool) → ltb (first_fault (kinds_of text)) (length (kinds_of text)) ≡ b → ltb (first_fault (kinds_of text)) (length (kinds_of text)) ≡ false
      by true q =
          let h : first_fault (kinds_of text) < length (kinds_of text) = ltb-true (first_fault (kinds_of text)) (length (kinds_of text)) q in
          apart (sym (fault-there (kinds_of text) h) ∙ kinds-permitted text (first_fault (kinds_of text)) h)
      by false q = q

module _ (l : Lent) (o : P.Outcome) (there : (from_text l).parse ≡ some o) where
  said : (parsed_text l.entry l.mode l.text l.room).answer.code ≡ o.answer.code
  said = ap (λ (x : P.Outcome). x.answer.code) (sym (text-parsed l o there))

  -- A parse of a text is never refused for its joint words, nor for a kind.
  pub no-few-joints : o.answer.code ≡ 3 → ⊥
  no-few-joints e =
      apart (sym (enough-joints l.entry l.mode l.text l.room) ∙ (given (text_lent l.entry l.mode l.text l.room) 3 (λ z. omega (arith, z)) (said ∙ e)).holds)

  pub no-bad-kind : o.answer.code ≡ 4 → ⊥
  no-bad-kind e =
      apart (sym (all-permitted l.entry l.mode l.text l.room) ∙ (given (text_lent l.entry l.mode l.text l.room) 4 (λ z. omega (arith, z)) (said ∙ e)).holds)

  -- The list of a done one passes the check.
  pub text-passes : o.answer.code ≡ 0 → checked (handed o) ≡ says 0 o.answer.events
  text-passes e =
      subst (λ (x : P.Outcome). checked (handed x) ≡ says 0 x.answer.events) (sym (text-parsed l o there))
      (list-passes (text_lent l.entry l.mode l.text l.room) (said ∙ e))

-- ---- every byte, and every token

-- What a text reads as tiles it.
pub text-tiled : (text : List ℕ) (ts : List Token) → Reading text ts → TextTiled text ts
text-tiled text ts r =
    record {
      tiles = r;
      some = λ i h. (token-right rules text ts r i h).some;
      lengths = last-ends rules text ts r;
      bytes = bytes-once rules text ts r;
    }

steps-cover : (mode : ℕ) (text room : List ℕ) → (parsed_text SourceFile mode text room).answer.code ≡ 0 → TextCovered (lexed rules text) (parsed_text SourceFile mode text room)
steps-cover mode text room done =
    record {
      consumed = end;
      once = λ t h. steps-once (steps_in (parsed_text SourceFile mode text room)) t (omega (arith, h, raw-counts (text_lent SourceFile mode text room) done, end));
      covers = all;
      kinds = all_there (env (kinds_of text) (joints_of text)) (steps_in (parsed_text SourceFile mode text room)) all;
      rooted = source-rooted (text_lent SourceFile mode text room) done refl;
    }
  where
    all : CoverSteps (env (kinds_of text) (joints_of text)) 0 (steps_in (parsed_text SourceFile mode text room)) (length (kinds_of text))
    all = source-covered (text_lent SourceFile mode text room) done refl

    end : (parsed_text SourceFile mode text room).answer.place ≡ length (kinds_of text)
    end = all-consumed (text_lent SourceFile mode text room) done refl

-- From the source-file entry the steps of a done parse cover what the text reads as: each byte of the text is in exactly one token, and each token
-- that is no trivia in exactly one token step, in order.
pub text-covered : (l : Lent) (o : P.Outcome) → (from_text l).parse ≡ some o → o.answer.code ≡ 0 → l.entry ≡ SourceFile → (ts : List Token) → Reading l.text ts → TextTiled l.text ts × TextCovered ts o
text-covered l o there done source ts r =
    let same : o ≡ parsed_text SourceFile l.mode l.text l.room = text-parsed l o there ∙ ap (λ (e : Entry). parsed_text e l.mode l.text l.room) source in (
      text-tiled l.text ts r,
      subst (λ (us : List Token). TextCovered us o) (sym (one-reading l.text ts r))
          (subst (TextCovered (lexed rules l.text)) (sym same) (steps-cover l.mode l.text l.room (ap (λ (x : P.Outcome). x.answer.code) (sym same) ∙ done))),
    )

-- So of each token that is no trivia: at its number among those that are none the kind that the steps stand for is its own, and it is in exactly one
-- token step.
pub token-once : (text : List ℕ) (ts : List Token) (o : P.Outcome) → Reading text ts → TextCovered ts o → (j : ℕ) → Other ts j
    → (get_or (steps_kinds (steps_in o)) (number_of ts j) 0 ≡ kind (get_or ts j nothing)) × StepOnce (steps_in o) (number_of ts j)
token-once text ts o r c j other =
    let at = kinds-at (take j ts) (drop (suc j) ts) (kind (get_or ts j nothing)) (size (get_or ts j nothing)) (other-kind (kind (get_or ts j nothing)) other.other) in
    let same : kinds_in ts ≡ kinds_in (take j ts ++ token (kind (get_or ts j nothing)) (size (get_or ts j nothing)) ∷ drop (suc j) ts) = ap kinds_in (token-there rules text ts r j other.there) in
    (ap (λ (ks : List ℕ). get_or ks (number_of ts j) 0) (c.kinds ∙ same) ∙ at.1, c.once (number_of ts j) (omega (arith, at.0, ap (λ (ks : List ℕ). length ks) same)))
