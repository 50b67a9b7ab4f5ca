-- Which way a text goes, and what is said at its end. Assumes nothing.
use mathlib.Core.Path.{◌≡◌, sym, ap, ◌∙◌}
use mathlib.Core.Bool.{Bool, true, false}
use Prim.Native.Nat.{ℕ, ◌≤◌, ◌<◌}
use native.Mathlib.Omega.{arith}
use lib.ListN.{length}
use borrow.Author.Tests.{lt-ltb, le-ltb}
use Rattle.laws.proofs.Tests.{on, off}
use Rattle.lexical.specs.Lexed.{lexed}
use Rattle.lexical.specs.Rules.{rules}
use Rattle.lex.specs.Lexing.{kinds_in, most_text, fit, fits, Lent, Outcome, ends, says, refuses, writes, placed, lexing}
use Rattle.lex.proofs.Laws.{fewer}
use Rattle.lex.proofs.Writing.{tokens-few, kinds-few}

module _ (l : Lent) where
  -- rooms with a place for each byte hold the tokens
  pub roomy : {r : Bool} → r ≡ fit (length l.text) (length l.text) (length l.kinds) (length l.joints) (length l.tokens) → r ≡ true → fits (lexed rules l.text) l ≡ true
  roomy q e =
      fewer (length l.text) (length l.text) (length l.kinds) (length l.joints) (length l.tokens) (length (lexed rules l.text)) (length (kinds_in (lexed rules l.text))) (sym q ∙ e) (tokens-few l.text)
      (omega (arith, tokens-few l.text, kinds-few (lexed rules l.text)))

  -- the count decides
  pub counted : {all some : ℕ} {r b : Bool} → all ≡ length (lexed rules l.text) → some ≡ length (kinds_in (lexed rules l.text)) → r ≡ fit all some (length l.kinds) (length l.joints) (length l.tokens) → r ≡ b → fits (lexed rules l.text) l ≡ b
  counted ea es q e = sym (λ i. fit (ea i) (es i) (length l.kinds) (length l.joints) (length l.tokens)) ∙ sym q ∙ e

  pub written : {o : Outcome} → fits (lexed rules l.text) l ≡ true → writes (lexed rules l.text) l ≡ o → placed (lexed rules l.text) l ≡ o
  written e w = sym (on (writes (lexed rules l.text) l) (refuses 15 (length (lexed rules l.text)) l) e) ∙ w

  pub refused : {all : ℕ} → all ≡ length (lexed rules l.text) → fits (lexed rules l.text) l ≡ false → placed (lexed rules l.text) l ≡ ends (says 15 all 0) l.kinds l.joints l.tokens
  refused ea e = sym (off (writes (lexed rules l.text) l) (refuses 15 (length (lexed rules l.text)) l) e) ∙ ap (λ (n : ℕ). refuses 15 n l) (sym ea)

  pub too_long : most_text < length l.text → lexing l ≡ refuses 14 0 l
  unfolding lexing
  too_long h = sym (on (refuses 14 0 l) (placed (lexed rules l.text) l) (lt-ltb most_text (length l.text) h))

  pub not-long : length l.text ≤ most_text → lexing l ≡ placed (lexed rules l.text) l
  unfolding lexing
  not-long h = sym (off (refuses 14 0 l) (placed (lexed rules l.text) l) (le-ltb most_text (length l.text) h))

-- lengths of tokens are those of a text
pub few-all : (text : Lent) {all some : ℕ} → length text.text ≤ 65536 → all ≡ length (lexed rules text.text) → some ≡ length (kinds_in (lexed rules text.text)) → (all ≤ 65536) × (some ≤ 65536)
few-all l h ea es = (omega (arith, tokens-few l.text, ea, h), omega (arith, tokens-few l.text, kinds-few (lexed rules l.text), es, h))
