-- How an outcome is told, for every call; and that a call's contract leaves one way to meet it.
-- Assumes nothing.
use Prim.Native.Nat.{ℕ, zero, suc, ◌≤◌, ◌<◌}
use mathlib.Core.Path.{◌≡◌, refl, sym, ap, ◌∙◌}
use mathlib.Core.List.{List, []}
use lib.ListN.{length, set}
use Rattle.std.specs.Prelude.{Err}
use borrow.Author.Tests.{eq-eqb, ne_eqb, lt-ltb, le-ltb}
use Rattle.lists.specs.Answer.{Numbers}
use Rattle.events.specs.Resolve.{Outcome, ends}
use Rattle.parse.specs.Parse.{Answer}
use Rattle.parse.specs.Parse as P
use Rattle.lex.specs.declared.Refusal.{Refusal}
use Rattle.lex.specs.declared.Refusal.TheVariants.{TooLong, NoRoom}
use Rattle.lex.specs.Answer.{numbers}
use Rattle.lex.specs.Answer as L
use Rattle.lex.specs.Lexing.{lent, lexing}
use Rattle.lex.specs.Lexing as X
use Rattle.oq3.specs.Calls.{Call, returns, with_room, three, told_parse, entered, parses, LexCall, lex_returns, two, told_lex, lexes}

module _ (room ws out : List ℕ) (o : Outcome) where
  pub no_room : length room ≡ 0 → with_room room ws out o ≡ returns 100 ws out room
  unfolding with_room
  no_room z = rw (eq-eqb (length room) 0 z)

  pub is-told : (a : Numbers) (ws' out' : List ℕ) (n p : ℕ) → (length room ≡ 0 → ⊥) → o ≡ ends a ws' out' → n ≡ a.code → p ≡ a.place
      → with_room room ws out o ≡ returns n ws' out' (set room 0 p)
  unfolding with_room
  is-told a ws' out' n p h e f g = rw (ne_eqb (length room) 0 h, e, f, g)

-- a parse that ends
pub parse-told : (room ws out : List ℕ) (o : P.Outcome) (a : Answer) (n : ℕ) → o ≡ P.ends a ws → n ≡ a.code → out ≡ three a room → told_parse room o ≡ returns n ws [] out
unfolding told_parse
parse-told room ws out o a n e f g = rw (e, f, g)

module _ (entry mode : ℕ) (kinds joints ws room : List ℕ) where
  pub no_words : length room < 3 → parses entry mode kinds joints ws room ≡ returns 100 ws [] room
  unfolding parses
  no_words h = rw (lt-ltb (length room) 3 h)

  -- an entry, and a number that is none
  pub from-entry : (i : ℕ) (c : Call) → 3 ≤ length room → entry ≡ i → told_parse room (entered i mode kinds joints ws) ≡ c → parses entry mode kinds joints ws room ≡ c
  unfolding parses
  from-entry i c h e q = rw (le-ltb (length room) 3 h, e) q

  pub no-entry : (entry ≡ 0 → ⊥) → (entry ≡ 1 → ⊥) → (entry ≡ 2 → ⊥) → entered entry mode kinds joints ws ≡ P.ends (P.refuses 101 0) ws
  no-entry = by entry
    where
      by : (n : ℕ) → (n ≡ 0 → ⊥) → (n ≡ 1 → ⊥) → (n ≡ 2 → ⊥) → entered n mode kinds joints ws ≡ P.ends (P.refuses 101 0) ws
      by zero a b c = absurd (a refl)
      by (suc zero) a b c = absurd (b refl)
      by (suc (suc zero)) a b c = absurd (c refl)
      by (suc (suc (suc n))) a b c = refl

-- two returns of one call are equal, and so is all that they leave
pub call-unique : (c : Call) (m n : ℕ) (ws₁ ws₂ out₁ out₂ room₁ room₂ : List ℕ) → c ≡ returns m ws₁ out₁ room₁ → c ≡ returns n ws₂ out₂ room₂
    → (m ≡ n) × (ws₁ ≡ ws₂) × (out₁ ≡ out₂) × (room₁ ≡ room₂)
call-unique c m n ws₁ ws₂ out₁ out₂ room₁ room₂ p q = (cc, cc, cc, cc)

-- a lexing
module _ (text kinds joints tokens room : List ℕ) where
  pub no-lex-room : length room < 2 → lexes text kinds joints tokens room ≡ lex_returns 100 kinds joints tokens room
  unfolding lexes
  no-lex-room h = rw (lt-ltb (length room) 2 h)

  pub lex-told : (a : L.Answer) (ks js ts : List ℕ) → 2 ≤ length room → lexing (lent text kinds joints tokens) ≡ X.ends a ks js ts → lexes text kinds joints tokens room ≡ lex_returns a.code ks js ts (two a room)
  unfolding lexes
  lex-told a ks js ts h e = rw (le-ltb (length room) 2 h) (ap (told_lex room) e)

  -- a refusal has no kinds
  pub lex-refused : (r : Refusal) (n p : ℕ) (ks js ts : List ℕ) → 2 ≤ length room → lexing (lent text kinds joints tokens) ≡ X.ends (numbers (Err r)) ks js ts → n ≡ (numbers (Err r)).code → p ≡ (numbers (Err r)).place
      → lexes text kinds joints tokens room ≡ lex_returns n ks js ts (set (set room 0 p) 1 0)
  lex-refused TooLong n p ks js ts h e f g = rw (f, g) (lex-told (numbers (Err TooLong)) ks js ts h e)
  lex-refused (NoRoom m) n p ks js ts h e f g = rw (f, g) (lex-told (numbers (Err (NoRoom m))) ks js ts h e)

pub lex-call-unique : (c : LexCall) (m n : ℕ) (ks₁ ks₂ js₁ js₂ ts₁ ts₂ room₁ room₂ : List ℕ) → c ≡ lex_returns m ks₁ js₁ ts₁ room₁ → c ≡ lex_returns n ks₂ js₂ ts₂ room₂
    → (m ≡ n) × (ks₁ ≡ ks₂) × (js₁ ≡ js₂) × (ts₁ ≡ ts₂) × (room₁ ≡ room₂)
lex-call-unique c m n ks₁ ks₂ js₁ js₂ ts₁ ts₂ room₁ room₂ p q =
    let e : lex_returns m ks₁ js₁ ts₁ room₁ ≡ lex_returns n ks₂ js₂ ts₂ room₂ = sym p ∙ q in
    (ap (λ (c : LexCall). c.number) e, ap (λ (c : LexCall). c.kinds) e, ap (λ (c : LexCall). c.joints) e, ap (λ (c : LexCall). c.tokens) e, ap (λ (c : LexCall). c.answer) e)
