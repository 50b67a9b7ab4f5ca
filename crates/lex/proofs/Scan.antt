-- What the scan of a token keeps true, and when it may stop. Assumes nothing.
use mathlib.Core.Path.{◌≡◌, refl, sym, ap, ◌∙◌}
use mathlib.Core.List.{List}
use Prim.Native.Nat.{ℕ, zero, suc, ◌+◌, ◌*◌, ◌/◌, ◌≤◌, ◌<◌}
use native.Mathlib.Numerals.{add-one}
use native.Mathlib.Omega.{arith}
use lib.ListN.{length, get_or, drop, drop_of_length-le}
use lib.Seq.{drop-cons, get_or-drop}
use borrow.Author.Tests.{eqb-true, eqb-false, lt-ltb, le-ltb}
use Rattle.lexical.specs.Lexed.{Token, nothing, token, coded, or_else, longest}
use Rattle.lexical.specs.Rules.{rules}
use Rattle.lexical.specs.Table.{width, live-row, last_row, body, next, kind-of, State}
use Rattle.lexical.proofs.Right.{left, start, turn, dead, at-end}
use Rattle.lexical.proofs.Looked.{kind-live, dead-kind, nothing-last}
use Rattle.lexical.proofs.Unclosed.{NoPair, unclosed}
use Rattle.lex.specs.Inside.{NoClose}

-- the token in front is what is still found from the state on, or else what was found last
pub record Scanned (text : List ℕ) (state i found end : ℕ) : Type 0 where
  pub is : longest rules 0 text ≡ or_else (longest (left state) i (drop i text)) (coded (kind-of found) end)

or_else-nothing : (t : Token) → t ≡ or_else t nothing
or_else-nothing nothing = refl
or_else-nothing (token k n) = refl

pub scan-start : (text : List ℕ) → Scanned text width 0 0 0
scan-start text = record { is = rw (start, dead-kind) (or_else-nothing (longest rules 0 text)) }

first : (j n : ℕ) (t : Token) → (j ≡ 0 → ⊥) → or_else (coded j n) t ≡ coded j n
first zero n t nz = absurd (nz refl)
first (suc j) n t nz = refl

module _ {text : List ℕ} {s i f e s' : ℕ} (there : i < length text) (hb : get_or text i 0 < 256) (is : s' ≡ next s (get_or text i 0)) (st : State s') (h : Scanned text s i f e) where
  turned : longest rules 0 text ≡ or_else (longest (left s') (i + 1) (drop (i + 1) text)) (or_else (coded (kind-of s') (i + 1)) (coded (kind-of f) e))
  turned =
      rw (add-one i, is)
      (h.is ∙ rw (drop-cons text i 0 there) (turn s i (get_or text i 0) (kind-of f) e (drop (suc i) text) hb))

  -- no rule is left
  pub scan-none : s' ≡ 0 → longest rules 0 text ≡ coded (kind-of f) e
  scan-none z = turned ∙ rw (z, dead (i + 1) (drop (i + 1) text), dead-kind)

  -- no token ends in the new state
  pub scan-on : s' < width * live-row → Scanned text s' (i + 1) f e
  scan-on l =
      let none : kind-of s' ≡ 0 = eqb-true (kind-of s') 0 (kind-live st ∙ lt-ltb (s' / width) live-row (omega (arith, l))) in
      record { is = rw none at turned }

  -- one does
  pub scan-found : width * live-row ≤ s' → Scanned text s' (i + 1) s' (i + 1)
  scan-found l =
      let some : kind-of s' ≡ 0 → ⊥ = eqb-false (kind-of s') 0 (kind-live st ∙ le-ltb (s' / width) live-row (omega (arith, l))) in
      record { is = turned ∙ ap (or_else (longest (left s') (i + 1) (drop (i + 1) text))) (first (kind-of s') (i + 1) (coded (kind-of f) e) some) }

module _ {text : List ℕ} {s i f e : ℕ} (h : Scanned text s i f e) where
  pub scan-end : length text ≤ i → longest rules 0 text ≡ coded (kind-of f) e
  scan-end l = h.is ∙ rw (drop_of_length-le text l, at-end (left s) i)

  -- no token goes on from a last state
  pub scan-last : State s → width * last_row ≤ s → ((j : ℕ) → get_or text j 0 < 256) → longest rules 0 text ≡ coded (kind-of f) e
  scan-last st l hb = h.is ∙ rw (nothing-last st (omega (arith, l)) i (drop i text) (λ j. rw get_or-drop (hb (i + j))))

  -- nor in a comment behind the last close
  pub scan-unclosed : {close : ℕ} → ((j : ℕ) → get_or text j 0 < 256) → s ≡ body → NoClose text close → close ≤ i → longest rules 0 text ≡ coded (kind-of f) e
  scan-unclosed hb z g l =
      let behind : (j : ℕ) → get_or (drop i text) (suc j) 0 ≡ 47 → get_or text (suc (i + j)) 0 ≡ 47 = λ j q. let one_more : suc (i + j) ≡ i + suc j = omega arith in rw one_more (sym (get_or-drop i text (suc j) 0) ∙ q) in
      let no-pair : NoPair (drop i text) = λ j p q. g.none (i + j) (omega arith) (sym (get_or-drop i text j 0) ∙ p) (behind j q) in
      h.is ∙ rw (z, (unclosed (drop i text) (λ j. rw get_or-drop (hb (i + j)))).0 no-pair i)

pub coded-same : {k k' n n' : ℕ} → k ≡ k' → n ≡ n' → coded k n ≡ coded k' n'
coded-same p q = λ i. coded (p i) (q i)
