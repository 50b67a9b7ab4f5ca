-- How an answer is told; and that a call's contract leaves one way to meet it. Assumes nothing.
use Prim.Native.Nat.{ℕ, ◌≤◌, ◌<◌}
use mathlib.Core.Path.{◌≡◌, refl, sym, ap, ◌∙◌, subst}
use mathlib.Core.List.{List, [], ◌∷◌, ◌++◌}
use lib.ListN.{length, drop}
use borrow.Author.Tests.{lt-ltb, le-ltb}
use Rattle.std.specs.Prelude.{Some, None, Ok, Err}
use Rattle.records.specs.declared.Step.TheVariants.{Enter, Leave, Token, Error, Expected}
use Rattle.stepfile.specs.Front.{Found}
use Rattle.stepfile.specs.declared.Fault.TheVariants.{Cut, Unsound}
use Rattle.stepfile.specs.Front.{front, taken}
use Rattle.stepfile.specs.declared.Refusal.{Refusal}
use Rattle.stepfile.specs.declared.Refusal.TheVariants as R
use Rattle.stepfile.specs.Answer.{number_of, refused}
use Rattle.oq3_read.specs.Calls.{Call, returns, told, fields, six, reads_step}

module _ (room ws : List ℕ) (n : ℕ) where
  pub too_short : length room < length ws → told room n ws ≡ returns 100 room
  unfolding told
  too_short h = rw (lt-ltb (length room) (length ws) h)

  pub is-told : (m : ℕ) (left : List ℕ) → length ws ≤ length room → m ≡ n → left ≡ ws ++ drop (length ws) room → told room n ws ≡ returns m left
  unfolding told
  is-told m left h e f = rw (le-ltb (length room) (length ws) h, e, f)

-- a refused file has no records
pub no_records : (e : Refusal) → (refused e).records ≡ 0
no_records (R.Cut p) = refl
no_records (R.Unsound p) = refl
no_records (R.Unnested p) = refl

-- ---- one step

six-words : (f : Found) → length (six f) ≡ 6
six-words (Ok (Some (Enter k))) = refl
six-words (Ok (Some Leave)) = refl
six-words (Ok (Some (Token k n))) = refl
six-words (Ok (Some (Error c x))) = refl
six-words (Ok (Some (Expected k f))) = refl
six-words (Ok None) = refl
six-words (Err Cut) = refl
six-words (Err Unsound) = refl

module _ (bs room : List ℕ) where
  pub no_words : length room < 6 → reads_step bs room ≡ returns 100 room
  no_words h = too_short room (six (front bs)) (number_of (front bs)) (rw (six-words (front bs)) h)

  pub step-told : (f : Found) (n rest : ℕ) (fs left : List ℕ) → 6 ≤ length room → f ≡ front bs → n ≡ number_of f → rest ≡ taken f → fs ≡ fields f
      → left ≡ (rest ∷ (fs ++ (0 ∷ []))) ++ drop 6 room → reads_step bs room ≡ returns n left
  step-told f n rest fs left h e c r q l =
      let m = sym (six-words f) in
      rw (← e)
      (is-told room (six f) (number_of f) n left (subst (λ (x : ℕ). x ≤ length room) m h) c
      (l ∙ rw (r, q) (ap (λ (x : ℕ). six f ++ drop x room) m)))

-- ---- one answer

-- two returns of one call are equal, and so is the answer room that they leave
pub call-unique : (c : Call) (m n : ℕ) (room left : List ℕ) → c ≡ returns m room → c ≡ returns n left → (m ≡ n) × (room ≡ left)
call-unique c m n room left p q = (ap (λ (x : Call). x.code) (sym p ∙ q), ap (λ (x : Call). x.answer) (sym p ∙ q))
