-- Walks over a file: enough rounds, the whole-file call and the steps one by one, and what was written read back. Assumes nothing.
use Prim.Native.Nat.{ℕ, zero, suc, ◌+◌, ◌≤◌}
use native.Mathlib.Omega.{arith}
use native.Mathlib.Numerals.{add-one}
use mathlib.Core.Path.{◌≡◌, refl, sym, ap, ◌∙◌}
use mathlib.Core.List.{List, [], ◌∷◌, ◌++◌, append_assoc, append-nil}
use lib.ListN.{length, drop, length-append, length-drop}
use lib.Seq.{drop-append_seam, drop-drop}
use Rattle.std.specs.Prelude.{Option, Some, None, Result, Ok, Err}
use Rattle.records.specs.declared.Step.{Step}
use Rattle.records.specs.declared.Step.TheVariants.{Enter, Leave, Token, Error, Expected}
use Rattle.records.specs.Record.{record_of, bytes, Sounds}
use Rattle.stepfile.specs.Front.{Found}
use Rattle.stepfile.specs.declared.Fault.{Fault}
use Rattle.stepfile.specs.declared.Fault.TheVariants.{Cut, Unsound}
use Rattle.stepfile.specs.declared.Refusal.{Refusal}
use Rattle.stepfile.specs.declared.Refusal.TheVariants.{Unnested}
use Rattle.stepfile.specs.declared.Walk.{Walk}
use Rattle.stepfile.specs.Front.{front, behind}
use Rattle.stepfile.specs.Nesting.{nest, on_nodes}
use Rattle.stepfile.specs.Answer.{Numbers, refuses, number_of}
use Rattle.stepfile.specs.File.{ended, on_found, walk}
use Rattle.stepfile.specs.OneByOne.{Walked, walked_in, walked, judged}
use Rattle.stepfile.specs.Inside.{Fits, passed, from, Turned}
use Rattle.stepfile.proofs.Inverse.{read-record, step_fits, behind-step}
use Rattle.stepfile.proofs.Nestings.{opens_one}

-- every record has four bytes at least
pub four : (s : Step) → 4 ≤ length (record_of s)
four (Enter k) = omega arith
four Leave = omega arith
four (Token k n) = omega arith
four (Error c x) = omega arith
four (Expected k f) = omega arith

-- a step that stands at a place lies in the file: for who walks by places
pub step-inside : (l : List ℕ) (at : ℕ) (f : Found) (s : Step) → f ≡ front (drop at l) → f ≡ Ok (Some s) → (at + length (record_of s) ≤ length l) × (at + 4 ≤ at + length (record_of s))
step-inside l at f s e q =
    let h = step_fits (drop at l) s (sym e ∙ q) in
    (omega (arith, h, four s, length-drop at l), omega (arith, four s))

-- what is left behind a step is shorter
pub shorter : (bs : List ℕ) (s : Step) (n : ℕ) → front bs ≡ Ok (Some s) → length bs ≤ suc n → length (behind bs) ≤ n
shorter bs s n e h = rw (behind-step bs s e) (omega (arith, four s, length-drop (length (record_of s)) bs))

-- by what stands at the front, with the equation
by_front : {A : Type 0} (f : Found) (g h : Step → A) (a b c : A) → ((s : Step) → f ≡ Ok (Some s) → g s ≡ h s) → on_found f g a b c ≡ on_found f h a b c
by_front (Ok (Some s)) g h a b c q = q s refl
by_front (Ok None) g h a b c q = refl
by_front (Err Cut) g h a b c q = refl
by_front (Err Unsound) g h a b c q = refl

pub by-nodes : {A : Type 0} (m : Option ℕ) (g h : ℕ → A) (a : A) → ((p : ℕ) → g p ≡ h p) → on_nodes m g a ≡ on_nodes m h a
by-nodes (Some p) g h a q = q p
by-nodes None g h a q = refl

-- As many rounds as bytes are enough: more make no difference.
pub rounds : (n m : ℕ) (bs : List ℕ) → length bs ≤ n → length bs ≤ m → walked_in n bs ≡ walked_in m bs
unfolding walked_in front
rounds zero zero bs h k = refl
rounds zero (suc m) [] h k = refl
rounds zero (suc m) (b ∷ bs) h k = absurd (omega arith)
rounds (suc n) zero [] h k = refl
rounds (suc n) zero (b ∷ bs) h k = absurd (omega arith)
rounds (suc n) (suc m) bs h k =
    by_front (front bs) _ _ _ _ _
    (λ s e. ap (λ (w : Walked). record { steps = s ∷ w.steps; rest = w.rest }) (rounds n m (behind bs) (shorter bs s n e h) (shorter bs s m e k)))

-- The whole-file walk says what the steps one by one come to.
module _ (at r o : ℕ) where
  told : (n : ℕ) (bs : List ℕ)
      → ((s : Step) (p : ℕ) → front bs ≡ Ok (Some s)
      → walk n (drop (length (record_of s)) bs) (at + length (record_of s)) (suc r) p
      ≡ judged (at + length (record_of s)) (suc r) p (walked_in n (behind bs)).steps (front (walked_in n (behind bs)).rest))
      → (f : Found) → front bs ≡ f
      → walk (suc n) bs at r o ≡ judged at r o (walked_in (suc n) bs).steps (front (walked_in (suc n) bs).rest)
  unfolding walk walked_in judged
  told n bs ih (Ok (Some s)) e = rw e (by-nodes (nest r o s) _ _ _ (λ p. ih s p e))
  told n bs ih (Ok None) e = rw (e, e)
  told n bs ih (Err Cut) e = rw (e, e)
  told n bs ih (Err Unsound) e = rw (e, e)

pub agree : (n : ℕ) (bs : List ℕ) (at r o : ℕ) → length bs ≤ n → walk n bs at r o ≡ judged at r o (walked_in n bs).steps (front (walked_in n bs).rest)
unfolding walk walked_in judged front
agree zero [] at r o h = refl
agree zero (b ∷ bs) at r o h = absurd (omega arith)
agree (suc n) bs at r o h =
    told at r o n bs (λ s p e. rw (← behind-step bs s e) (agree n (behind bs) (at + length (record_of s)) (suc r) p (shorter bs s n e h))) (front bs) refl

-- so more rounds make no difference to it either
pub walk-rounds : (n m : ℕ) (bs : List ℕ) (at r o : ℕ) → length bs ≤ n → length bs ≤ m → walk n bs at r o ≡ walk m bs at r o
walk-rounds n m bs at r o h k =
    agree n bs at r o h ∙ ap (λ (w : Walked). judged at r o w.steps (front w.rest)) (rounds n m bs h k) ∙ sym (agree m bs at r o k)

-- ---- a round of the code

-- at a step: the walk goes on past it, or ends where it breaks the nesting
pub round-step : (bs : List ℕ) (w : Walk) (s : Step) (t : Result Walk Refusal) → Fits bs w → front (drop w.at bs) ≡ Ok (Some s) → t ≡ passed w s → Turned bs w t
unfolding walk passed
round-step bs w s t f e q = rw q (on (nest w.records w.held s) refl)
  where
    size : ℕ
    size = length (record_of s)

    fits : w.at + size ≤ length bs
    fits = omega (arith, f.place, step_fits (drop w.at bs) s e, length-drop w.at bs)

    on : (m : Option ℕ) → nest w.records w.held s ≡ m
        → Turned bs w (on_nodes m (λ p. Ok (record { at = w.at + size; records = w.records + 1; held = p })) (Err (Unnested w.at)))
    on (Some p) g =
        let h : 4 ≤ size = four s in
        (record { place = fits; records = omega (arith, f.records); held = omega (arith, f.held, opens_one w.records w.held s p g) }, omega arith, (λ n. rw (e, g, drop-drop size w.at bs, add-one)))
    on None g = λ n. rw (e, g)

-- at no step: the walk ends
module _ (bs : List ℕ) (w : Walk) (n : ℕ) where
  pub round-end : (a : Numbers) → front (drop w.at bs) ≡ Ok None → a ≡ ended w.at w.records w.held → from (suc n) bs w ≡ a
  unfolding walk
  round-end a e q = rw (e, q)

  pub round-fault : (e : Fault) → front (drop w.at bs) ≡ Err e → from (suc n) bs w ≡ refuses (number_of (Err e)) w.at
  unfolding walk
  round-fault Cut e = rw e
  round-fault Unsound e = rw e

-- What was written for sound steps, and anything behind it, reads as those steps and what is behind.
pub read_back : (n : ℕ) (ss : List Step) (more : List ℕ) → Sounds ss → length (bytes ss ++ more) ≤ n
    → walked_in n (bytes ss ++ more) ≡ record { steps = ss ++ (walked more).steps; rest = (walked more).rest }
unfolding bytes walked_in
read_back n [] more h k = rounds n (length more) more k (omega arith)
read_back zero (s ∷ ss) more h k = absurd (omega (arith, four s, length-append (record_of s) (bytes ss), length-append (record_of s ++ bytes ss) more))
read_back (suc n) (s ∷ ss) more h k =
    let bs : List ℕ = record_of s ++ (bytes ss ++ more) in
    let e : front bs ≡ Ok (Some s) = read-record s (bytes ss ++ more) h.0 in
    let b : behind bs ≡ bytes ss ++ more = behind-step bs s e ∙ drop-append_seam (record_of s) (bytes ss ++ more) in
    let l : length (bytes ss ++ more) ≤ n = rw b at (shorter bs s n e (rw append_assoc at k)) in
    rw (append_assoc, e, b, read_back n ss more h.1 l)

pub walked-first : (s : Step) (more : List ℕ) → Sounds (s ∷ []) → walked (record_of s ++ more) ≡ record { steps = s ∷ (walked more).steps; rest = (walked more).rest }
unfolding bytes
walked-first s more h =
    let q : bytes (s ∷ []) ++ more ≡ record_of s ++ more = ap (λ (l : List ℕ). l ++ more) (append-nil (record_of s)) in
    rw q at (read_back (length (bytes (s ∷ []) ++ more)) (s ∷ []) more h (omega arith))

pub reads-steps : (ss : List Step) → Sounds ss → walked (bytes ss) ≡ record { steps = ss; rest = [] }
unfolding walked_in
reads-steps ss h =
    let q : bytes ss ++ [] ≡ bytes ss = append-nil (bytes ss) in
    rw (q, append-nil) at (read_back (length (bytes ss ++ [])) ss [] h (omega arith))
