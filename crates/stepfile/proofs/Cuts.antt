-- A good file that is cut anywhere is refused. Assumes nothing.
use Prim.Native.Nat.{ℕ, zero, suc, ◌+◌, ◌-◌, ◌≤◌, ◌<◌}
use native.Mathlib.Omega.{arith}
use native.Mathlib.Nat.{zero-add, add-zero}
use mathlib.Core.Path.{◌≡◌, refl, ◌∙◌, subst}
use mathlib.Core.Bool.{Bool, true, false, cond}
use mathlib.Core.List.{List, [], ◌∷◌, ◌++◌}
use lib.Dec.{eqb, ltb}
use lib.ListN.{length, get_or, take, length-append}
use lib.Seq.{length-take-le, take-append-le, take-append-add, get_or-take}
use borrow.Author.Tests.{eq-eqb, ne_eqb, eqb-true, eqb-false, ltb-true, ltb-false}
use Rattle.std.specs.Prelude.{Option, Some, None, Err}
use Rattle.records.specs.declared.Step.{Step}
use Rattle.records.specs.declared.Step.TheVariants.{Enter, Leave, Token, Error, Expected}
use Rattle.records.specs.Record.{record_of, bytes, Sounds}
use Rattle.laws.proofs.Tests.{by-test}
use Rattle.stepfile.specs.declared.Fault.TheVariants as F
use Rattle.stepfile.specs.Front.{two, front}
use Rattle.stepfile.specs.Answer.{refuses}
use Rattle.stepfile.specs.Nesting.{nest, on_nodes, nests}
use Rattle.stepfile.specs.File.{ended, file_read}
use Rattle.stepfile.specs.OneByOne.{walked_in, walked, judged}
use Rattle.stepfile.specs.Good.{holds}
use Rattle.stepfile.proofs.Nestings.{ended-none, ended-open}
use Rattle.stepfile.proofs.Walks.{agree, walked-first}
use Rattle.stepfile.proofs.Conditions.{front_cut, stops}

-- ---- a record that is cut

two_size : (s : Step) → 4 + two (record_of s) 0 ≡ length (record_of s)
two_size (Enter k) = refl
two_size Leave = refl
two_size (Token k n) = refl
two_size (Error c x) = refl
two_size (Expected k f) = refl

cut-front : (s : Step) (n : ℕ) → 0 < n → n < length (record_of s) → front (take n (record_of s)) ≡ Err F.Cut
cut-front s n h l = front_cut (take n (record_of s)) (omega (arith, m)) (on (ltb n 2) refl)
  where
    m : length (take n (record_of s)) ≡ n
    m = length-take-le n (record_of s) (omega arith)

    on : (t : Bool) → ltb n 2 ≡ t → length (take n (record_of s)) < 4 + two (take n (record_of s)) 0
    on true e = omega (arith, m, ltb-true n 2 e)
    on false e =
        let g : 2 ≤ n = ltb-false n 2 e in
        let a : get_or (take n (record_of s)) 0 0 ≡ get_or (record_of s) 0 0 = get_or-take n (record_of s) 0 0 (omega arith) in
        let b : get_or (take n (record_of s)) 1 0 ≡ get_or (record_of s) 1 0 = get_or-take n (record_of s) 1 0 (omega arith) in
        omega (arith, m, a, b, two_size s)

-- ---- where the cut is

eqb-shift : (a h k : ℕ) → eqb (a + h) (a + k) ≡ eqb h k
eqb-shift a h k = on (eqb h k) refl
  where
    on : (t : Bool) → eqb h k ≡ t → eqb (a + h) (a + k) ≡ t
    on true e = eq-eqb (a + h) (a + k) (omega (arith, eqb-true h k e))
    on false e = ne_eqb (a + h) (a + k) (λ z. eqb-false h k e (omega arith))

on-true : {A : Type 0} (m : Option ℕ) (g : ℕ → Bool) → on_nodes m g false ≡ true → ((p : ℕ) → m ≡ Some p → g p ≡ true → A) → A
on-true (Some p) g e k = k p refl e
on-true None g e k = let z : ◌≡◌ {A = ℕ} 0 1 = cc in absurd (omega arith)

-- with no record, or with a node open, a file does not end well
not-ended : (at r o : ℕ) (s : Step) (p : ℕ) → nest r o s ≡ Some p → ended at r o ≡ refuses 13 at
unfolding nest
not-ended at zero o s p e = ended-none at 0 o refl
not-ended at (suc r) zero s p e = let z : ◌≡◌ {A = ℕ} 0 1 = cc in absurd (omega arith)
not-ended at (suc r) (suc o) s p e = ended-open at (suc r) (suc o) (λ z. omega arith)

abbrev Says : ℕ → ℕ → ℕ → List ℕ → ℕ → ℕ → Type 0
Says at r o bs h n = judged at r o (walked bs).steps (front (walked bs).rest) ≡ refuses (cond (eqb h n) 13 11) (at + h)

-- inside the first record, or before it
in-first : (s : Step) (ss : List Step) (at r o p n : ℕ) → nest r o s ≡ Some p → n < length (record_of s) → Says at r o (take n (record_of s ++ bytes ss)) 0 n
unfolding judged walked_in front
in-first s ss at r o p zero e l = not-ended at r o s p e ∙ rw (add-zero at)
in-first s ss at r o p (suc n) e l =
    let t : take (suc n) (record_of s ++ bytes ss) ≡ take (suc n) (record_of s) = take-append-le (suc n) (record_of s) (bytes ss) (omega arith) in
    let f = cut-front s (suc n) (omega arith) l in
    rw (t, stops (length (take (suc n) (record_of s))) (take (suc n) (record_of s)) (Err F.Cut) f (λ q g. let z : ◌≡◌ {A = ℕ} 0 1 = cc in omega arith), f, ne_eqb 0 (suc n) (λ z. omega arith), add-zero at)

-- past the first record
past_first : (s : Step) (ss : List Step) (at r o p k : ℕ) → Sounds (s ∷ []) → nest r o s ≡ Some p
    → Says (at + length (record_of s)) (suc r) p (take k (bytes ss)) (holds ss k) k
    → Says at r o (take (length (record_of s) + k) (record_of s ++ bytes ss)) (length (record_of s) + holds ss k) (length (record_of s) + k)
unfolding judged
past_first s ss at r o p k h e ih =
    let a : at + (length (record_of s) + holds ss k) ≡ at + length (record_of s) + holds ss k = omega arith in
    rw (take-append-add (record_of s) (bytes ss) k, walked-first s (take k (bytes ss)) h, e, eqb-shift (length (record_of s)) (holds ss k) k, a) ih

cut-says : (ss : List Step) (at r o n : ℕ) → Sounds ss → nests r o ss ≡ true → n < length (bytes ss) → Says at r o (take n (bytes ss)) (holds ss n) n
unfolding nests bytes holds
cut-says [] at r o n h e l = absurd (omega arith)
cut-says (s ∷ ss) at r o n h e l =
    on-true (nest r o s) (λ p. nests (suc r) p ss) e
    (λ p q g.
    by-test (λ x. Says at r o (take n (record_of s ++ bytes ss)) x n) (ltb n (length (record_of s))) _ _
    (λ t. in-first s ss at r o p n q (ltb-true n (length (record_of s)) t))
    (λ t.
    let k : ℕ = n - length (record_of s) in
    let m : length (record_of s) + k ≡ n = omega (arith, ltb-false n (length (record_of s)) t) in
    let i = cut-says ss (at + length (record_of s)) (suc r) p k h.1 g (omega (arith, m, length-append (record_of s) (bytes ss))) in
    subst (λ (x : ℕ). Says at r o (take x (record_of s ++ bytes ss)) (length (record_of s) + holds ss k) x) m (past_first s ss at r o p k (h.0, tt) q i)))

-- A file of steps that nest, cut at n: 13 at n where a record begins there, else 11 where the cut record begins.
pub cut-steps : (ss : List Step) (n : ℕ) → Sounds ss → nests 0 0 ss ≡ true → n < length (bytes ss)
    → file_read (take n (bytes ss)) ≡ refuses (cond (eqb (holds ss n) n) 13 11) (holds ss n)
cut-steps ss n h e l =
    agree (length (take n (bytes ss))) (take n (bytes ss)) 0 0 0 (omega arith) ∙ cut-says ss 0 0 0 n h e l ∙ rw (zero-add (holds ss n))
