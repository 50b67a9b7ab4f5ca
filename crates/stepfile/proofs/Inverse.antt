-- Reading is the inverse of writing, record by record. Assumes nothing.
use Prim.Native.Nat.{ℕ, zero, suc, ◌+◌, ◌*◌, ◌/◌, ◌%◌, ◌≤◌, ◌<◌}
use native.Mathlib.Omega.{arith}
use mathlib.Core.Path.{◌≡◌, refl, sym, ap, ◌∙◌}
use mathlib.Core.Bool.{true, cond}
use mathlib.Core.List.{List, [], ◌∷◌, ◌++◌}
use lib.Dec.{eqb, ltb}
use lib.ListN.{length, get_or, take, drop, take-append-drop}
use lib.Seq.{drop-cons}
use borrow.Author.Tests.{ne_eqb, le-ltb, eqb-true, eqb-false, ltb-false}
use Rattle.std.specs.Prelude.{Some, None, Ok, Err}
use Rattle.records.specs.declared.Step.{Step}
use Rattle.records.specs.declared.Step.TheVariants.{Enter, Leave, Token, Error, Expected}
use Rattle.records.specs.Record.{record_of, Sound as SoundStep}
use Rattle.laws.proofs.Tests.{by-test}
use Rattle.stepfile.specs.Front.{Found}
use Rattle.stepfile.specs.declared.Fault.TheVariants.{Cut, Unsound}
use Rattle.stepfile.specs.Front.{two, step_of, front, taken, behind}
use Rattle.stepfile.specs.Good.{Bytes}

-- ---- a record that was written, and anything behind it

two_back : (n : ℕ) → n % 256 + 256 * (n / 256) ≡ n
two_back n = omega arith

-- a list that is long enough for its first record
whole : (bs : List ℕ) → 4 ≤ length bs → 4 + two bs 0 ≤ length bs → front bs ≡ step_of (two bs 2) (two bs 0) bs
unfolding front
whole bs h g = rw (ne_eqb (length bs) 0 (λ z. omega arith), le-ltb (length bs) (4 + two bs 0) g)

pub read-record : (s : Step) (more : List ℕ) → SoundStep s → front (record_of s ++ more) ≡ Ok (Some s)
unfolding step_of
read-record (Enter k) more h = whole (record_of (Enter k) ++ more) (omega arith) (omega arith) ∙ ap (λ (n : ℕ). Ok (Some (Enter n))) (two_back k)
read-record Leave more h = whole (record_of Leave ++ more) (omega arith) (omega arith)
read-record (Token k n) more h =
    whole (record_of (Token k n) ++ more) (omega arith) (omega arith)
    ∙ rw (ne_eqb n 0 (λ z. omega (arith, h.1)), le-ltb 3 n h.2) (ap (λ (m : ℕ). Ok (Some (Token m n))) (two_back k))
read-record (Error c x) more h =
    whole (record_of (Error c x) ++ more) (omega arith) (omega arith)
    ∙ rw (two_back c, two_back x)
read-record (Expected k f) more h =
    whole (record_of (Expected k f) ++ more) (omega arith) (omega arith)
    ∙ rw (two_back k, two_back f)

-- ---- what reads as a step is its record

-- by the sort of a record that reads as a step
by-sort : (P : ℕ → ℕ → Step → Type 0) (kind size : ℕ) (bs : List ℕ) (s : Step) → step_of kind size bs ≡ Ok (Some s)
    → P 1 2 (Enter (two bs 4)) → P 2 0 Leave → (0 < get_or bs 6 0 → get_or bs 6 0 ≤ 3 → P 3 3 (Token (two bs 4) (get_or bs 6 0))) → P 4 4 (Error (two bs 4) (two bs 6))
    → (two bs 4 ≡ 1 → P 5 6 (Expected (two bs 6) (two bs 8)))
    → P kind size s
unfolding step_of
by-sort P kind size bs s e a b c d g =
    by-test Q (eqb kind 1) _ _ (λ k. one 1 2 _ k (λ f. rw f a)) (λ _.
    by-test Q (eqb kind 2) _ _ (λ k. one 2 0 _ k (λ f. rw f b)) (λ _.
    by-test Q (eqb kind 3) _ _ (λ k. by-test Q (eqb size 3) _ _ (λ z. token k z) (λ _. none)) (λ _.
    by-test Q (eqb kind 4) _ _ (λ k. one 4 4 _ k (λ f. rw f d)) (λ _.
    by-test Q (eqb kind 5) _ _ (λ k. by-test Q (eqb size 6) _ _ (λ z. expected k z) (λ _. none)) (λ _. none))))) e
  where
    Q : Found → Type 0
    Q f = f ≡ Ok (Some s) → P kind size s

    none : ◌≡◌ {A = Found} (Err Unsound) (Ok (Some s)) → P kind size s
    none q = let z : ◌≡◌ {A = ℕ} 0 1 = cc in absurd (omega arith)

    same : (t : Step) → ◌≡◌ {A = Found} (Ok (Some t)) (Ok (Some s)) → s ≡ t
    same t q = cc

    one : (k z : ℕ) (t : Step) → eqb kind k ≡ true → (s ≡ t → P k z s) → cond (eqb size z) (Ok (Some t)) (Err Unsound) ≡ Ok (Some s) → P kind size s
    one k z t ek f =
        by-test Q (eqb size z) _ _ (λ ez q. rw (eqb-true kind k ek, eqb-true size z ez) (f (same t q))) (λ _. none)

    token : eqb kind 3 ≡ true → eqb size 3 ≡ true → cond (eqb (get_or bs 6 0) 0) (Err Unsound) (cond (ltb 3 (get_or bs 6 0)) (Err Unsound) (Ok (Some (Token (two bs 4) (get_or bs 6 0))))) ≡ Ok (Some s) → P kind size s
    token ek ez =
        by-test Q (eqb (get_or bs 6 0) 0) _ _ (λ _. none) (λ n.
        by-test Q (ltb 3 (get_or bs 6 0)) _ _ (λ _. none) (λ m q.
        let pos : 0 < get_or bs 6 0 = positive (get_or bs 6 0) (eqb-false (get_or bs 6 0) 0 n) in
        rw (eqb-true kind 3 ek, eqb-true size 3 ez, same (Token (two bs 4) (get_or bs 6 0)) q) (c pos (ltb-false 3 (get_or bs 6 0) m))))
      where
        positive : (n : ℕ) → (n ≡ 0 → ⊥) → 0 < n
        positive zero z = absurd (z refl)
        positive (suc n) z = omega arith

    expected : eqb kind 5 ≡ true → eqb size 6 ≡ true → cond (eqb (two bs 4) 1) (Ok (Some (Expected (two bs 6) (two bs 8)))) (Err Unsound) ≡ Ok (Some s) → P kind size s
    expected ek ez =
        by-test Q (eqb (two bs 4) 1) _ _
        (λ o q. rw (eqb-true kind 5 ek, eqb-true size 6 ez, same (Expected (two bs 6) (two bs 8)) q) (g (eqb-true (two bs 4) 1 o)))
        (λ _. none)

-- the record of a step has four bytes more than its payload
size_of : (kind size : ℕ) (bs : List ℕ) (s : Step) → step_of kind size bs ≡ Ok (Some s) → length (record_of s) ≡ 4 + size
size_of kind size bs s e = by-sort (λ k z t. length (record_of t) ≡ 4 + z) kind size bs s e refl refl (λ _ _. refl) refl (λ _. refl)

-- what a front that is a step comes from
opened : (bs : List ℕ) (s : Step) → front bs ≡ Ok (Some s) → (4 + two bs 0 ≤ length bs) × (step_of (two bs 2) (two bs 0) bs ≡ Ok (Some s))
unfolding front
opened bs s =
    by-test Q (eqb (length bs) 0) _ _ (λ _ q. absurd (no_end q)) (λ _.
    by-test Q (ltb (length bs) (4 + two bs 0)) _ _ (λ _ q. absurd (no_cut q)) (λ g q. (ltb-false (length bs) (4 + two bs 0) g, q)))
  where
    Q : Found → Type 0
    Q f = f ≡ Ok (Some s) → (4 + two bs 0 ≤ length bs) × (step_of (two bs 2) (two bs 0) bs ≡ Ok (Some s))

    no_end : ◌≡◌ {A = Found} (Ok None) (Ok (Some s)) → ⊥
    no_end q = let z : ◌≡◌ {A = ℕ} 0 1 = cc in omega arith

    no_cut : ◌≡◌ {A = Found} (Err Cut) (Ok (Some s)) → ⊥
    no_cut q = let z : ◌≡◌ {A = ℕ} 0 1 = cc in omega arith

-- its record lies in the file
pub step_fits : (bs : List ℕ) (s : Step) → front bs ≡ Ok (Some s) → length (record_of s) ≤ length bs
step_fits bs s e = let o = opened bs s e in omega (arith, o.0, size_of (two bs 2) (two bs 0) bs s o.1)

pub taken-fits : (bs : List ℕ) → taken (front bs) ≤ length bs
taken-fits bs = on (front bs) refl
  where
    on : (f : Found) → front bs ≡ f → taken f ≤ length bs
    on (Ok (Some s)) e = step_fits bs s e
    on (Ok None) e = omega arith
    on (Err Cut) e = omega arith
    on (Err Unsound) e = omega arith

pub behind-step : (bs : List ℕ) (s : Step) → front bs ≡ Ok (Some s) → behind bs ≡ drop (length (record_of s)) bs
unfolding behind
behind-step bs s e = ap (λ (f : Found). drop (taken f) bs) e

-- the bytes of a list from a place on, one by one
firsts : List ℕ → ℕ → ℕ → List ℕ
firsts bs zero i = []
firsts bs (suc n) i = get_or bs i 0 ∷ firsts bs n (suc i)

take-firsts : (bs : List ℕ) (n i : ℕ) → i + n ≤ length bs → take n (drop i bs) ≡ firsts bs n i
unfolding firsts
take-firsts bs zero i h = refl
take-firsts bs (suc n) i h =
    ap (take (suc n)) (drop-cons bs i 0 (omega arith)) ∙ ap (λ (l : List ℕ). get_or bs i 0 ∷ l) (take-firsts bs n (suc i) (omega arith))

module _ (bs : List ℕ) (small : Bytes bs) where
  -- a number below 256 in two bytes, and two bytes of any number
  low : (i n : ℕ) → two bs i ≡ n → n < 256 → (get_or bs i 0 ≡ n) × (get_or bs (i + 1) 0 ≡ 0)
  low i n e h = (omega (arith, small i), omega (arith, small i))

  halves : (i : ℕ) → (get_or bs i 0 ≡ two bs i % 256) × (get_or bs (i + 1) 0 ≡ two bs i / 256) × (two bs i < 65536)
  halves i = (omega (arith, small i), omega (arith, small i), omega (arith, small i, small (i + 1)))

  There : ℕ → ℕ → Step → Type 0
  There k z s = two bs 2 ≡ k → two bs 0 ≡ z → 4 + z ≤ length bs → (take (4 + z) bs ≡ record_of s) × SoundStep s

  there : (kind size : ℕ) (s : Step) → step_of kind size bs ≡ Ok (Some s) → There kind size s
  unfolding There firsts
  there kind size s e =
      by-sort There kind size bs s e
      (λ k z h. let a = low 0 2 z (omega arith) in let b = low 2 1 k (omega arith) in let c = halves 4 in (take-firsts bs 6 0 h ∙ (cc (a.0, a.1, b.0, b.1, c.0, c.1)), c.2))
      (λ k z h. let a = low 0 0 z (omega arith) in let b = low 2 2 k (omega arith) in (take-firsts bs 4 0 h ∙ (cc (a.0, a.1, b.0, b.1)), tt))
      (λ m n k z h. let a = low 0 3 z (omega arith) in let b = low 2 3 k (omega arith) in let c = halves 4 in (take-firsts bs 7 0 h ∙ (cc (a.0, a.1, b.0, b.1, c.0, c.1)), (c.2, m, n)))
      (λ k z h. let a = low 0 4 z (omega arith) in let b = low 2 4 k (omega arith) in let c = halves 4 in let d = halves 6 in (take-firsts bs 8 0 h ∙ (cc (a.0, a.1, b.0, b.1, c.0, c.1, d.0, d.1)), (c.2, d.2)))
      (λ o k z h.
      let a = low 0 6 z (omega arith) in let b = low 2 5 k (omega arith) in let g = low 4 1 o (omega arith) in let c = halves 6 in let d = halves 8 in
      (take-firsts bs 10 0 h ∙ (cc (a.0, a.1, b.0, b.1, g.0, g.1, c.0, c.1, d.0, d.1)), (c.2, d.2)))

  pub record-there : (s : Step) → front bs ≡ Ok (Some s) → (bs ≡ record_of s ++ behind bs) × SoundStep s
  unfolding There
  record-there s e =
      let o = opened bs s e in
      let t = there (two bs 2) (two bs 0) s o.1 refl refl o.0 in
      let n = size_of (two bs 2) (two bs 0) bs s o.1 in
      (sym (take-append-drop (4 + two bs 0) bs) ∙ rw (t.0, behind-step bs s e, n), t.1)
