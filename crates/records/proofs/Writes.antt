-- Writes at a place of a room: one behind the other, in either order; and the bytes of steps.
-- Assumes nothing.
use Prim.Native.Nat.{ℕ, ◌+◌, ◌≤◌}
use native.Mathlib.Omega.{arith}
use native.Mathlib.Nat.{add-zero}
use mathlib.Core.Path.{◌≡◌, refl, sym, ap, ◌∙◌}
use mathlib.Core.List.{List, [], ◌∷◌, ◌++◌, append_assoc, append-nil}
use lib.ListN.{length, take, drop, length-append, length-take, length-drop, take-append-drop}
use lib.Seq.{drop-drop, take_at, drop_at, take-take, take-append-le}
use Rattle.records.specs.declared.Step.{Step}
use Rattle.records.specs.Record.{record_of, bytes, over, Wrote}

pub over_none : (l : List ℕ) (i : ℕ) → over l i [] ≡ l
over_none l i = rw (add-zero, append-nil) (take-append-drop i l)

pub length_over : (l : List ℕ) (i : ℕ) (vs : List ℕ) → i + length vs ≤ length l → length (over l i vs) ≡ length l
length_over l i vs h = simp (length-append, length-take, length-drop) (omega arith)

module _ (l : List ℕ) (i : ℕ) (vs us : List ℕ) (h : i + length vs + length us ≤ length l) where
  joined : over l i (vs ++ us) ≡ take i l ++ vs ++ us ++ drop (i + length vs + length us) l
  joined =
      let e : i + (length vs + length us) ≡ i + length vs + length us = omega arith in
      rw (length-append, e) (simp append_assoc)

  -- the second behind the first
  pub over-ahead : over (over l i vs) (i + length vs) us ≡ over l i (vs ++ us)
  over-ahead =
      let n : length (take i l ++ vs) ≡ i + length vs = simp (length-append, length-take) (omega arith) in
      rw (joined, take_at (take i l ++ vs) (drop (i + length vs) l) (i + length vs) n)
      (ap (λ (r : List ℕ). take i l ++ vs ++ us ++ r)
      (sym (drop-drop (length us) (i + length vs) (over l i vs))
      ∙ ap (λ (r : List ℕ). drop (length us) r) (drop_at (take i l ++ vs) (drop (i + length vs) l) (i + length vs) n)
      ∙ drop-drop (length us) (i + length vs) l))

  -- the second written first
  pub over-back : over (over l (i + length vs) us) i vs ≡ over l i (vs ++ us)
  over-back =
      let m : ℕ = i + length vs in
      let x : List ℕ = drop (m + length us) l in
      let n : length (take m l) ≡ m = simp length-take (omega arith) in
      let le : i ≤ length (take m l) = omega arith in
      let le' : i ≤ m = omega arith in
      rw (joined, append_assoc (take m l) us x, take-append-le i (take m l) (us ++ x) le, take-take i m l le', drop_at (take m l) (us ++ x) m n)
      (sym (append_assoc (take i l ++ vs) us x))

-- what writers leave: nothing, and one after another
pub wrote_none : (l : List ℕ) (i : ℕ) → Wrote l i [] i l
wrote_none l i = record { place = omega arith; bytes = sym (over_none l i) }

pub wrote_then : (l : List ℕ) (i : ℕ) (vs us : List ℕ) (p q : ℕ) (m n : List ℕ)
    → Wrote l i vs p m → Wrote m p us q n → i + (length vs + length us) ≤ length l → Wrote l i (vs ++ us) q n
wrote_then l i vs us p q m n a b h =
    record {
      place = rw length-append (omega (arith, a.place, b.place));
      bytes = b.bytes ∙ rw (a.place, a.bytes) (over-ahead l i vs us (omega arith));
    }

-- the bytes of steps
pub bytes-append : (r s : List Step) → bytes (r ++ s) ≡ bytes r ++ bytes s
unfolding bytes
bytes-append [] s = refl
bytes-append (x ∷ r) s = rw (bytes-append r s, append_assoc)

pub bytes_one : (s : Step) → bytes (s ∷ []) ≡ record_of s
unfolding bytes
bytes_one s = append-nil (record_of s)
