-- What is proved of reading, beside the contracts. docs/PROOFS.md has a sentence for each. Assumes nothing.
use Prim.Native.Nat.{ℕ, ◌+◌, ◌<◌}
use native.Mathlib.Omega.{arith}
use mathlib.Core.Path.{◌≡◌, refl, sym, ap, ◌∙◌, subst}
use mathlib.Core.Bool.{Bool, true, false, cond}
use mathlib.Core.List.{List, [], ◌∷◌, ◌++◌}
use lib.Dec.{eqb}
use lib.ListN.{length, take, length-append}
use lib.Seq.{take-append_seam, drop-append_seam}
use Rattle.std.specs.Prelude.{Some, Ok, Err, Result}
use Rattle.records.specs.declared.Step.{Step}
use Rattle.records.specs.Record.{record_of, bytes, Sound as SoundStep, Sounds}
use Rattle.stepfile.specs.Front.{Found}
use Rattle.stepfile.specs.declared.Fault.TheVariants as F
use Rattle.stepfile.specs.declared.Counts.{Counts}
use Rattle.stepfile.specs.declared.Refusal.{Refusal}
use Rattle.stepfile.specs.declared.Refusal.TheVariants as R
use Rattle.stepfile.specs.Front.{two, front, behind}
use Rattle.stepfile.specs.Answer.{Numbers, says, refuses, numbers}
use Rattle.stepfile.specs.Nesting.{nests}
use Rattle.stepfile.specs.File.{file_read}
use Rattle.stepfile.specs.OneByOne.{Walked, walked, judged}
use Rattle.stepfile.specs.Good.{Bytes, Stands, Stands.nothing, Stands.past, Stands.step, Stands.other, Good, Verdict, Verdict.good, holds}
use Rattle.stepfile.proofs.Inverse.{read-record, behind-step, record-there}
use Rattle.stepfile.proofs.Nestings.{ended-good}
use Rattle.stepfile.proofs.Walks.{agree, reads-steps}
use Rattle.stepfile.proofs.Depths.{Ends, Ends.over, Ends.broke, ends, reaches-proceeds, nests-depth, depth-nests}
use Rattle.stepfile.proofs.Conditions.{View, View.empty, View.short, View.whole, view, front_cut, front-whole, either, sound-not, tells, good-depth, verdict, gives}
use Rattle.stepfile.proofs.Cuts.{cut-steps}

-- ---- one answer

-- two answers with the same number, place and records are the same, and so two answers that meet the contract of `read_file`
answer-of : Numbers → Result Counts Refusal
answer-of n =
    cond (eqb n.code 0) (Ok (record { bytes = n.place; records = n.records }))
    (cond (eqb n.code 11) (Err (R.Cut n.place)) (cond (eqb n.code 12) (Err (R.Unsound n.place)) (Err (R.Unnested n.place))))

answered : (a : Result Counts Refusal) → answer-of (numbers a) ≡ a
unfolding answer-of
answered (Ok n) = refl
answered (Err (R.Cut p)) = refl
answered (Err (R.Unsound p)) = refl
answered (Err (R.Unnested p)) = refl

pub file-unique : (bs : List ℕ) (a b : Result Counts Refusal) → numbers a ≡ file_read bs → numbers b ≡ file_read bs → a ≡ b
file-unique bs a b p q = sym (answered a) ∙ ap answer-of (p ∙ sym q) ∙ answered b

-- two fronts and rests that meet the contract of `read_step` are the same
pub step-unique : (bs : List ℕ) (f g : Found) (r t : List ℕ) → (f ≡ front bs) × (r ≡ behind bs) → (g ≡ front bs) × (t ≡ behind bs) → (f ≡ g) × (r ≡ t)
step-unique bs f g r t p q = (p.0 ∙ sym q.0, p.1 ∙ sym q.1)

-- ---- exactly when

-- A number is given, with its place and the records, exactly when what it says holds.
pub given : (bs : List ℕ) (n : Numbers) → Bytes bs → file_read bs ≡ n → Verdict bs n
given bs n b e = subst (Verdict bs) e (verdict bs b)

-- (`gives` of Conditions is the other way round.)

-- The same of one step: the front is told by what stands there, and what stands there is told.
module _ (bs : List ℕ) (b : Bytes bs) where
  pub front-stands : Stands bs (front bs)
  front-stands = on (front bs) refl (view bs)
    where
      on : (f : Found) → front bs ≡ f → View bs f → Stands bs f
      on f e (empty q) = nothing q
      on f e (short h l) = past h l
      on f e (whole h l) =
          either (λ g. front bs ≡ g → Stands bs g) (two bs 2) (two bs 0) bs
          (λ s q. let r = record-there bs b s q in step s (behind bs) r.1 r.0)
          (λ q. other h l (λ s more d g. sound-not s (sym (rw g (read-record s more d)) ∙ q)))
          e

  pub stands-front : (f : Found) → Stands bs f → front bs ≡ f
  unfolding front
  stands-front f (nothing q) = rw q
  stands-front f (past h l) = front_cut bs h l
  stands-front f (step s more d q) = rw q (read-record s more d)
  stands-front f (other h l n) =
      front-whole bs h l
      ∙ either (λ g. front bs ≡ g → g ≡ Err F.Unsound) (two bs 2) (two bs 0) bs
      (λ s q. let r = record-there bs b s q in absurd (n s (behind bs) r.1 r.0))
      (λ q. refl)
      (front-whole bs h l)

-- ---- reading is the inverse of writing

-- a record that is written, and anything behind it, reads as that step and that rest
pub written-reads : (s : Step) (more : List ℕ) → SoundStep s → (front (record_of s ++ more) ≡ Ok (Some s)) × (behind (record_of s ++ more) ≡ more)
written-reads s more h =
    let e = read-record s more h in
    (e, behind-step (record_of s ++ more) s e ∙ drop-append_seam (record_of s) more)

-- what reads as a step is its record, and the step is sound
pub reads-written : (bs : List ℕ) (s : Step) → Bytes bs → front bs ≡ Ok (Some s) → (bs ≡ record_of s ++ behind bs) × SoundStep s
reads-written bs s b e = record-there bs b s e

-- every file is the writing of the steps that it reads as, and what is left; so a file that is read to its end is the writing of its steps
pub file-written : (bs : List ℕ) → Bytes bs → (bs ≡ bytes (walked bs).steps ++ (walked bs).rest) × Sounds (walked bs).steps
file-written bs b = let t = tells (length bs) bs (omega arith) b in (t.file, t.sound)

-- no two files read alike
pub alike : (bs cs : List ℕ) → Bytes bs → Bytes cs → walked bs ≡ walked cs → bs ≡ cs
alike bs cs b c e = (file-written bs b).0 ∙ ap (λ (w : Walked). bytes w.steps ++ w.rest) e ∙ sym (file-written cs c).0

-- what is written for sound steps reads back as those steps, and nothing is left
pub steps-read : (ss : List Step) → Sounds ss → walked (bytes ss) ≡ record { steps = ss; rest = [] }
steps-read ss h = reads-steps ss h

-- ---- the whole file and its steps

-- The whole-file call says what the steps one by one come to, on every file.
pub one_by_one : (bs : List ℕ) → file_read bs ≡ judged 0 0 0 (walked bs).steps (front (walked bs).rest)
one_by_one bs = agree (length bs) bs 0 0 0 (omega arith)

-- The steps of a good file nest, and a file of sound steps that nest is good.
pub good-nests : (bs : List ℕ) (g : Good bs) → nests 0 0 g.steps ≡ true
good-nests bs g = depth-nests g.steps 0 0 (good-depth bs g) (omega (arith, g.some))

pub nests-good : (ss : List Step) → Sounds ss → nests 0 0 ss ≡ true → Good (bytes ss)
nests-good ss h e =
    let d = nests-depth ss 0 0 e in
    let p = reaches-proceeds ss 0 0 0 d.0 in
    record { steps = ss; sound = h; file = refl; some = omega (arith, d.1); zero = omega (arith, p.1); above = λ i z l. omega (arith, p.0.begins i (omega arith) l) }

-- So of what is written for sound steps the call says done exactly where they nest.
pub nested-done : (ss : List Step) → Sounds ss → nests 0 0 ss ≡ true → file_read (bytes ss) ≡ says 0 (length (bytes ss)) (length ss)
unfolding nests-good
nested-done ss h e = gives (bytes ss) _ (good (nests-good ss h e))

pub done-nested : (ss : List Step) → Sounds ss → (file_read (bytes ss)).code ≡ 0 → nests 0 0 ss ≡ true
unfolding judged front
done-nested ss h e =
    let q : file_read (bytes ss) ≡ judged 0 0 0 ss (front []) = one_by_one (bytes ss) ∙ rw (reads-steps ss h) in
    on (ends ss 0 0 0 (front [])) (ap (λ (n : Numbers). n.code) (sym q) ∙ e)
  where
    on : Ends 0 0 0 ss (front []) → (judged 0 0 0 ss (front [])).code ≡ 0 → nests 0 0 ss ≡ true
    on (over d q j) z =
        let c = ended-good (0 + length (bytes ss)) (0 + length ss) d (ap (λ (n : Numbers). n.code) (sym j) ∙ z) in
        depth-nests ss 0 0 (q ∙ ap Some c.1) c.0
    on (broke us s ts d g q n j) z = absurd (omega (arith, ap (λ (n : Numbers). n.code) (sym j) ∙ z))

-- ---- cuts

-- A good file cut anywhere is refused: with 13 at the cut where a record begins there, else with 11 where the cut record begins.
pub cut-refused : (bs : List ℕ) (g : Good bs) (n : ℕ) → n < length bs
    → file_read (take n bs) ≡ refuses (cond (eqb (holds g.steps n) n) 13 11) (holds g.steps n)
cut-refused bs g n l = rw g.file (cut-steps g.steps n g.sound (good-nests bs g) (rw g.file at l))

-- So no good file begins another.
pub begins-none : (bs more : List ℕ) → Good bs → Good (bs ++ more) → more ≡ []
begins-none bs [] g h = refl
begins-none bs (x ∷ more) g h =
    let l : length bs < length (bs ++ x ∷ more) = omega (arith, length-append bs (x ∷ more)) in
    let e = sym (gives bs _ (good g)) ∙ (rw (take-append_seam bs (x ∷ more)) at (cut-refused (bs ++ x ∷ more) h (length bs) l)) in
    absurd (refused (eqb (holds h.steps (length bs)) (length bs)) (ap (λ (n : Numbers). n.code) e))
  where
    refused : (t : Bool) → ◌≡◌ {A = ℕ} 0 (cond t 13 11) → ⊥
    refused true e = omega arith
    refused false e = omega arith
