-- When a file is good and when it is refused, in the words of specs/Good, and what the whole-file call says of it: the same. Assumes nothing.
use Prim.Native.Nat.{ℕ, zero, suc, ◌+◌, ◌≤◌, ◌<◌}
use native.Mathlib.Omega.{arith}
use native.Mathlib.Nat.{zero-add}
use mathlib.Core.Path.{◌≡◌, refl, sym, ap, ◌∙◌}
use mathlib.Core.Bool.{Bool, true, false, cond}
use mathlib.Core.List.{List, [], ◌∷◌, ◌++◌, append_assoc, append-nil}
use lib.Dec.{eqb, ltb}
use lib.ListN.{length, get_or, take}
use lib.Seq.{take-length, get_or-drop}
use borrow.Author.Tests.{ne_eqb, lt-ltb, le-ltb, eqb-true, ltb-true, ltb-false}
use Rattle.std.specs.Prelude.{Some, None, Ok, Err}
use Rattle.records.specs.declared.Step.{Step}
use Rattle.records.specs.declared.Step.TheVariants.{Enter, Leave, Error}
use Rattle.records.specs.Record.{record_of, bytes, Sound as SoundStep, Sounds}
use Rattle.laws.proofs.Tests.{by-test}
use Rattle.records.proofs.Writes.{bytes-append}
use Rattle.stepfile.specs.Front.{Found}
use Rattle.stepfile.specs.declared.Fault.TheVariants as F
use Rattle.stepfile.specs.Front.{two, step_of, front, behind}
use Rattle.stepfile.specs.Answer.{Numbers, says, refuses}
use Rattle.stepfile.specs.Nesting.{nest}
use Rattle.stepfile.specs.File.{ended, file_read}
use Rattle.stepfile.specs.OneByOne.{Walked, walked_in, walked, judged}
use Rattle.stepfile.specs.Good.{Bytes, enters, leaves, Good, Upto, Unsound, Breaks, Breaks.again, Breaks.below, Breaks.none, Breaks.inside, Verdict, Verdict.good, Verdict.cut, Verdict.unsound, Verdict.unnested}
use Rattle.stepfile.proofs.Fronts.{a-token, an-expected, no_record}
use Rattle.stepfile.proofs.Inverse.{behind-step, record-there}
use Rattle.stepfile.proofs.Nestings.{ended-none, ended-closed, ended-open}
use Rattle.stepfile.proofs.Walks.{shorter, agree, read_back, walked-first}
use Rattle.stepfile.proofs.Depths.{depth, enters-append, leaves-append, Reaches, proceeds-reaches, reaches-proceeds, judged-past, Ends, Ends.over, Ends.broke, ends, Why, Why.late, Why.low, why, breaks-again, breaks-below}

-- ---- the front of a file, by what it is

pub data View (bs : List ℕ) : Found → Type 0 where
  empty : bs ≡ [] → View bs (Ok None)
  short : 0 < length bs → length bs < 4 + two bs 0 → View bs (Err F.Cut)
  whole : 0 < length bs → 4 + two bs 0 ≤ length bs → View bs (step_of (two bs 2) (two bs 0) bs)

pub view : (bs : List ℕ) → View bs (front bs)
unfolding front
view [] = empty refl
view (x ∷ bs) =
    by-test (View (x ∷ bs)) (eqb (length (x ∷ bs)) 0) _ _ (λ e. absurd (omega (arith, eqb-true (length (x ∷ bs)) 0 e))) (λ _.
    by-test (View (x ∷ bs)) (ltb (length (x ∷ bs)) (4 + two (x ∷ bs) 0)) _ _
    (λ l. short (omega arith) (ltb-true (length (x ∷ bs)) (4 + two (x ∷ bs) 0) l))
    (λ l. whole (omega arith) (ltb-false (length (x ∷ bs)) (4 + two (x ∷ bs) 0) l)))

pub front_cut : (bs : List ℕ) → 0 < length bs → length bs < 4 + two bs 0 → front bs ≡ Err F.Cut
unfolding front
front_cut bs h l = rw (ne_eqb (length bs) 0 (λ z. omega arith), lt-ltb (length bs) (4 + two bs 0) l)

pub front-whole : (bs : List ℕ) → 0 < length bs → 4 + two bs 0 ≤ length bs → front bs ≡ step_of (two bs 2) (two bs 0) bs
unfolding front
front-whole bs h l = rw (ne_eqb (length bs) 0 (λ z. omega arith), le-ltb (length bs) (4 + two bs 0) l)

pub sound-not : (s : Step) → Ok (Some s) ≡ Err F.Unsound → ⊥
sound-not s e = let z : ◌≡◌ {A = ℕ} 0 1 = cc in omega arith

-- ---- steps and their bytes, in two parts

sounds-split : (us vs : List Step) → Sounds (us ++ vs) → Sounds us × Sounds vs
sounds-split [] vs h = (tt, h)
sounds-split (u ∷ us) vs h = let q = sounds-split us vs h.1 in ((h.0, q.0), q.1)

pub sounds-join : (us vs : List Step) → Sounds us → Sounds vs → Sounds (us ++ vs)
sounds-join [] vs h k = k
sounds-join (u ∷ us) vs h k = (h.0, sounds-join us vs h.1 k)

bytes-cons : (s : Step) (ss : List Step) → bytes (s ∷ ss) ≡ record_of s ++ bytes ss
unfolding bytes
bytes-cons s ss = refl

-- ---- what a file reads as, step by step, is the file

bytes-behind : (bs : List ℕ) (s : Step) → Bytes bs → front bs ≡ Ok (Some s) → Bytes (behind bs)
bytes-behind bs s h e i = rw (behind-step bs s e, get_or-drop) (h (length (record_of s) + i))

pub record Told (bs : List ℕ) (w : Walked) : Type 0 where
  pub sound : Sounds w.steps
  pub file : bs ≡ bytes w.steps ++ w.rest
  pub last : (s : Step) → front w.rest ≡ Ok (Some s) → ⊥

pub tells : (n : ℕ) (bs : List ℕ) → length bs ≤ n → Bytes bs → Told bs (walked_in n bs)
unfolding walked_in bytes
tells zero [] h b = record { sound = tt; file = refl; last = ended-there }
  where
    ended-there : (s : Step) → front [] ≡ Ok (Some s) → ⊥
    ended-there s e = by (front []) (view []) s e
      where
        by : (f : Found) → View [] f → (s : Step) → f ≡ Ok (Some s) → ⊥
        by f (empty q) s e = let z : ◌≡◌ {A = ℕ} 0 1 = cc in omega arith
        by f (short h l) s e = omega arith
        by f (whole h l) s e = omega arith
tells zero (x ∷ bs) h b = absurd (omega arith)
tells (suc n) bs h b = on (λ s e. tells n (behind bs) (shorter bs s n e h) (bytes-behind bs s b e)) (front bs) refl
  where
    none : (f : Found) → front bs ≡ f → ((s : Step) → f ≡ Ok (Some s) → ⊥) → Told bs (record { steps = []; rest = bs })
    none f e not = record { sound = tt; file = refl; last = λ s q. not s (sym e ∙ q) }

    on : ((s : Step) → front bs ≡ Ok (Some s) → Told (behind bs) (walked_in n (behind bs))) → (f : Found) → front bs ≡ f → Told bs (walked_in (suc n) bs)
    on ih (Ok (Some s)) e =
        let t = ih s e in
        let r = record-there bs b s e in
        rw e (record { sound = (r.1, t.sound); file = r.0 ∙ ap (λ (l : List ℕ). record_of s ++ l) t.file ∙ sym (append_assoc (record_of s) (bytes (walked_in n (behind bs)).steps) (walked_in n (behind bs)).rest); last = t.last })
    on ih (Ok None) e = rw e (none (Ok None) e (λ s q. let z : ◌≡◌ {A = ℕ} 0 1 = cc in omega arith))
    on ih (Err F.Cut) e = rw e (none (Err F.Cut) e (λ s q. let z : ◌≡◌ {A = ℕ} 0 1 = cc in omega arith))
    on ih (Err F.Unsound) e = rw e (none (Err F.Unsound) e (λ s q. let z : ◌≡◌ {A = ℕ} 0 1 = cc in omega arith))

-- ---- from what is said to what holds

-- steps that come to a depth are a file up to the place behind them
abbrev upto : (bs : List ℕ) (ss : List Step) (rest : List ℕ) (d : ℕ) → depth 0 0 ss ≡ Some d → Sounds ss → bs ≡ bytes ss ++ rest → Upto bs (length (bytes ss))
upto bs ss rest d e h f =
    let q = (reaches-proceeds ss 0 0 d e).0 in
    record { steps = ss; rest = rest; sound = h; file = f; place = refl; begins = λ i z l. omega (arith, q.begins i (omega arith) l); never = λ i l. omega (arith, q.never i l) }

-- a record whose kind, length, count or code is none that is sound
unsound-at : (bs : List ℕ) (p : ℕ) (u : Upto bs p) → 0 < length u.rest → 4 + two u.rest 0 ≤ length u.rest
    → step_of (two u.rest 2) (two u.rest 0) u.rest ≡ Err F.Unsound → Unsound bs p
unfolding step_of
unsound-at bs p u h l e =
    record {
      upto = u;
      some = h;
      whole = l;
      no-enter = λ k z. sound-not (Enter (two u.rest 4)) (sym (rw (k, z)) ∙ e);
      no-leave = λ k z. sound-not Leave (sym (rw (k, z)) ∙ e);
      no-token = λ k z m n. sound-not _ (sym (ap (λ (x : ℕ). step_of x (two u.rest 0) u.rest) k ∙ ap (λ (x : ℕ). step_of 3 x u.rest) z ∙ a-token u.rest (get_or u.rest 6 0) refl (λ y. omega arith) n) ∙ e);
      no-error = λ k z. sound-not (Error (two u.rest 4) (two u.rest 6)) (sym (rw (k, z)) ∙ e);
      no-expected = λ k z o. sound-not _ (sym (ap (λ (x : ℕ). step_of x (two u.rest 0) u.rest) k ∙ ap (λ (x : ℕ). step_of 5 x u.rest) z ∙ an-expected u.rest o) ∙ e);
    }

-- a whole record is a step or unsound
pub either : (P : Found → Type 0) (kind size : ℕ) (bs : List ℕ) → ((s : Step) → P (Ok (Some s))) → P (Err F.Unsound) → P (step_of kind size bs)
unfolding step_of
either P kind size bs a b =
    by-test P (eqb kind 1) _ _ (λ _. one 2 _) (λ _.
    by-test P (eqb kind 2) _ _ (λ _. one 0 _) (λ _.
    by-test P (eqb kind 3) _ _ (λ _. by-test P (eqb size 3) _ _ (λ _. by-test P (eqb (get_or bs 6 0) 0) _ _ (λ _. b) (λ _. by-test P (ltb 3 (get_or bs 6 0)) _ _ (λ _. b) (λ _. a _))) (λ _. b)) (λ _.
    by-test P (eqb kind 4) _ _ (λ _. one 4 _) (λ _.
    by-test P (eqb kind 5) _ _ (λ _. by-test P (eqb size 6) _ _ (λ _. by-test P (eqb (two bs 4) 1) _ _ (λ _. a _) (λ _. b)) (λ _. b)) (λ _. b)))))
  where
    one : (n : ℕ) (s : Step) → P (cond (eqb size n) (Ok (Some s)) (Err F.Unsound))
    one n s = by-test P (eqb size n) _ _ (λ _. a s) (λ _. b)

module _ (bs : List ℕ) (ss : List Step) (rest : List ℕ) (sounds : Sounds ss) (file : bs ≡ bytes ss ++ rest) where
  -- where the steps end: the end of the file, or a record that is cut or unsound
  over-verdict : (f : Found) (d : ℕ) → depth 0 0 ss ≡ Some d → View rest f → ((s : Step) → f ≡ Ok (Some s) → ⊥) → Verdict bs (judged (length (bytes ss)) (length ss) d [] f)
  unfolding judged
  over-verdict f d e (short h l) last = cut (length (bytes ss)) (record { upto = upto bs ss rest d e sounds file; some = h; past = l })
  over-verdict f d e (empty q) last = at-end ss sounds (file ∙ rw (q, append-nil)) d e
    where
      at-end : (ts : List Step) → Sounds ts → bs ≡ bytes ts → (d : ℕ) → depth 0 0 ts ≡ Some d → Verdict bs (ended (length (bytes ts)) (length ts) d)
      at-end [] h g d e = rw (ended-none (length (bytes [])) 0 d refl) (unnested _ (record { upto = upto bs [] [] d e h (g ∙ sym (append-nil (bytes []))); breaks = none refl refl }))
      at-end (t ∷ ts) h g zero e =
          let c = reaches-proceeds (t ∷ ts) 0 0 0 e in
          let u = upto bs (t ∷ ts) [] 0 e h (g ∙ sym (append-nil (bytes (t ∷ ts)))) in
          rw (ended-closed (length (bytes (t ∷ ts))) (length (t ∷ ts)) 0 (λ z. omega arith) refl, ← ap length g)
          (good (record { steps = t ∷ ts; sound = h; file = g; some = omega arith; zero = omega (arith, c.1); above = u.begins }))
      at-end (t ∷ ts) h g (suc d) e =
          let c = reaches-proceeds (t ∷ ts) 0 0 (suc d) e in
          rw (ended-open (length (bytes (t ∷ ts))) (length (t ∷ ts)) (suc d) (λ z. omega arith))
          (unnested _ (record { upto = upto bs (t ∷ ts) [] (suc d) e h (g ∙ sym (append-nil (bytes (t ∷ ts)))); breaks = inside refl (omega (arith, c.1)) }))
  over-verdict f d e (whole h l) last =
      either (λ f. step_of (two rest 2) (two rest 0) rest ≡ f → Verdict bs (judged (length (bytes ss)) (length ss) d [] f)) (two rest 2) (two rest 0) rest
      (λ s q. absurd (last s q))
      (λ q. unsound (length (bytes ss)) (unsound-at bs (length (bytes ss)) (upto bs ss rest d e sounds file) h l q))
      refl

  -- a sound record that breaks the nesting
  broke-verdict : (s : Step) (more : List ℕ) (d : ℕ) → SoundStep s → rest ≡ record_of s ++ more → depth 0 0 ss ≡ Some d → nest (length ss) d s ≡ None → Verdict bs (refuses 13 (length (bytes ss)))
  broke-verdict s more d h g e n =
      let c = reaches-proceeds ss 0 0 d e in
      unnested (length (bytes ss)) (record { upto = upto bs ss rest d e sounds file; breaks = by (why (length ss) d s n) c.1 })
    where
      by : Why (length ss) d s → d + leaves ss ≡ 0 + enters ss → Breaks ss rest
      by (late z o) c = again s more h g z (omega arith)
      by (low l) c = below s more h g (omega (arith, enters-append ss (s ∷ []), leaves-append ss (s ∷ [])))

-- Every file of bytes is told by what holds of it.
pub verdict : (bs : List ℕ) → Bytes bs → Verdict bs (file_read bs)
verdict bs b = rw (agree (length bs) bs 0 0 0 (omega arith)) (on (ends (walked bs).steps 0 0 0 (front (walked bs).rest)))
  where
    t : Told bs (walked bs)
    t = tells (length bs) bs (omega arith) b

    on : Ends 0 0 0 (walked bs).steps (front (walked bs).rest) → Verdict bs (judged 0 0 0 (walked bs).steps (front (walked bs).rest))
    on (over d e j) =
        rw (j, zero-add (length (bytes (walked bs).steps)), zero-add (length (walked bs).steps))
        (over-verdict bs (walked bs).steps (walked bs).rest t.sound t.file (front (walked bs).rest) d e (view (walked bs).rest) t.last)
    on (broke us s ts d g e n j) =
        let h = sounds-split us (s ∷ ts) (rw g at t.sound) in
        let f : bs ≡ bytes us ++ (record_of s ++ (bytes ts ++ (walked bs).rest)) =
        t.file ∙ rw (g, bytes-append us (s ∷ ts), bytes-cons s ts) (append_assoc (bytes us) (record_of s ++ bytes ts) (walked bs).rest ∙ rw append_assoc) in
        rw (j, zero-add) (broke-verdict bs us (record_of s ++ (bytes ts ++ (walked bs).rest)) h.0 f s (bytes ts ++ (walked bs).rest) d h.1.0 refl e (rw zero-add at n))

-- ---- from what holds to what is said

-- a file up to a place is read from there, at the depth that its steps come to
proceeds : (bs : List ℕ) (p : ℕ) (u : Upto bs p) → Reaches 0 0 u.steps
proceeds bs p u = proceeds-reaches u.steps 0 0 (record { begins = λ i z l. omega (arith, u.begins i (omega arith) l); never = λ i l. omega (arith, u.never i l) })

from-there : (bs : List ℕ) (p : ℕ) (u : Upto bs p) (d : ℕ) → depth 0 0 u.steps ≡ Some d
    → file_read bs ≡ judged p (length u.steps) d (walked u.rest).steps (front (walked u.rest).rest)
from-there bs p u d e =
    agree (length bs) bs 0 0 0 (omega arith)
    ∙ rw (u.file, read_back (length (bytes u.steps ++ u.rest)) u.steps u.rest u.sound (omega arith), u.place)
    (judged-past u.steps (walked u.rest).steps 0 0 0 d (front (walked u.rest).rest) e
    ∙ rw (zero-add (length (bytes u.steps)), zero-add (length u.steps)))

-- where no step stands nothing is read
pub stops : (n : ℕ) (bs : List ℕ) (f : Found) → front bs ≡ f → ((s : Step) → f ≡ Ok (Some s) → ⊥) → walked_in n bs ≡ record { steps = []; rest = bs }
unfolding walked_in
stops zero bs f e h = refl
stops (suc n) bs (Ok (Some s)) e h = absurd (h s refl)
stops (suc n) bs (Ok None) e h = rw e
stops (suc n) bs (Err F.Cut) e h = rw e
stops (suc n) bs (Err F.Unsound) e h = rw e

-- a record that breaks the nesting where it stands
said-broke : (bs : List ℕ) (p : ℕ) (u : Upto bs p) (d : ℕ) (s : Step) (more : List ℕ) → depth 0 0 u.steps ≡ Some d → SoundStep s → u.rest ≡ record_of s ++ more
    → nest (length u.steps) d s ≡ None → file_read bs ≡ refuses 13 p
unfolding judged
said-broke bs p u d s more e h g n = from-there bs p u d e ∙ rw (g, walked-first s more (h, tt), n)

-- at the end of the file
said-end : (bs : List ℕ) (p : ℕ) (u : Upto bs p) (d : ℕ) → depth 0 0 u.steps ≡ Some d → u.rest ≡ [] → file_read bs ≡ ended p (length u.steps) d
unfolding judged walked_in front
said-end bs p u d e g = from-there bs p u d e ∙ rw g

-- a good file, up to its end, which is at depth zero
abbrev all : (bs : List ℕ) (g : Good bs) → Upto bs (length (bytes g.steps))
unfolding enters leaves
all bs g = record { steps = g.steps; rest = []; sound = g.sound; file = g.file ∙ sym (append-nil (bytes g.steps)); place = refl; begins = g.above; never = never }
  where
    never : (i : ℕ) → i ≤ length g.steps → leaves (take i g.steps) ≤ enters (take i g.steps)
    never zero l = omega arith
    never (suc i) l = on (ltb (suc i) (length g.steps)) refl
      where
        on : (t : Bool) → ltb (suc i) (length g.steps) ≡ t → leaves (take (suc i) g.steps) ≤ enters (take (suc i) g.steps)
        on true e = omega (arith, g.above (suc i) (omega arith) (ltb-true (suc i) (length g.steps) e))
        on false e =
            let n : suc i ≡ length g.steps = omega (arith, ltb-false (suc i) (length g.steps) e) in
            rw (n, take-length) (omega (arith, g.zero))

pub good-depth : (bs : List ℕ) (g : Good bs) → depth 0 0 g.steps ≡ Some 0
unfolding all
good-depth bs g =
    let r : Reaches 0 0 g.steps = proceeds bs (length (bytes g.steps)) (all bs g) in
    let z : r.past ≡ 0 = omega (arith, r.count, g.zero) in
    r.opens ∙ ap Some z

gives-good : (bs : List ℕ) (g : Good bs) → file_read bs ≡ says 0 (length bs) (length g.steps)
unfolding all
gives-good bs g =
    said-end bs (length (bytes g.steps)) (all bs g) 0 (good-depth bs g) refl
    ∙ ended-closed (length (bytes g.steps)) (length g.steps) 0 (λ e. omega (arith, g.some)) refl
    ∙ rw (ap length g.file)

-- What holds of a file is what the whole-file call says.
pub gives : (bs : List ℕ) (n : Numbers) → Verdict bs n → file_read bs ≡ n
unfolding judged
gives bs n (good g) = gives-good bs g
gives bs n (cut p c) =
    let u = c.upto in
    let r = proceeds bs p u in
    let e = front_cut u.rest c.some c.past in
    from-there bs p u r.past r.opens ∙ rw (stops (length u.rest) u.rest (Err F.Cut) e (λ s q. let z : ◌≡◌ {A = ℕ} 0 1 = cc in omega arith), e)
gives bs n (unsound p c) =
    let u = c.upto in
    let r = proceeds bs p u in
    let e = front-whole u.rest c.some c.whole ∙ no_record u.rest (two u.rest 2) (two u.rest 0) c.no-enter c.no-leave c.no-token c.no-error c.no-expected in
    from-there bs p u r.past r.opens ∙ rw (stops (length u.rest) u.rest (Err F.Unsound) e (λ s q. let z : ◌≡◌ {A = ℕ} 0 1 = cc in omega arith), e)
gives bs n (unnested p c) = by c.upto (proceeds bs p c.upto) c.breaks
  where
    by : (u : Upto bs p) → Reaches 0 0 u.steps → Breaks u.steps u.rest → file_read bs ≡ refuses 13 p
    by u r (again s more h g z q) =
        let o : r.past ≡ 0 = omega (arith, r.count) in
        said-broke bs p u r.past s more r.opens h g (rw o (breaks-again (length u.steps) s z))
    by u r (below s more h g l) =
        said-broke bs p u r.past s more r.opens h g
        (breaks-below (length u.steps) r.past s (omega (arith, r.count, enters-append u.steps (s ∷ []), leaves-append u.steps (s ∷ []))))
    by u r (none e g) = said-end bs p u r.past r.opens g ∙ ended-none p (length u.steps) r.past (ap length e)
    by u r (inside g l) = said-end bs p u r.past r.opens g ∙ ended-open p (length u.steps) r.past (λ z. omega (arith, r.count))
