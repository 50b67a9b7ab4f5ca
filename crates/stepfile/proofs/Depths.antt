-- The depth that steps come to, by counting enters and leaves, and what a walk over them says. Assumes nothing.
use Prim.Native.Nat.{ℕ, zero, suc, ◌+◌, ◌≤◌, ◌<◌}
use native.Mathlib.Omega.{arith}
use native.Mathlib.Nat.{add-zero}
use mathlib.Core.Path.{◌≡◌, refl, sym, ap, ◌∙◌}
use mathlib.Core.Bool.{true, false}
use mathlib.Core.List.{List, [], ◌∷◌, ◌++◌}
use lib.ListN.{length, take, length-append}
use Rattle.std.specs.Prelude.{Option, Some, None}
use Rattle.records.specs.declared.Step.{Step}
use Rattle.records.specs.declared.Step.TheVariants.{Enter, Leave, Token, Error, Expected}
use Rattle.records.specs.Record.{record_of, bytes}
use Rattle.stepfile.specs.Front.{Found}
use Rattle.stepfile.specs.Answer.{refuses}
use Rattle.stepfile.specs.Nesting.{after, nest, on_nodes, nests}
use Rattle.stepfile.specs.OneByOne.{judged}
use Rattle.stepfile.specs.Good.{enters, leaves}

-- the nodes open past some steps
pub depth : ℕ → ℕ → List Step → Option ℕ
depth r o [] = Some o
depth r o (s ∷ ss) = on_nodes (nest r o s) (λ p. depth (suc r) p ss) None

-- what one step enters and leaves
abbrev enter : Step → ℕ
enter s = enters (s ∷ [])

abbrev leave : Step → ℕ
leave s = leaves (s ∷ [])

enters-cons : (s : Step) (ss : List Step) → enters (s ∷ ss) ≡ enter s + enters ss
unfolding enters
enters-cons (Enter k) ss = omega arith
enters-cons Leave ss = omega arith
enters-cons (Token k n) ss = omega arith
enters-cons (Error c x) ss = omega arith
enters-cons (Expected k f) ss = omega arith

leaves-cons : (s : Step) (ss : List Step) → leaves (s ∷ ss) ≡ leave s + leaves ss
unfolding leaves
leaves-cons (Enter k) ss = omega arith
leaves-cons Leave ss = omega arith
leaves-cons (Token k n) ss = omega arith
leaves-cons (Error c x) ss = omega arith
leaves-cons (Expected k f) ss = omega arith

pub enters-append : (ss ts : List Step) → enters (ss ++ ts) ≡ enters ss + enters ts
unfolding enters
enters-append [] ts = omega arith
enters-append (s ∷ ss) ts = omega (arith, enters-cons s (ss ++ ts), enters-cons s ss, enters-append ss ts)

pub leaves-append : (ss ts : List Step) → leaves (ss ++ ts) ≡ leaves ss + leaves ts
unfolding leaves
leaves-append [] ts = omega arith
leaves-append (s ∷ ss) ts = omega (arith, leaves-cons s (ss ++ ts), leaves-cons s ss, leaves-append ss ts)

-- ---- one step

-- a step passes where it leaves no node that is not open
pub record Passes (o : ℕ) (s : Step) : Type 0 where
  pub past : ℕ
  pub opens : after o s ≡ Some past
  pub count : past + leave s ≡ o + enter s

passes : (o : ℕ) (s : Step) → leave s ≤ o + enter s → Passes o s
unfolding enters leaves
passes o (Enter k) h = record { past = suc o; opens = refl; count = omega arith }
passes zero Leave h = absurd (omega arith)
passes (suc o) Leave h = record { past = o; opens = refl; count = omega arith }
passes o (Token k n) h = record { past = o; opens = refl; count = omega arith }
passes o (Error c x) h = record { past = o; opens = refl; count = omega arith }
passes o (Expected k f) h = record { past = o; opens = refl; count = omega arith }

same-open : (m p : ℕ) → Some m ≡ Some p → m ≡ p
same-open m p e = cc

not-open : (p : ℕ) → None ≡ Some p → ⊥
not-open p e = let z : ◌≡◌ {A = ℕ} 0 1 = cc in omega arith

counted : (o : ℕ) (s : Step) (p : ℕ) → after o s ≡ Some p → p + leave s ≡ o + enter s
unfolding enters leaves
counted o (Enter k) p e = omega (arith, same-open (suc o) p e)
counted zero Leave p e = absurd (not-open p e)
counted (suc o) Leave p e = omega (arith, same-open o p e)
counted o (Token k n) p e = omega (arith, same-open o p e)
counted o (Error c x) p e = omega (arith, same-open o p e)
counted o (Expected k f) p e = omega (arith, same-open o p e)

-- a record begins where it may when it is the first or a node is open
begins-after : (r o : ℕ) (s : Step) → (0 < r → 0 < o) → nest r o s ≡ after o s
unfolding nest
begins-after zero o s h = refl
begins-after (suc r) zero s h = absurd (omega (arith, h (omega arith)))
begins-after (suc r) (suc o) s h = refl

begun : (r o : ℕ) (s : Step) (p : ℕ) → nest r o s ≡ Some p → (0 < r → 0 < o) × (after o s ≡ Some p)
unfolding nest
begun zero o s p e = (λ h. omega arith, e)
begun (suc r) zero s p e = absurd (not-open p e)
begun (suc r) (suc o) s p e = (λ h. omega arith, e)

-- ---- many steps, from r records and o nodes open on

-- none begins at depth zero but the first, and none takes the depth below zero
pub record Proceeds (r o : ℕ) (ss : List Step) : Type 0 where
  pub begins : (i : ℕ) → 0 < r + i → i < length ss → leaves (take i ss) < o + enters (take i ss)
  pub never : (i : ℕ) → i ≤ length ss → leaves (take i ss) ≤ o + enters (take i ss)

pub record Reaches (r o : ℕ) (ss : List Step) : Type 0 where
  pub past : ℕ
  pub opens : depth r o ss ≡ Some past
  pub count : past + leaves ss ≡ o + enters ss

-- the first of them, and the others from there
proceeds-on : (r o : ℕ) (s : Step) (ss : List Step) (p : ℕ) → p + leave s ≡ o + enter s → Proceeds r o (s ∷ ss) → Proceeds (suc r) p ss
proceeds-on r o s ss p c h =
    record {
      begins = λ i z l. omega (arith, h.begins (suc i) (omega arith) (omega arith), leaves-cons s (take i ss), enters-cons s (take i ss));
      never = λ i l. omega (arith, h.never (suc i) (omega arith), leaves-cons s (take i ss), enters-cons s (take i ss));
    }

pub proceeds-reaches : (ss : List Step) (r o : ℕ) → Proceeds r o ss → Reaches r o ss
unfolding depth enters leaves
proceeds-reaches [] r o h = record { past = o; opens = refl; count = omega arith }
proceeds-reaches (s ∷ ss) r o h =
    let q = passes o s (h.never 1 (omega arith)) in
    let e : nest r o s ≡ Some q.past = begins-after r o s (λ z. omega (arith, h.begins 0 (omega arith) (omega arith))) ∙ q.opens in
    let t = proceeds-reaches ss (suc r) q.past (proceeds-on r o s ss q.past q.count h) in
    record { past = t.past; opens = rw e t.opens; count = omega (arith, t.count, q.count, leaves-cons s ss, enters-cons s ss) }

-- and back: steps that come to a depth proceed to it
on-open : {A : Type 0} (m : Option ℕ) (g : ℕ → Option ℕ) (d : ℕ) → on_nodes m g None ≡ Some d → ((p : ℕ) → m ≡ Some p → g p ≡ Some d → A) → A
on-open (Some p) g d e k = k p refl e
on-open None g d e k = absurd (not-open d e)

proceeds-cons : (r o : ℕ) (s : Step) (ss : List Step) (p : ℕ) → (0 < r → 0 < o) → p + leave s ≡ o + enter s → Proceeds (suc r) p ss → Proceeds r o (s ∷ ss)
unfolding enters leaves
proceeds-cons r o s ss p b c h = record { begins = begins; never = never }
  where
    begins : (i : ℕ) → 0 < r + i → i < length (s ∷ ss) → leaves (take i (s ∷ ss)) < o + enters (take i (s ∷ ss))
    begins zero z l = omega (arith, b (omega arith))
    begins (suc i) z l = omega (arith, h.begins i (omega arith) (omega arith), leaves-cons s (take i ss), enters-cons s (take i ss))

    never : (i : ℕ) → i ≤ length (s ∷ ss) → leaves (take i (s ∷ ss)) ≤ o + enters (take i (s ∷ ss))
    never zero l = omega arith
    never (suc i) l = omega (arith, h.never i (omega arith), leaves-cons s (take i ss), enters-cons s (take i ss))

pub reaches-proceeds : (ss : List Step) (r o d : ℕ) → depth r o ss ≡ Some d → Proceeds r o ss × (d + leaves ss ≡ o + enters ss)
unfolding depth enters leaves
reaches-proceeds [] r o d e = (record { begins = λ i z l. absurd (omega arith); never = none }, omega (arith, same-open o d e))
  where
    none : (i : ℕ) → i ≤ 0 → leaves (take i []) ≤ o + enters (take i [])
    none zero l = omega arith
    none (suc i) l = omega arith
reaches-proceeds (s ∷ ss) r o d e =
    on-open (nest r o s) (λ p. depth (suc r) p ss) d e
    (λ p q g.
    let b = begun r o s p q in
    let c = counted o s p b.1 in
    let t = reaches-proceeds ss (suc r) p d g in
    (proceeds-cons r o s ss p b.0 c t.0, omega (arith, t.1, c, leaves-cons s ss, enters-cons s ss)))

-- ---- what a walk over steps says

-- past steps that come to a depth it says what it says from there
pub judged-past : (ss ts : List Step) (at r o d : ℕ) (f : Found) → depth r o ss ≡ Some d
    → judged at r o (ss ++ ts) f ≡ judged (at + length (bytes ss)) (r + length ss) d ts f
unfolding depth judged bytes
judged-past [] ts at r o d f e = rw (same-open o d e, add-zero at, add-zero r)
judged-past (s ∷ ss) ts at r o d f e =
    on-open (nest r o s) (λ p. depth (suc r) p ss) d e
    (λ p q g.
    let a : at + length (record_of s ++ bytes ss) ≡ at + length (record_of s) + length (bytes ss) = omega (arith, length-append (record_of s) (bytes ss)) in
    let b : r + suc (length ss) ≡ suc r + length ss = omega arith in
    rw (q, a, b) (judged-past ss ts (at + length (record_of s)) (suc r) p d f g))

-- It ends where the steps do, at a depth; or at a step that breaks the nesting, past others that come to a depth.
pub data Ends (at r o : ℕ) (ss : List Step) (f : Found) : Type 0 where
  over : (d : ℕ) → depth r o ss ≡ Some d → judged at r o ss f ≡ judged (at + length (bytes ss)) (r + length ss) d [] f → Ends at r o ss f
  broke : (us : List Step) (s : Step) (ts : List Step) (d : ℕ) → ss ≡ us ++ s ∷ ts → depth r o us ≡ Some d → nest (r + length us) d s ≡ None
      → judged at r o ss f ≡ refuses 13 (at + length (bytes us)) → Ends at r o ss f

pub ends : (ss : List Step) (at r o : ℕ) (f : Found) → Ends at r o ss f
unfolding depth judged bytes
ends [] at r o f = over o refl (rw (add-zero at, add-zero r))
ends (s ∷ ss) at r o f = on (λ p. ends ss (at + length (record_of s)) (suc r) p f) (nest r o s) refl
  where
    further : (p : ℕ) → nest r o s ≡ Some p → Ends (at + length (record_of s)) (suc r) p ss f → Ends at r o (s ∷ ss) f
    further p q (over d e j) =
        let a : at + length (record_of s ++ bytes ss) ≡ at + length (record_of s) + length (bytes ss) = omega (arith, length-append (record_of s) (bytes ss)) in
        let b : r + suc (length ss) ≡ suc r + length ss = omega arith in
        over d (rw q e) (rw (q, a, b) j)
    further p q (broke us t ts d g e n j) =
        let a : at + length (record_of s ++ bytes us) ≡ at + length (record_of s) + length (bytes us) = omega (arith, length-append (record_of s) (bytes us)) in
        let b : r + suc (length us) ≡ suc r + length us = omega arith in
        broke (s ∷ us) t ts d (ap (λ (l : List Step). s ∷ l) g) (rw q e) (rw b n) (rw (q, a) j)

    on : ((p : ℕ) → Ends (at + length (record_of s)) (suc r) p ss f) → (m : Option ℕ) → nest r o s ≡ m → Ends at r o (s ∷ ss) f
    on rest (Some p) q = further p q (rest p)
    on rest None q = broke [] s ss o refl refl (rw (add-zero r) q) (rw (q, add-zero at))

-- a step that breaks the nesting begins at depth zero and is not the first, or takes the depth below zero
pub data Why (r o : ℕ) (s : Step) : Type 0 where
  late : 0 < r → o ≡ 0 → Why r o s
  low : o + enter s < leave s → Why r o s

pub why : (r o : ℕ) (s : Step) → nest r o s ≡ None → Why r o s
unfolding nest enters leaves
why (suc r) zero s e = late (omega arith) refl
why zero o (Enter k) e = absurd (not-open _ (sym e))
why zero zero Leave e = low (omega arith)
why zero (suc o) Leave e = absurd (not-open _ (sym e))
why zero o (Token k n) e = absurd (not-open _ (sym e))
why zero o (Error c x) e = absurd (not-open _ (sym e))
why zero o (Expected k f) e = absurd (not-open _ (sym e))
why (suc r) (suc o) (Enter k) e = absurd (not-open _ (sym e))
why (suc r) (suc o) Leave e = absurd (not-open _ (sym e))
why (suc r) (suc o) (Token k n) e = absurd (not-open _ (sym e))
why (suc r) (suc o) (Error c x) e = absurd (not-open _ (sym e))
why (suc r) (suc o) (Expected k f) e = absurd (not-open _ (sym e))

pub breaks-again : (r : ℕ) (s : Step) → 0 < r → nest r 0 s ≡ None
unfolding nest
breaks-again zero s h = absurd (omega arith)
breaks-again (suc r) s h = refl

pub breaks-below : (r o : ℕ) (s : Step) → o + enter s < leave s → nest r o s ≡ None
unfolding nest enters leaves
breaks-below zero o (Enter k) h = absurd (omega arith)
breaks-below zero zero Leave h = refl
breaks-below zero (suc o) Leave h = absurd (omega arith)
breaks-below zero o (Token k n) h = absurd (omega arith)
breaks-below zero o (Error c x) h = absurd (omega arith)
breaks-below zero o (Expected k f) h = absurd (omega arith)
breaks-below (suc r) zero s h = refl
breaks-below (suc r) (suc o) (Enter k) h = absurd (omega arith)
breaks-below (suc r) (suc o) Leave h = absurd (omega arith)
breaks-below (suc r) (suc o) (Token k n) h = absurd (omega arith)
breaks-below (suc r) (suc o) (Error c x) h = absurd (omega arith)
breaks-below (suc r) (suc o) (Expected k f) h = absurd (omega arith)

false-true : false ≡ true → ⊥
false-true q = let z : ◌≡◌ {A = ℕ} 0 1 = cc in omega arith

-- steps that nest come to depth zero, one of them at least; and back
pub nests-depth : (ss : List Step) (r o : ℕ) → nests r o ss ≡ true → (depth r o ss ≡ Some 0) × (0 < r + length ss)
unfolding nests depth
nests-depth [] zero o e = absurd (false-true e)
nests-depth [] (suc r) zero e = (refl, omega arith)
nests-depth [] (suc r) (suc o) e = absurd (false-true e)
nests-depth (s ∷ ss) r o e = (on (λ p q. (nests-depth ss (suc r) p q).0) (nest r o s) e, omega arith)
  where
    on : ((p : ℕ) → nests (suc r) p ss ≡ true → depth (suc r) p ss ≡ Some 0) → (m : Option ℕ) → on_nodes m (λ p. nests (suc r) p ss) false ≡ true
        → on_nodes m (λ p. depth (suc r) p ss) None ≡ Some 0
    on rest (Some p) q = rest p q
    on rest None q = absurd (false-true q)

pub depth-nests : (ss : List Step) (r o : ℕ) → depth r o ss ≡ Some 0 → 0 < r + length ss → nests r o ss ≡ true
unfolding nests depth
depth-nests [] zero o e h = absurd (omega arith)
depth-nests [] (suc r) zero e h = refl
depth-nests [] (suc r) (suc o) e h = absurd (omega (arith, same-open (suc o) 0 e))
depth-nests (s ∷ ss) r o e h =
    on-open (nest r o s) (λ p. depth (suc r) p ss) 0 e (λ p q g. rw q (depth-nests ss (suc r) p g (omega arith)))
