-- What resolution writes for a list that passes, read back. Assumes nothing.
use mathlib.Core.Path.{◌≡◌, sym}
use mathlib.Core.Bool.{true}
use mathlib.Core.List.{List, [], ◌∷◌, map-append}
use Prim.Native.Nat.{ℕ, zero, suc, ◌/◌, ◌%◌, ◌≤◌, ◌<◌}
use native.Mathlib.Omega.{arith}
use lib.Dec.{eqb, leb, ltb}
use lib.ListN.{length, take, replicate}
use lib.Seq.{take_at}
use borrow.Author.Tests.{eqb-false, leb-true, ltb-true}
use Rattle.records.specs.declared.Step.{Step}
use Rattle.records.specs.declared.Step.TheVariants.{Enter as enter, Error as error, Expected as expected}
use Rattle.records.specs.Record.{bytes, over, Sound, Sounds}
use Rattle.laws.proofs.Tests.{by-test}
use Rattle.event.specs.declared.Event.{Event}
use Rattle.event.specs.declared.Event.TheVariants.{Start, Finish, Token, Error, NoEvent}
use Rattle.event.specs.Event.{error_of, decode, events_of, words_of, tombstone}
use Rattle.lists.specs.Answer.{says}
use Rattle.lists.specs.Check.{checked}
use Rattle.own.specs.Own.{enters, reports, own, need}
use Rattle.turns.specs.Process.{Parent, placed, follow, entered, turn, turns, process, steps_of}
use Rattle.events.specs.Resolve.{ends, resolved}
use Rattle.events.proofs.Passing.{process-need}
use Rattle.listed.proofs.Theorems.{passing-resolves}
use Rattle.stepfile.specs.Answer as S
use Rattle.stepfile.specs.Nesting.{nest, nests}
use Rattle.stepfile.specs.File.{file_read}
use Rattle.stepfile.specs.OneByOne.{walked}
use Rattle.stepfile.proofs.Conditions.{sounds-join}
use Rattle.stepfile.proofs.Theorems.{steps-read, nested-done, done-nested}
use Rattle.promises.specs.Promised.{Rooted}

-- ---- the steps of any list are sound

-- an event that asks for sound steps itself
abbrev Fair : Event → Type 0
Fair e = Sounds (own e)

abbrev Fairs : List Event → Type 0
Fairs [] = Unit {0}
Fairs (e ∷ es) = Fair e × Fairs es

enters-sound : (k : ℕ) → k < 65536 → Sounds (enters k)
enters-sound k h = by-test Sounds (eqb k 0) [] (enter k ∷ []) (λ _. tt) (λ _. (h, tt))

reports-sound : (c x f : ℕ) → c < 65536 → x < 65536 → f < 65536 → Sound (reports c x f)
reports-sound c x f h l m = by-test Sound (eqb c 1) (expected x f) (error c x) (λ _. (l, m)) (λ _. (h, l))

decode-fair : (a b : ℕ) → Fair (decode a b)
unfolding decode error_of
decode-fair a b =
    by-test Fair (eqb (a / 65536) 1) _ _ (λ _. enters-sound (a % 65536) (omega arith)) (λ _.
    by-test Fair (eqb (a / 65536) 2) _ _ (λ _. by-test Fair (eqb (a % 65536) 0) _ _ (λ _. by-test Fair (eqb b 0) _ _ (λ _. (tt, tt)) (λ _. tt)) (λ _. tt)) (λ _.
    by-test Fair (eqb (a / 65536) 3) _ _ (λ _. by-test Fair (eqb b 0) _ _ (λ _. tt) (λ z. by-test Fair (leb b 3) _ _ (λ l. ((omega arith, omega (arith, eqb-false b 0 z), leb-true b 3 l), tt)) (λ _. tt))) (λ _.
    by-test Fair (eqb (a / 65536) 4) _ _
    (λ _. by-test Fair (eqb (a % 65536) 1) _ _
    (λ _. by-test Fair (ltb b 4294967296) _ _ (λ l. let g : b < 4294967296 = ltb-true b 4294967296 l in (reports-sound (a % 65536) (b % 65536) (b / 65536) (omega arith) (omega arith) (omega arith), tt)) (λ _. tt))
    (λ _. by-test Fair (ltb b 65536) _ _ (λ l. (reports-sound (a % 65536) b 0 (omega arith) (ltb-true b 65536 l) (omega arith), tt)) (λ _. tt)))
    (λ _. tt))))

events-fair : (ws : List ℕ) → Fairs (events_of ws)
unfolding events_of
events-fair [] = tt
events-fair (a ∷ []) = tt
events-fair (a ∷ (b ∷ ws)) = (decode-fair a b, events-fair ws)

abbrev Kinds : List Parent → Type 0
Kinds [] = Unit {0}
Kinds (x ∷ xs) = Sounds (enters x.kind) × Kinds xs

follow-fair : (p : ℕ) (es : List Event) (d : ℕ) → Fairs es → Kinds (follow p es d).parents × Fairs (follow p es d).left
unfolding follow
follow-fair p [] zero h = (tt, h)
follow-fair p [] (suc d) h = (tt, h)
follow-fair p (e ∷ es) zero h = (tt, h)
follow-fair p (Start k f ∷ es) (suc zero) h = let r = follow-fair (suc p) es f h.1 in ((h.0, r.0), (tt, r.1))
follow-fair p (Finish ∷ es) (suc zero) h = (tt, h)
follow-fair p (Token k n ∷ es) (suc zero) h = (tt, h)
follow-fair p (Error c x f ∷ es) (suc zero) h = (tt, h)
follow-fair p (NoEvent a b ∷ es) (suc zero) h = (tt, h)
follow-fair p (e ∷ es) (suc (suc d)) h = let r = follow-fair (suc p) es (suc d) h.1 in (r.0, (h.0, r.1))

placed-sound : (p : ℕ) (ss : List Step) → Sounds ss → Sounds (steps_of (placed p ss))
placed-sound p [] h = tt
placed-sound p (s ∷ ss) h = (h.0, placed-sound p ss h.1)

entered-sound : (xs : List Parent) → Kinds xs → Sounds (steps_of (entered xs))
unfolding entered
entered-sound [] h = tt
entered-sound (x ∷ xs) h = rw map-append (sounds-join (steps_of (entered xs)) (steps_of (placed x.place (enters x.kind))) (entered-sound xs h.1) (placed-sound x.place (enters x.kind) h.0))

turn-sound : (p : ℕ) (e : Event) (es : List Event) → Fair e → Fairs es → Sounds (steps_of (turn p e es).steps) × Fairs (turn p e es).left
unfolding turn
turn-sound p (Start k d) es h g = let r = follow-fair (suc p) es d g in (entered-sound (record { place = p; kind = k } ∷ (follow (suc p) es d).parents) (h, r.0), r.1)
turn-sound p Finish es h g = (h, g)
turn-sound p (Token k n) es h g = (h, g)
turn-sound p (Error c x f) es h g = (h, g)
turn-sound p (NoEvent a b) es h g = (tt, g)

turns-sound : (n p : ℕ) (es : List Event) → Fairs es → Sounds (steps_of (turns n p es).steps)
unfolding turns
turns-sound zero p es h = tt
turns-sound (suc n) p [] h = tt
turns-sound (suc n) p (e ∷ es) h =
    let r = turn-sound p e es h.0 h.1 in
    rw map-append (sounds-join (steps_of (turn p e es).steps) (steps_of (turns n (suc p) (turn p e es).left).steps) r.0 (turns-sound n (suc p) (turn p e es).left r.1))

-- the steps that some words resolve to, and their file
abbrev pub steps_from : List ℕ → List Step
steps_from ws = steps_of (process (events_of ws)).steps

pub steps-sound : (ws : List ℕ) → Sounds (steps_from ws)
steps-sound ws = turns-sound (length (events_of ws)) 0 (events_of ws) (events-fair ws)

-- ---- read back

-- What a resolution leaves in a room: its first n bytes read as the list's steps, and writing these gives the same bytes.
pub record ReadsBack (ws out : List ℕ) : Type 0 where
  pub size : ℕ
  pub room : List ℕ
  pub left : resolved ws out ≡ ends (says 0 size) (words_of (replicate (length (events_of ws)) tombstone)) room
  pub reads : walked (take size room) ≡ record { steps = steps_from ws; rest = [] }
  pub again : bytes (steps_from ws) ≡ take size room

module _ (ws : List ℕ) (passes : (checked ws).code ≡ 0) where
  pub reads-back : (out : List ℕ) → need (events_of ws) ≤ length out → ReadsBack ws out
  reads-back out h =
      let e : take (need (events_of ws)) (over out 0 (bytes (steps_from ws))) ≡ bytes (steps_from ws) = take_at (bytes (steps_from ws)) _ (need (events_of ws)) (process-need (events_of ws)) in
      record {
        size = need (events_of ws);
        room = over out 0 (bytes (steps_from ws));
        left = passing-resolves ws passes out h;
        reads = rw e (steps-read (steps_from ws) (steps-sound ws));
        again = sym e;
      }

-- one tree nests
pub rooted-nests : (k : ℕ) (ss : List Step) → Rooted k ss → nests 0 0 ss ≡ true
unfolding nests nest
rooted-nests k ss r = rw r.first r.whole

-- It is a good file exactly where the steps nest: then the whole-file call says its bytes and its steps.
pub file-good : (ws : List ℕ) → nests 0 0 (steps_from ws) ≡ true → file_read (bytes (steps_from ws)) ≡ S.says 0 (length (bytes (steps_from ws))) (length (steps_from ws))
file-good ws e = nested-done (steps_from ws) (steps-sound ws) e

pub good-file : (ws : List ℕ) → (file_read (bytes (steps_from ws))).code ≡ 0 → nests 0 0 (steps_from ws) ≡ true
good-file ws e = done-nested (steps_from ws) (steps-sound ws) e
