-- Events over a room of words: what stands at a place, what a store changes, and that the events say what the words are. Assumes nothing.
use Prim.Native.Nat.{ℕ, zero, suc, ◌+◌, ◌*◌, ◌/◌, ◌%◌, ◌≤◌, ◌<◌}
use native.Mathlib.Omega.{arith}
use native.Mathlib.Numerals.{add-one}
use mathlib.Core.Path.{◌≡◌, refl, sym, ap, ap₂, ◌∙◌}
use mathlib.Core.Bool.{true}
use mathlib.Core.List.{List, [], ◌∷◌, ◌++◌, append-nil}
use lib.ListN.{length, get_or, set, take}
use lib.Seq.{take-nil, take-append-le}
use Rattle.event.specs.declared.Event.{Event}
use Rattle.event.specs.declared.Event.TheVariants.{Start}
use Rattle.event.specs.Event.{event_words, words, encode, decode, Sound, events_of, left_over, words_of, stored, none, is_start}
use Rattle.event.proofs.Encoding.{again, decode-encode, encode-decode, say-start, start-tag}

double-suc : (i : ℕ) → 2 * suc i ≡ suc (suc (2 * i))
double-suc i = omega arith

-- as many events as whole pairs of words
pub length-events : (ws : List ℕ) → length (events_of ws) ≡ length ws / event_words
unfolding events_of
length-events [] = refl
length-events (a ∷ []) = refl
length-events (a ∷ (b ∷ ws)) = omega (arith, length-events ws)

pub length-words : (es : List Event) → length (words_of es) ≡ length es * event_words
unfolding words_of
length-words [] = refl
length-words (e ∷ es) = rw (length-words es) (omega arith)

-- what stands at a place
pub event-index : (ws : List ℕ) (i : ℕ) → i < length ws / event_words → decode (get_or ws (event_words * i) 0) (get_or ws (event_words * i + 1) 0) ≡ get_or (events_of ws) i none
unfolding events_of
event-index [] i h = absurd (omega arith)
event-index (a ∷ []) i h = absurd (omega arith)
event-index (a ∷ (b ∷ ws)) zero h = refl
event-index (a ∷ (b ∷ ws)) (suc i) h = rw (double-suc i, add-one) (rw add-one at (event-index ws i (omega arith)))

-- a start there, by its words
pub start-index : (ws : List ℕ) (i : ℕ) → i < length ws / event_words → is_start (get_or (events_of ws) i none) ≡ true → get_or (events_of ws) i none ≡ Start (get_or ws (event_words * i) 0 % 65536) (get_or ws (event_words * i + 1) 0)
start-index ws i h t =
    let e : decode (get_or ws (2 * i) 0) (get_or ws (2 * i + 1) 0) ≡ get_or (events_of ws) i none = event-index ws i h in
    sym e ∙ say-start (get_or ws (2 * i) 0) (get_or ws (2 * i + 1) 0) (start-tag (get_or ws (2 * i) 0) (get_or ws (2 * i + 1) 0) (ap is_start e ∙ t))

pub start_first : (ws : List ℕ) (i : ℕ) → i < length ws / event_words → is_start (get_or (events_of ws) i none) ≡ true → 65536 + get_or ws (event_words * i) 0 % 65536 ≡ get_or ws (event_words * i) 0
start_first ws i h t =
    let q : get_or ws (2 * i) 0 / 65536 ≡ 1 = start-tag (get_or ws (2 * i) 0) (get_or ws (2 * i + 1) 0) (ap is_start (event-index ws i h) ∙ t) in
    omega arith

-- Words stored are what they say at their place, and nothing else changes.
event-set : (ws : List ℕ) (i a b : ℕ) → i < length ws / event_words → events_of (set (set ws (event_words * i) a) (event_words * i + 1) b) ≡ set (events_of ws) i (decode a b)
unfolding events_of
event-set [] i a b h = absurd (omega arith)
event-set (x ∷ []) i a b h = absurd (omega arith)
event-set (x ∷ (y ∷ ws)) zero a b h = refl
event-set (x ∷ (y ∷ ws)) (suc i) a b h = rw (double-suc i, add-one) (ap (λ (es : List Event). decode x y ∷ es) (rw add-one at (event-set ws i a b (omega arith))))

left-set : (ws : List ℕ) (i a b : ℕ) → i < length ws / event_words → left_over (set (set ws (event_words * i) a) (event_words * i + 1) b) ≡ left_over ws
unfolding left_over
left-set [] i a b h = absurd (omega arith)
left-set (x ∷ []) i a b h = absurd (omega arith)
left-set (x ∷ (y ∷ ws)) zero a b h = refl
left-set (x ∷ (y ∷ ws)) (suc i) a b h = rw (double-suc i, add-one) (rw add-one at (left-set ws i a b (omega arith)))

pub events-stored : (ws : List ℕ) (i : ℕ) (e : Event) → i < length ws / event_words → events_of (stored ws i e) ≡ set (events_of ws) i (again e)
events-stored ws i e h = event-set ws i (encode e).first (encode e).second h

pub left-stored : (ws : List ℕ) (i : ℕ) (e : Event) → i < length ws / event_words → left_over (stored ws i e) ≡ left_over ws
left-stored ws i e h = left-set ws i (encode e).first (encode e).second h

-- The events and the word left over say what the words are: no two rooms show the same.
pub words-events : (ws : List ℕ) → words_of (events_of ws) ++ left_over ws ≡ ws
unfolding events_of left_over words_of
words-events [] = refl
words-events (a ∷ []) = refl
words-events (a ∷ (b ∷ ws)) =
    let e : encode (decode a b) ≡ words a b = encode-decode a b in
    rw e (ap (λ (l : List ℕ). a ∷ (b ∷ l)) (words-events ws))

-- an even room has no word left over
pub none_left : (ws : List ℕ) (n : ℕ) → length ws ≡ event_words * n → left_over ws ≡ []
unfolding left_over
none_left [] n h = refl
none_left (a ∷ []) n h = absurd (omega arith)
none_left (a ∷ (b ∷ ws)) zero h = absurd (omega arith)
none_left (a ∷ (b ∷ ws)) (suc n) h = none_left ws n (omega arith)

pub even-words : (ws : List ℕ) (n : ℕ) → length ws ≡ event_words * n → words_of (events_of ws) ≡ ws
even-words ws n h = sym (append-nil (words_of (events_of ws))) ∙ ap (λ (l : List ℕ). words_of (events_of ws) ++ l) (sym (none_left ws n h)) ∙ words-events ws

-- a list whose events are sound
pub record Sounds (l : List Event) : Type 0 where
  pub sound : (j : ℕ) → j < length l → Sound (get_or l j none)

-- the words of sound events say those events
pub events-words : (es : List Event) → Sounds es → events_of (words_of es) ≡ es
unfolding events_of words_of
events-words [] h = refl
events-words (e ∷ es) h =
    ap₂ (λ (x : Event) (xs : List Event). x ∷ xs) (decode-encode e (h.sound 0 (omega arith))) (events-words es (record { sound = λ j l. h.sound (suc j) (omega arith) }))

-- the first events are the first words
words_take : (es : List Event) (n : ℕ) → words_of (take n es) ≡ take (n * event_words) (words_of es)
unfolding words_of
words_take es zero = refl
words_take [] (suc n) = sym (take-nil (suc n * 2))
words_take (e ∷ es) (suc n) = let q : suc n * 2 ≡ suc (suc (n * 2)) = omega arith in rw (q, words_take es n)

pub first-words : (ws : List ℕ) (n : ℕ) → n * event_words ≤ length ws → words_of (take n (events_of ws)) ≡ take (n * event_words) ws
first-words ws n h =
    words_take (events_of ws) n
    ∙ sym (take-append-le (n * 2) (words_of (events_of ws)) (left_over ws) (rw (length-words (events_of ws), length-events ws) (omega arith)))
    ∙ ap (take (n * 2)) (words-events ws)
