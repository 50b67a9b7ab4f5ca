-- What the code reads of the table, and where its rows stand. Assumes nothing.
use mathlib.Core.Path.{◌≡◌, refl, ap, ap₂, ◌∙◌}
use mathlib.Core.Bool.{Bool, true, false, cond}
use mathlib.Core.List.{List, [], ◌∷◌}
use Prim.Native.Nat.{ℕ, zero, suc, ◌+◌, ◌*◌, ◌/◌, ◌%◌, ◌≤◌, ◌<◌}
use native.Mathlib.Nat.{suc-mul, zero-add}
use native.Mathlib.Omega.{arith}
use lib.Dec.{T, ltb, eqb, ltb→lt, eqb→eq}
use lib.ListN.{length, get_or, get_or-append}
use lib.Seq.{get_or-append-add}
use Rattle.lexical.specs.Regular.{pick}
use Rattle.lexical.specs.Lexed.{nothing, longest}
use Rattle.lexical.specs.Table.{state-count, width, kind-class, live-row, last_row, class-list, next-rows, joined, next-list, part, entry, row_of, next, kind-of, State}
use Rattle.lexical.proofs.Right.{left, class-count, one_byte, dead, at-end}

-- ---- one test of every row

abbrev every : {A : Type 0} → (A → Bool) → List A → Bool
every f [] = true
every f (x ∷ xs) = pick (f x) (every f xs) false

both : (a b : Bool) → T (pick a b false) → T a × T b
both true b t = (tt, t)
both false b t = absurd t

every-at : {A : Type 0} (f : A → Bool) (l : List A) (d : A) → T (every f l) → (k : ℕ) → k < length l → T (f (get_or l k d))
every-at f [] d t k h = absurd (omega arith)
every-at f (x ∷ l) d t zero h = (both (f x) (every f l) t).0
every-at f (x ∷ l) d t (suc k) h = every-at f l d (both (f x) (every f l) t).1 k (omega arith)

abbrev every-row : (ℕ → List ℕ → Bool) → ℕ → List (List ℕ) → Bool
every-row f i [] = true
every-row f i (r ∷ rs) = pick (f i r) (every-row f (suc i) rs) false

every-row-at : (f : ℕ → List ℕ → Bool) (i : ℕ) (rows : List (List ℕ)) → T (every-row f i rows) → (k : ℕ) → k < length rows → T (f (i + k) (get_or rows k []))
every-row-at f i [] t k h = absurd (omega arith)
every-row-at f i (r ∷ rs) t zero h = let e : i + zero ≡ i = omega arith in rw e (both (f i r) (every-row f (suc i) rs) t).0
every-row-at f i (r ∷ rs) t (suc k) h =
    let e : i + suc k ≡ suc i + k = omega arith in
    rw e (every-row-at f (suc i) rs (both (f i r) (every-row f (suc i) rs) t).1 k (omega arith))

-- a number is the place of a row
abbrev a-row : ℕ → Bool
a-row s = pick (eqb (s % width) 0) (ltb (s / width) state-count) false

-- a row leads to rows
abbrev leads : List ℕ → Bool
leads row = every (λ c. a-row (entry row c)) class-list

-- a kind stands in the rows from the first live one on, and there alone
abbrev told : ℕ → List ℕ → Bool
told i row = eqb (cond (eqb (entry row kind-class) 0) 0 1) (cond (ltb i live-row) 0 1)

-- the last rows lead nowhere
abbrev stopped : ℕ → List ℕ → Bool
stopped i row = pick (ltb i last_row) true (every (λ c. eqb (entry row c) 0) class-list)

sound : ℕ → List ℕ → Bool
sound i row = pick (leads row) (pick (told i row) (stopped i row) false) false

rows-sound : T (every-row sound 0 next-rows)
unfolding sound next-rows class-list
rows-sound = tt

row_count : length next-rows ≡ state-count
unfolding next-rows
row_count = refl

classes-below : T (every (λ c. ltb c kind-class) class-list)
unfolding class-list
classes-below = tt

pub class-below : (b : ℕ) → b < 256 → get_or class-list b 0 < kind-class
class-below b h =
    ltb→lt (get_or class-list b 0) kind-class
    (every-at (λ c. ltb c kind-class) class-list 0 classes-below b (omega (arith, class-count)))

-- ---- what it says of a state

pub state-below : {s : ℕ} → State s → s + width ≤ width * state-count
state-below {s} h = omega (arith, h.whole, h.inside)

sound-at : (s : ℕ) → s / width < state-count → T (sound (s / width) (row_of s))
unfolding row_of
sound-at s h = rw zero-add at (every-row-at sound 0 next-rows rows-sound (s / width) (omega (arith, row_count, h)))

record Parts (i : ℕ) (row : List ℕ) : Type 0 where
  on : T (leads row)
  kinds : T (told i row)
  ends : T (stopped i row)

parts : (i : ℕ) (row : List ℕ) → T (sound i row) → Parts i row
unfolding sound
parts i row t =
    let a : T (leads row) × T (pick (told i row) (stopped i row) false) = both (leads row) (pick (told i row) (stopped i row) false) t in
    let b : T (told i row) × T (stopped i row) = both (told i row) (stopped i row) a.1 in
    record { on = a.0; kinds = b.0; ends = b.1 }

pub next-state : {s b : ℕ} → State s → b < 256 → State (next s b)
unfolding next
next-state {s} {b} h hb =
    let t : T (a-row (next s b)) = every-at (λ c. a-row (entry (row_of s) c)) class-list 0 (parts (s / width) (row_of s) (sound-at s h.inside)).on b (omega (arith, class-count)) in
    let p : T (eqb (next s b % width) 0) × T (ltb (next s b / width) state-count) = both (eqb (next s b % width) 0) (ltb (next s b / width) state-count) t in
    record { whole = eqb→eq (next s b % width) 0 p.0; inside = ltb→lt (next s b / width) state-count p.1 }

differ : (a b : Bool) → T (eqb (cond a 0 1) (cond b 0 1)) → a ≡ b
differ true true t = refl
differ true false t = absurd t
differ false true t = absurd t
differ false false t = refl

-- a token ends in a state exactly where its row is a live one
pub kind-live : {s : ℕ} → State s → eqb (kind-of s) 0 ≡ ltb (s / width) live-row
unfolding kind-of
kind-live {s} h = differ (eqb (kind-of s) 0) (ltb (s / width) live-row) (parts (s / width) (row_of s) (sound-at s h.inside)).kinds

-- from a last state on no token is found
pub last-stops : {s : ℕ} → State s → last_row ≤ s / width → (b : ℕ) → b < 256 → next s b ≡ 0
unfolding next
last-stops {s} h l b hb =
    let p : T (stopped (s / width) (row_of s)) = (parts (s / width) (row_of s) (sound-at s h.inside)).ends in
    eqb→eq (next s b) 0 (every-at (λ c. eqb (entry (row_of s) c) 0) class-list 0 (later (ltb (s / width) last_row) refl p) b (omega (arith, class-count)))
  where
    later : (x : Bool) → ltb (s / width) last_row ≡ x → T (pick x true (every (λ c. eqb (entry (row_of s) c) 0) class-list)) → T (every (λ c. eqb (entry (row_of s) c) 0) class-list)
    later true e t = absurd (omega (arith, ltb→lt (s / width) last_row (rw e tt), l))
    later false e t = t

-- ---- rows of one width, joined

joined_at : (w : ℕ) (rows : List (List ℕ)) → T (every (λ row. eqb (length row) w) rows) → (s i : ℕ) → i < w → get_or (joined rows) (s * w + i) 0 ≡ get_or (get_or rows s []) i 0
joined_at w [] t s i h = refl
joined_at w (r ∷ rs) t zero i h =
    let long : length r ≡ w = eqb→eq (length r) w (both (eqb (length r) w) (every (λ row. eqb (length row) w) rs) t).0 in
    let e : zero * w + i ≡ i = omega arith in
    rw e (get_or-append r (joined rs) 0 i (omega arith))
joined_at w (r ∷ rs) t (suc s) i h =
    let split : T (eqb (length r) w) × T (every (λ row. eqb (length row) w) rs) = both (eqb (length r) w) (every (λ row. eqb (length row) w) rs) t in
    let long : length r ≡ w = eqb→eq (length r) w split.0 in
    let e : suc s * w + i ≡ length r + (s * w + i) = rw (suc-mul s w, long) (omega arith) in
    rw e (get_or-append-add r (joined rs) (s * w + i) 0 ∙ joined_at w rs split.1 s i h)

rows-wide : T (every (λ row. eqb (length row) width) next-rows)
unfolding next-rows
rows-wide = tt

-- a word of a state's row, read off the joined rows
word_read : {s : ℕ} (i : ℕ) → State s → i < width → get_or next-list (s + i) 0 ≡ get_or (row_of s) i 0
unfolding next-list row_of
word_read {s} i h l =
    let e : s + i ≡ s / width * width + i = omega (arith, h.whole) in
    rw e (joined_at width next-rows rows-wide (s / width) i l)

-- ---- the reads of the code

module _ {cs ns : List ℕ} {s b x y : ℕ} (e : cs ≡ class-list) (f : ns ≡ next-list) (hs : State s) (p : x ≡ b) (h : x < 256) (q : y ≡ get_or cs x 0) where
  pub class-read : y < kind-class
  class-read = rw (q, e) (class-below x h)

  pub next-read : (z : ℕ) → z ≡ part (get_or ns (s + y / 4) 0) (y % 4) → (z ≡ next s b) × State z
  unfolding next
  next-read z r =
      let same : y ≡ get_or class-list b 0 = q ∙ ap₂ (λ (l : List ℕ) (n : ℕ). get_or l n 0) e p in
      let looked : get_or ns (s + y / 4) 0 ≡ get_or (row_of s) (y / 4) 0 = rw f (word_read (y / 4) hs (omega (arith, class-read))) in
      let is : z ≡ next s b = r ∙ rw (looked, same) in
      (is, rw is (next-state hs (omega arith)))

pub kind-read : {ns : List ℕ} {s : ℕ} → ns ≡ next-list → State s → part (get_or ns (s + kind-class / 4) 0) (kind-class % 4) ≡ kind-of s
unfolding kind-of
kind-read {ns} {s} f hs = rw f (ap (λ (w : ℕ). part w (kind-class % 4)) (word_read (kind-class / 4) hs (omega arith)))

-- ---- the start, and where nothing is found any more

pub start-state : State width
start-state = record { whole = refl; inside = omega arith }

pub dead-state : State 0
dead-state = record { whole = refl; inside = omega arith }

pub dead-kind : kind-of 0 ≡ 0
unfolding kind-of row_of next-rows
dead-kind = refl

pub nothing-last : {s : ℕ} → State s → last_row ≤ s / width → (n : ℕ) (w : List ℕ) → ((k : ℕ) → get_or w k 0 < 256) → longest (left s) n w ≡ nothing
nothing-last {s} h l n [] hb = at-end (left s) n
nothing-last {s} h l n (b ∷ w) hb = one_byte s n b w (hb 0) ∙ rw (last-stops h l b (hb 0), dead (suc n) w, dead-kind)
