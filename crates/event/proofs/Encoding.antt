-- `encode` and `decode` are each other's inverse, and what words say by their tag. Assumes nothing.
use Prim.Native.Nat.{ℕ, ◌+◌, ◌*◌, ◌/◌, ◌%◌, ◌<◌}
use native.Mathlib.Omega.{arith}
use mathlib.Core.Path.{◌≡◌, refl, sym, ap, ap₂, ◌∙◌}
use mathlib.Core.Bool.{Bool, true, false, cond}
use lib.Dec.{eqb, leb, ltb}
use borrow.Author.Tests.{eqb-true, eqb-false, leb-true, ltb-true, eq-eqb, ne_eqb, le-leb, lt-ltb}
use Rattle.laws.proofs.Tests.{by-test, apart}
use Rattle.event.specs.declared.Event.{Event}
use Rattle.event.specs.declared.Event.TheVariants.{Start, Finish, Token, Error, NoEvent}
use Rattle.event.specs.Event.{words, encode, error_of, decode, Sound, is_start, is_bare, with_kind, with_distance, distance}

-- the event that the words of an event say
abbrev pub again : Event → Event
again e = decode (encode e).first (encode e).second

-- the words of a sound event say that event
pub decode-encode : (e : Event) → Sound e → again e ≡ e
unfolding encode decode error_of
decode-encode (Start k d) h =
    let t : (65536 + k) / 65536 ≡ 1 = omega arith in
    let m : (65536 + k) % 65536 ≡ k = omega arith in
    rw (t, m)
decode-encode Finish h = refl
decode-encode (Token k n) h =
    let t : (196608 + k) / 65536 ≡ 3 = omega arith in
    let m : (196608 + k) % 65536 ≡ k = omega arith in
    rw (t, m, ne_eqb n 0 (λ z. omega arith), le-leb n 3 h.2)
decode-encode (Error c x f) h =
    let t : (262144 + c) / 65536 ≡ 4 = omega arith in
    let m : (262144 + c) % 65536 ≡ c = omega arith in
    rw (t, m) (by (eqb c 1) refl)
  where
    s : ℕ
    s = x + 65536 * f

    by : (t : Bool) → eqb c 1 ≡ t → cond t (cond (ltb s 4294967296) (Error c (s % 65536) (s / 65536)) (NoEvent (262144 + c) s)) (cond (ltb s 65536) (Error c s 0) (NoEvent (262144 + c) s)) ≡ Error c x f
    by true t =
        let r : s % 65536 ≡ x = omega arith in
        let q : s / 65536 ≡ f = omega arith in
        rw (lt-ltb s 4294967296 (omega arith), r, q)
    by false t =
        let z : f ≡ 0 = h.3 (eqb-false c 1 t) in
        let q : s ≡ x = omega arith in
        rw (lt-ltb s 65536 (omega arith), q, z)
decode-encode (NoEvent a b) h = absurd h

-- Any words are those of what they say, and that is sound, or no event.
Back : ℕ → ℕ → Event → Type 0
Back a b e = (encode e ≡ words a b) × ((e ≡ NoEvent a b → ⊥) → Sound e)

nothing : (a b : ℕ) → Back a b (NoEvent a b)
unfolding Back encode
nothing a b = (refl, λ n. absurd (n refl))

back : (a b : ℕ) → Back a b (decode a b)
unfolding Back decode error_of encode
back a b =
    by-test (Back a b) (eqb (a / 65536) 1) _ _ start λ _.
    by-test (Back a b) (eqb (a / 65536) 2) _ _ finish λ _.
    by-test (Back a b) (eqb (a / 65536) 3) _ _ token λ _.
    by-test (Back a b) (eqb (a / 65536) 4) _ _ error λ _. nothing a b
  where
    pair : {x y : ℕ} → x ≡ a → y ≡ b → words x y ≡ words a b
    pair p q = ap₂ words p q

    start : eqb (a / 65536) 1 ≡ true → Back a b (Start (a % 65536) b)
    start t = (pair (omega (arith, eqb-true (a / 65536) 1 t)) refl, λ n. omega arith)

    finish : eqb (a / 65536) 2 ≡ true → Back a b (cond (eqb (a % 65536) 0) (cond (eqb b 0) Finish (NoEvent a b)) (NoEvent a b))
    finish t =
        by-test (Back a b) (eqb (a % 65536) 0) _ _
        (λ z. by-test (Back a b) (eqb b 0) _ _ (λ y. (pair (omega (arith, eqb-true (a / 65536) 2 t, eqb-true (a % 65536) 0 z)) (sym (eqb-true b 0 y)), λ n. tt)) (λ _. nothing a b))
        (λ _. nothing a b)

    token : eqb (a / 65536) 3 ≡ true → Back a b (cond (eqb b 0) (NoEvent a b) (cond (leb b 3) (Token (a % 65536) b) (NoEvent a b)))
    token t =
        by-test (Back a b) (eqb b 0) _ _ (λ _. nothing a b)
        (λ z. by-test (Back a b) (leb b 3) _ _ (λ l. (pair (omega (arith, eqb-true (a / 65536) 3 t)) refl, λ n. (omega arith, omega (arith, eqb-false b 0 z), leb-true b 3 l))) (λ _. nothing a b))

    error : eqb (a / 65536) 4 ≡ true → Back a b (error_of (a % 65536) b (NoEvent a b))
    error t =
        by-test (Back a b) (eqb (a % 65536) 1) _ _
        (λ o. by-test (Back a b) (ltb b 4294967296) _ _
        (λ l. let g : b < 4294967296 = ltb-true b 4294967296 l in (pair (omega (arith, eqb-true (a / 65536) 4 t)) (omega arith), λ n. (omega arith, omega arith, omega arith, λ n. absurd (n (eqb-true (a % 65536) 1 o)))))
        (λ _. nothing a b))
        (λ o. by-test (Back a b) (ltb b 65536) _ _
        (λ l. (pair (omega (arith, eqb-true (a / 65536) 4 t)) (omega arith), λ n. (omega arith, ltb-true b 65536 l, omega arith, λ _. refl)))
        (λ _. nothing a b))

pub encode-decode : (a b : ℕ) → encode (decode a b) ≡ words a b
unfolding Back
encode-decode a b = (back a b).0

pub decode-sound : (a b : ℕ) → (decode a b ≡ NoEvent a b → ⊥) → Sound (decode a b)
unfolding Back
decode-sound a b n = (back a b).1 n

-- A tag of 1 makes a start, and nothing else does.
pub say-start : (a b : ℕ) → a / 65536 ≡ 1 → decode a b ≡ Start (a % 65536) b
unfolding decode
say-start a b e = rw (eq-eqb (a / 65536) 1 e)

-- no start, and so no distance
abbrev Still : Event → Type 0
Still e = (is_start e ≡ false) × (distance e ≡ 0)

pub say-other : (a b : ℕ) → (a / 65536 ≡ 1 → ⊥) → (is_start (decode a b) ≡ false) × (distance (decode a b) ≡ 0)
unfolding decode error_of
say-other a b n =
    rw (ne_eqb (a / 65536) 1 n)
    (by-test Still (eqb (a / 65536) 2) _ _
    (λ _. by-test Still (eqb (a % 65536) 0) _ _ (λ _. by-test Still (eqb b 0) _ _ (λ _. (refl, refl)) (λ _. (refl, refl))) (λ _. (refl, refl)))
    λ _. by-test Still (eqb (a / 65536) 3) _ _
    (λ _. by-test Still (eqb b 0) _ _ (λ _. (refl, refl)) (λ _. by-test Still (leb b 3) _ _ (λ _. (refl, refl)) (λ _. (refl, refl))))
    λ _. by-test Still (eqb (a / 65536) 4) _ _
    (λ _. by-test Still (eqb (a % 65536) 1) _ _
    (λ _. by-test Still (ltb b 4294967296) _ _ (λ _. (refl, refl)) (λ _. (refl, refl)))
    (λ _. by-test Still (ltb b 65536) _ _ (λ _. (refl, refl)) (λ _. (refl, refl))))
    (λ _. (refl, refl)))

pub start-tag : (a b : ℕ) → is_start (decode a b) ≡ true → a / 65536 ≡ 1
start-tag a b h = by (eqb (a / 65536) 1) refl
  where
    by : (t : Bool) → eqb (a / 65536) 1 ≡ t → a / 65536 ≡ 1
    by true e = eqb-true (a / 65536) 1 e
    by false e = apart (sym (say-other a b (eqb-false (a / 65536) 1 e)).0 ∙ h)

-- What the code tests: a start, and one with neither kind nor distance.
pub starts-at : (a b : ℕ) → eqb (a / 65536) 1 ≡ is_start (decode a b)
starts-at a b = by (eqb (a / 65536) 1) refl
  where
    by : (t : Bool) → eqb (a / 65536) 1 ≡ t → eqb (a / 65536) 1 ≡ is_start (decode a b)
    by true e = e ∙ ap is_start (sym (say-start a b (eqb-true (a / 65536) 1 e)))
    by false e = e ∙ sym (say-other a b (eqb-false (a / 65536) 1 e)).0

pub bare-first : (a b : ℕ) → a ≡ 65536 → eqb b 0 ≡ is_bare (decode a b)
unfolding decode
bare-first a b e = rw e

pub bare-other : (a b : ℕ) → (a ≡ 65536 → ⊥) → false ≡ is_bare (decode a b)
bare-other a b n = by (eqb (a / 65536) 1) refl
  where
    none_bare : (e : Event) → is_start e ≡ false → false ≡ is_bare e
    none_bare (Start k d) h = apart (sym h)
    none_bare Finish h = refl
    none_bare (Token k c) h = refl
    none_bare (Error c x f) h = refl
    none_bare (NoEvent x y) h = refl

    by : (t : Bool) → eqb (a / 65536) 1 ≡ t → false ≡ is_bare (decode a b)
    by true e = rw (say-start a b (eqb-true (a / 65536) 1 e), ne_eqb (a % 65536) 0 (λ z. n (omega (arith, eqb-true (a / 65536) 1 e))))
    by false e = none_bare (decode a b) (say-other a b (eqb-false (a / 65536) 1 e)).0

-- a bare start is a start
pub bare-start : (e : Event) → is_bare e ≡ true → is_start e ≡ true
bare-start (Start k d) h = refl
bare-start Finish h = h
bare-start (Token k n) h = h
bare-start (Error c x f) h = h
bare-start (NoEvent a b) h = h

-- A start that words say is sound, and stays so with another kind that fits or another distance.
pub start-sound : (a b : ℕ) → is_start (decode a b) ≡ true → Sound (decode a b)
start-sound a b h = decode-sound a b (λ e. apart (sym (ap is_start e) ∙ h))

pub kind-sound : (k : ℕ) (e : Event) → k < 65536 → is_start e ≡ true → Sound (with_kind k e)
kind-sound k (Start j d) l h = l
kind-sound k Finish l h = apart h
kind-sound k (Token j n) l h = apart h
kind-sound k (Error c x f) l h = apart h
kind-sound k (NoEvent a b) l h = apart h

pub distance-sound : (d : ℕ) (e : Event) → Sound e → Sound (with_distance d e)
distance-sound d (Start k c) h = h
distance-sound d Finish h = h
distance-sound d (Token k n) h = h
distance-sound d (Error c x f) h = h
distance-sound d (NoEvent a b) h = h
