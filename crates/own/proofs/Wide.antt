-- Wide writes: the bytes of a word that holds a record and more, and writes whose rest is to be written over.
-- Assumes nothing.
use Prim.Native.Nat.{ℕ, zero, suc, ◌+◌, ◌*◌, ◌-◌, ◌/◌, ◌%◌, ◌≤◌, ◌<◌}
use native.Mathlib.Omega.{arith}
use native.Mathlib.Nat.{mul_assoc, add-mul-div_right, add-mul-mod_self_right, div-div-eq-div-mul}
use lib.Arith.{digits_div}
use mathlib.Core.Path.{◌≡◌, refl, sym, ap, ◌∙◌}
use mathlib.Core.Bool.{cond}
use mathlib.Core.List.{List, [], ◌∷◌, ◌++◌, append_assoc, append-nil}
use lib.Dec.{eqb}
use lib.ListN.{length, get_or, take, drop, length-append, length-take, take-append-drop}
use lib.Seq.{drop-drop, take_at, drop_at}
use borrow.Author.Tests.{eq-eqb, ne_eqb}
use Rattle.event.specs.declared.Event.{Event}
use Rattle.event.specs.declared.Event.TheVariants.{Start, Finish, Token, Error, NoEvent}
use Rattle.event.specs.declared.Words.{Words}
use Rattle.event.specs.Event.{words, encode, decode, Sound}
use Rattle.event.proofs.Encoding.{encode-decode, decode-sound}
use Rattle.records.specs.Record.{bytes, over, Wrote}
use Rattle.own.specs.Own.{own, cost}
use Rattle.own.specs.Inside.{Say, heads, le64, Laid}

-- ---- writes whose rest does not count

-- what stands from a later place on
later : (l m : List ℕ) (e f : ℕ) → e ≤ f → drop e l ≡ drop e m → drop f l ≡ drop f m
later l m e f h q =
    let s : e + (f - e) ≡ f = omega arith in
    rw (← s, ← drop-drop (f - e) e l, ← drop-drop (f - e) e m, q)

module _ (l : List ℕ) (i : ℕ) (vs : List ℕ) (e p : ℕ) (m : List ℕ) where
  pub laid-wider : (f : ℕ) → e ≤ f → Laid l i vs e p m → Laid l i vs f p m
  laid-wider f h a = record { place = a.place; front = a.front; back = later m l e f h a.back }

  pub laid_then : (us : List ℕ) (q : ℕ) (n : List ℕ) → Laid l i vs e p m → Laid m p us e q n → Laid l i (vs ++ us) e q n
  laid_then us q n a b =
      record {
        place = rw length-append (omega (arith, a.place, b.place));
        front = b.front ∙ rw (a.front, append_assoc);
        back = b.back ∙ a.back;
      }

  -- a write of vs and rs, of which vs count
  pub laid_more : (rs : List ℕ) → i + length (vs ++ rs) ≤ length l → m ≡ over l i (vs ++ rs) → p ≡ i + length vs → e ≡ i + length (vs ++ rs) → Laid l i vs e p m
  laid_more rs h w q s =
      let n : length (take i l ++ vs) ≡ i + length vs = simp (length-append, length-take) (omega (arith, simp length-append at h)) in
      let k : length (take i l ++ (vs ++ rs)) ≡ i + length (vs ++ rs) = simp (length-append, length-take) (omega (arith, simp length-append at h)) in
      record {
        place = q;
        front = rw (w, q, ← append_assoc (take i l) vs rs, append_assoc (take i l ++ vs) rs (drop (i + length (vs ++ rs)) l)) (take_at (take i l ++ vs) _ (i + length vs) n);
        back = rw (w, s) (drop_at (take i l ++ (vs ++ rs)) _ (i + length (vs ++ rs)) k);
      }

pub laid-wrote : (l : List ℕ) (i : ℕ) (vs : List ℕ) (e p : ℕ) (m : List ℕ) → i + length vs ≤ e → e ≤ length l → Wrote l i vs p m → Laid l i vs e p m
laid-wrote l i vs e p m h k w =
    laid-wider l i vs (i + length vs) p m e h
    (laid_more l i vs (i + length vs) p m [] (rw append-nil (omega arith)) (rw append-nil w.bytes) w.place (rw append-nil))

-- all that counts is written, and nothing past it
pub laid-whole : (l : List ℕ) (vs : List ℕ) (p : ℕ) (m : List ℕ) → p ≡ length vs → take p m ≡ vs → drop p m ≡ drop p l → m ≡ over l 0 vs
laid-whole l vs p m q f b = let z : 0 + length vs ≡ length vs = omega arith in sym (take-append-drop p m) ∙ rw (f, b, q, z)

-- ---- the bytes of a record in a word of eight

-- a byte of the lower part of h + t * c, and the upper part
low : (h t a b : ℕ) → 0 < a → (h + t * (b * 256 * a)) / a % 256 ≡ h / a % 256
low h t a b l = rw (← mul_assoc t (b * 256) a, ← mul_assoc t b 256, add-mul-div_right h (t * b * 256) l, add-mul-mod_self_right (h / a) (t * b) 256)

lowest : (h t b : ℕ) → (h + t * (b * 256)) % 256 ≡ h % 256
lowest h t b = rw (← mul_assoc t b 256, add-mul-mod_self_right h (t * b) 256)

high : (h t c : ℕ) → h < c → (h + t * c) / c ≡ t
high h t c l = let e : h + t * c ≡ t * c + h = omega arith in rw e (digits_div t l)

higher : (h t c a : ℕ) → h < c → (h + t * c) / (c * a) ≡ t / a
higher h t c a l = sym (div-div-eq-div-mul (h + t * c) c a) ∙ ap (λ (x : ℕ). x / a) (high h t c l)

-- a head, a kind and a second word
halves : (h k x : ℕ) → h < 4294967296 → k < 65536 → x < 65536
    → le64 (h + (k + x * 65536) * 4294967296) ≡ h % 256 ∷ h / 256 % 256 ∷ h / 65536 % 256 ∷ h / 16777216 % 256 ∷ k % 256 ∷ k / 256 ∷ x % 256 ∷ x / 256 ∷ []
halves h k x l₁ l₂ l₃ =
    let t : ℕ = k + x * 65536 in
    let n : ℕ = h + t * 4294967296 in
    let e₀ : n % 256 ≡ h % 256 = lowest h t 16777216 in
    let e₁ : n / 256 % 256 ≡ h / 256 % 256 = low h t 256 65536 (omega arith) in
    let e₂ : n / 65536 % 256 ≡ h / 65536 % 256 = low h t 65536 256 (omega arith) in
    let e₃ : n / 16777216 % 256 ≡ h / 16777216 % 256 = low h t 16777216 1 (omega arith) in
    let e₄ : n / 4294967296 % 256 ≡ k % 256 = ap (λ (y : ℕ). y % 256) (high h t 4294967296 l₁) ∙ lowest k x 256 in
    let e₅ : n / 1099511627776 % 256 ≡ k / 256 = ap (λ (y : ℕ). y % 256) (higher h t 4294967296 256 l₁) ∙ low k x 256 1 (omega arith) ∙ omega arith in
    let e₆ : n / 281474976710656 % 256 ≡ x % 256 = ap (λ (y : ℕ). y % 256) (higher h t 4294967296 65536 l₁ ∙ high k x 65536 l₂) in
    let e₇ : n / 72057594037927936 % 256 ≡ x / 256 = ap (λ (y : ℕ). y % 256) (higher h t 4294967296 16777216 l₁ ∙ higher k x 65536 256 l₂) ∙ omega arith in
    rw (e₀, e₁, e₂, e₃, e₄, e₅, e₆, e₇)

-- the word that the code writes for two words that are no error's: what its event asks for itself, and more
abbrev word_of : ℕ → ℕ → ℕ
word_of a b = get_or heads (a / 65536 % 4) 0 + (a % 65536 + b % 65536 * 65536) * 4294967296

pub record Wide (a b : ℕ) (e : Event) : Type 0 where
  pub rest : List ℕ
  pub whole : le64 (word_of a b) ≡ bytes (own e) ++ rest
  pub size : cost e ≡ cond (eqb a 65536) 0 (4 + get_or heads (a / 65536 % 4) 0 % 8)

front : {v w : Words} → v ≡ w → v.first ≡ w.first
front q = ap (λ (w : Words). w.first) q

wide : (e : Event) (a b : ℕ) → a < 262144 → Sound e → encode e ≡ words a b → Wide a b e
unfolding encode bytes
wide (Start zero d) a b f s q =
    let e : a ≡ 65536 = sym (front q) in
    record { rest = le64 (word_of a b); whole = refl; size = rw (eq-eqb a 65536 e) }
wide (Start (suc k) d) a b f s q =
    let l : suc k < 65536 = s in
    let e : 65536 + suc k ≡ a = front q in
    let m : a % 65536 ≡ suc k = omega arith in
    let u : a / 65536 ≡ 1 = omega arith in
    let t : a / 65536 % 4 ≡ 1 = rw u in
    record {
      rest = b % 65536 % 256 ∷ b % 65536 / 256 ∷ [];
      whole = rw (m, t, ne_eqb (suc k) 0 (λ z. omega arith)) (halves 65538 (suc k) (b % 65536) (omega arith) l (omega arith));
      size = rw (ne_eqb a 65536 (λ z. omega arith), t, ne_eqb (suc k) 0 (λ z. omega arith));
    }
wide Finish a b f s q =
    let e : 131072 ≡ a = front q in
    let t : a / 65536 % 4 ≡ 2 = omega arith in
    record {
      rest = a % 65536 % 256 ∷ a % 65536 / 256 ∷ b % 65536 % 256 ∷ b % 65536 / 256 ∷ [];
      whole = rw t (halves 131072 (a % 65536) (b % 65536) (omega arith) (omega arith) (omega arith));
      size = rw (ne_eqb a 65536 (λ z. omega arith), t);
    }
wide (Token k n) a b f s q =
    let l : k < 65536 = s.0 in
    let e : 196608 + k ≡ a = front q in
    let g : n ≡ b = ap (λ (w : Words). w.second) q in
    let m : a % 65536 ≡ k = omega (arith, s.0) in
    let u : a / 65536 ≡ 3 = omega arith in
    let t : a / 65536 % 4 ≡ 3 = rw u in
    let x : b % 65536 % 256 ≡ n = omega (arith, s.2) in
    record {
      rest = b % 65536 / 256 ∷ [];
      whole = rw (m, t, ← x) (halves 196611 k (b % 65536) (omega arith) s.0 (omega arith));
      size = rw (ne_eqb a 65536 (λ z. omega arith), t);
    }
wide (Error c y w) a b f s q = let e : 262144 + c ≡ a = front q in absurd (omega arith)
wide (NoEvent x y) a b f s q = absurd s

pub wide-own : (a b : ℕ) → a < 262144 → Say a b → Wide a b (decode a b)
wide-own a b f n = wide (decode a b) a b f (decode-sound a b n) (encode-decode a b)

-- what the write of that word leaves
pub wide-laid : (a b : ℕ) → a < 262144 → Say a b → (l m : List ℕ) (i p : ℕ) → i + 8 ≤ length l → m ≡ over l i (le64 (word_of a b))
    → p ≡ i + cond (eqb a 65536) 0 (4 + get_or heads (a / 65536 % 4) 0 % 8) → Laid l i (bytes (own (decode a b))) (i + 8) p m
wide-laid a b f n l m i p h w q =
    let r = wide-own a b f n in
    let k : length (bytes (own (decode a b)) ++ r.rest) ≡ 8 = ap length (sym r.whole) in
    laid_more l i (bytes (own (decode a b))) (i + 8) p m r.rest (omega arith) (w ∙ ap (λ (x : List ℕ). over l i x) r.whole) (q ∙ ap (λ (x : ℕ). i + x) (sym r.size)) (omega arith)
