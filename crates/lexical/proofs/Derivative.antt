-- What is left of an expression behind a byte takes what the expression takes behind that byte. Assumes nothing.
use mathlib.Core.Path.{◌≡◌, refl, sym, ap, subst, ◌∙◌}
use mathlib.Core.Bool.{Bool, true, false}
use mathlib.Core.List.{List, [], ◌∷◌, ◌++◌}
use mathlib.Core.Logic.{◌⊎◌, inl, inr, ⊎_elim, ◌↔◌}
use Prim.Native.Nat.{ℕ, zero, suc}
use native.Mathlib.Omega.{arith}
use lib.Dec.{T}
use Rattle.lexical.specs.Regular.{pick, has, Re, none, empty, one, seq, alt, star, Times, Matches, seq', or-none, alt', nullable, after}

pub cons-nil : {b : ℕ} {w : List ℕ} → b ∷ w ≡ [] → ⊥
cons-nil e = let z : ◌≡◌ {A = ℕ} 0 1 = cc in omega arith

-- a text that begins with b is split before b or behind it
abbrev Split : (P Q : List ℕ → Type 0) → List ℕ → Type 0
Split P Q w = (u : List ℕ) × (v : List ℕ) × (w ≡ u ++ v) × P u × Q v

split : {P Q : List ℕ → Type 0} {b : ℕ} {w : List ℕ} → Split P Q (b ∷ w) → (P [] × Q (b ∷ w)) ⊎ Split (λ u. P (b ∷ u)) Q w
split {P} {Q} {b} {w} m = by m.0 m.2 m.3
  where
    by : (u : List ℕ) → b ∷ w ≡ u ++ m.1 → P u → (P [] × Q (b ∷ w)) ⊎ Split (λ u. P (b ∷ u)) Q w
    by [] e p = inl (p, rw e m.4)
    by (c ∷ u) e p =
        let same : c ≡ b = cc in
        inr (u, m.1, cc, subst (λ (x : ℕ). P (x ∷ u)) same p, m.4)

-- the same of a row of texts: its first that is not empty
first_of : (P Q : List ℕ → Type 0) (b : ℕ) → ((u : List ℕ) → P (b ∷ u) → Q u) → (n : ℕ) (w : List ℕ) → Times n P (b ∷ w) → Split Q (λ v. (n : ℕ) × Times n P v) w
first_of P Q b f zero w m = absurd (cons-nil m)
first_of P Q b f (suc n) w m =
    ⊎_elim
    (λ h. first_of P Q b f n w h.1)
    (λ h. (h.0, h.1, h.2, f h.0 h.3, (n, h.4)))
    (split {P = P} {Q = Times n P} m)

-- ---- the smart constructors take what the plain ones take

seq'-sound : (w : List ℕ) (r s : Re) → Matches (seq' r s) w → Matches (seq r s) w
unfolding seq'
seq'-sound w none s m = absurd m
seq'-sound w empty s m = ([], w, refl, refl, m)
seq'-sound w (one x) s m = m
seq'-sound w (seq p q) s m = m
seq'-sound w (alt p q) s m = m
seq'-sound w (star p) s m = m

seq'-complete : (w : List ℕ) (r s : Re) → Matches (seq r s) w → Matches (seq' r s) w
unfolding seq'
seq'-complete w none s m = absurd m.3
seq'-complete w empty s m = subst (Matches s) (sym (m.2 ∙ ap (λ (u : List ℕ). u ++ m.1) m.3)) m.4
seq'-complete w (one x) s m = m
seq'-complete w (seq p q) s m = m
seq'-complete w (alt p q) s m = m
seq'-complete w (star p) s m = m

or-none-same : (w : List ℕ) (r s : Re) → Matches (or-none r s) w ↔ (Matches r w ⊎ Matches s w)
unfolding or-none
or-none-same w r none = (inl, ⊎_elim (λ m. m) (λ m. absurd m))
or-none-same w r empty = (λ m. m, λ m. m)
or-none-same w r (one x) = (λ m. m, λ m. m)
or-none-same w r (seq p q) = (λ m. m, λ m. m)
or-none-same w r (alt p q) = (λ m. m, λ m. m)
or-none-same w r (star p) = (λ m. m, λ m. m)

alt'-same : (w : List ℕ) (r s : Re) → Matches (alt' r s) w ↔ (Matches r w ⊎ Matches s w)
unfolding alt'
alt'-same w none s = (inr, ⊎_elim (λ m. absurd m) (λ m. m))
alt'-same w empty s = or-none-same w empty s
alt'-same w (one x) s = or-none-same w (one x) s
alt'-same w (seq p q) s = or-none-same w (seq p q) s
alt'-same w (alt p q) s = or-none-same w (alt p q) s
alt'-same w (star p) s = or-none-same w (star p) s

-- what stands for a `seq` behind a byte: the second part counts where the first takes the empty text
past_same : (w : List ℕ) (x : Bool) (r s : Re) → Matches (pick x (alt' r s) r) w ↔ (Matches r w ⊎ (T x × Matches s w))
past_same w true r s = (λ m. ⊎_elim inl (λ q. inr (tt, q)) ((alt'-same w r s).0 m), λ m. (alt'-same w r s).1 (⊎_elim inl (λ q. inr q.1) m))
past_same w false r s = (inl, ⊎_elim (λ p. p) (λ q. absurd q.0))

-- ---- the empty text

append-nil : (u v : List ℕ) → [] ≡ u ++ v → (u ≡ []) × (v ≡ [])
append-nil [] v e = (refl, sym e)
append-nil (b ∷ u) v e = absurd (cons-nil (sym e))

both-same : (x y : Bool) → T (pick x y false) ↔ (T x × T y)
both-same true y = (λ t. (tt, t), λ t. t.1)
both-same false y = (λ t. absurd t, λ t. t.0)

either_same : (x y : Bool) → T (pick x true y) ↔ (T x ⊎ T y)
either_same true y = (λ t. inl tt, λ t. tt)
either_same false y = (inr, ⊎_elim (λ p. absurd p) (λ q. q))

pub nullable-sound : (r : Re) → T (nullable r) → Matches r []
unfolding nullable
nullable-sound none t = absurd t
nullable-sound empty t = refl
nullable-sound (one s) t = absurd t
nullable-sound (seq r s) t =
    let both : T (nullable r) × T (nullable s) = (both-same (nullable r) (nullable s)).0 t in
    ([], [], refl, nullable-sound r both.0, nullable-sound s both.1)
nullable-sound (alt r s) t =
    ⊎_elim (λ p. inl (nullable-sound r p)) (λ q. inr (nullable-sound s q)) ((either_same (nullable r) (nullable s)).0 t)
nullable-sound (star r) t = (zero, refl)

pub nullable-complete : (r : Re) → Matches r [] → T (nullable r)
unfolding nullable
nullable-complete none m = m
nullable-complete empty m = tt
nullable-complete (one s) m = absurd (cons-nil (sym m.1))
nullable-complete (seq r s) m =
    let parts : (m.0 ≡ []) × (m.1 ≡ []) = append-nil m.0 m.1 m.2 in
    (both-same (nullable r) (nullable s)).1
    (nullable-complete r (subst (Matches r) parts.0 m.3), nullable-complete s (subst (Matches s) parts.1 m.4))
nullable-complete (alt r s) m =
    (either_same (nullable r) (nullable s)).1 (⊎_elim (λ p. inl (nullable-complete r p)) (λ q. inr (nullable-complete s q)) m)
nullable-complete (star r) m = tt

-- ---- a byte more

one_same : (w : List ℕ) (x : Bool) → Matches (pick x empty none) w ↔ ((w ≡ []) × T x)
one_same w true = (λ m. (m, tt), λ m. m.0)
one_same w false = (λ m. absurd m, λ m. m.1)

pub after-sound : (b : ℕ) (w : List ℕ) (r : Re) → Matches (after b r) w → Matches r (b ∷ w)
unfolding after
after-sound b w none m = m
after-sound b w empty m = absurd m
after-sound b w (one s) m =
    let parts : (w ≡ []) × T (has s b) = (one_same w (has s b)).0 m in
    (b, ap (λ (v : List ℕ). b ∷ v) parts.0, parts.1)
after-sound b w (seq r s) m =
    ⊎_elim
    (λ p. let q : Matches (seq (after b r) s) w = seq'-sound w (after b r) s p in
    (b ∷ q.0, q.1, ap (λ (v : List ℕ). b ∷ v) q.2, after-sound b q.0 r q.3, q.4))
    (λ q. ([], b ∷ w, refl, nullable-sound r q.0, after-sound b w s q.1))
    ((past_same w (nullable r) (seq' (after b r) s) (after b s)).0 m)
after-sound b w (alt r s) m =
    ⊎_elim (λ p. inl (after-sound b w r p)) (λ q. inr (after-sound b w s q)) ((alt'-same w (after b r) (after b s)).0 m)
after-sound b w (star r) m =
    let p : Matches (seq (after b r) (star r)) w = seq'-sound w (after b r) (star r) m in
    (suc p.4.0, (b ∷ p.0, p.1, ap (λ (v : List ℕ). b ∷ v) p.2, after-sound b p.0 r p.3, p.4.1))

pub after-complete : (b : ℕ) (w : List ℕ) (r : Re) → Matches r (b ∷ w) → Matches (after b r) w
unfolding after
after-complete b w none m = m
after-complete b w empty m = absurd (cons-nil m)
after-complete b w (one s) m =
    let same : m.0 ≡ b = cc m.1 in
    (one_same w (has s b)).1 (cc m.1, subst (λ (x : ℕ). T (has s x)) same m.2)
after-complete b w (seq r s) m =
    (past_same w (nullable r) (seq' (after b r) s) (after b s)).1
    (⊎_elim
    (λ h. inr (nullable-complete r h.0, after-complete b w s h.1))
    (λ h. inl (seq'-complete w (after b r) s (h.0, h.1, h.2, after-complete b h.0 r h.3, h.4)))
    (split {P = Matches r} {Q = Matches s} m))
after-complete b w (alt r s) m =
    (alt'-same w (after b r) (after b s)).1 (⊎_elim (λ p. inl (after-complete b w r p)) (λ q. inr (after-complete b w s q)) m)
after-complete b w (star r) m =
    seq'-complete w (after b r) (star r) (first_of (Matches r) (Matches (after b r)) b (λ u p. after-complete b u r p) m.0 w m.1)
