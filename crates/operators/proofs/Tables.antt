-- Tables of powers from their rows: the facts about a table, the words of the code, and the specification's order. Each is a test that antt
-- computes, and a law over any rows. Assumes nothing.
use mathlib.Core.Path.{◌≡◌, refl, sym, ap, subst}
use mathlib.Core.Logic.{◌⊎◌, inl, inr}
use mathlib.Core.Bool.{Bool, true, false, cond}
use mathlib.Core.List.{List, [], ◌∷◌}
use Prim.Native.Nat.{ℕ, zero, suc, ◌+◌, ◌-◌, ◌*◌, ◌/◌, ◌%◌, ◌^◌, ◌≤◌, ◌<◌}
use native.Mathlib.Omega.{arith}
use lib.Dec.{T, eqb, ltb, leb, eqb→eq, ltb→lt, leb→le}
use lib.ListN.{get_or}
use borrow.Author.Tests.{eqb-true, eqb-false}
use Rattle.laws.proofs.Tests.{apart}
use Rattle.kinds.proofs.Laws.{both-parts}
use Rattle.kinds.specs.Membership.{one_of, both}
use Rattle.kinds.specs.Kinds.{DOT3, FAT-ARROW}
use Rattle.operators.specs.Operators.{Power, Table, arms, finds, left, assignments, operators, side, Fair, Follows, stands, specification_lines, listed, packed, crate_order, specification_order, rows_of, table_of}

-- ---- what a test tells of each

-- of each of some kinds
unfoldable pub all : (ℕ → Bool) → List ℕ → Bool
all f [] = true
all f (k ∷ ks) = both (f k) (all f ks)

of-all : (f : ℕ → Bool) (ks : List ℕ) → T (all f ks) → (k : ℕ) → one_of ks k ≡ true → T (f k)
unfolding all one_of
of-all f [] t k h = apart h
of-all f (x ∷ ks) t k h = by (eqb k x) refl (of-all f ks (both-parts (f x) (all f ks) t).1 k) h
  where
    by : (b : Bool) → eqb k x ≡ b → (one_of ks k ≡ true → T (f k)) → cond b true (one_of ks k) ≡ true → T (f k)
    by true e rest q = rw (eqb-true k x e) (both-parts (f x) (all f ks) t).0
    by false e rest q = rest q

-- of each row: what is not listed is no operator
unfoldable pub every : (ℕ → Power → Bool) → List (ℕ × Power) → Bool
every f [] = true
every f (r ∷ rs) = both (f r.0 r.1) (every f rs)

each : (f : ℕ → Power → Bool) (rs : List (ℕ × Power)) → T (every f rs) → (k : ℕ) → (listed rs k ≡ left 0) ⊎ T (f k (listed rs k))
unfolding every
each f [] t k = inl refl
each f (r ∷ rs) t k = by (eqb k r.0) refl (each f rs (both-parts (f r.0 r.1) (every f rs) t).1 k)
  where
    by : (b : Bool) → eqb k r.0 ≡ b → (listed rs k ≡ left 0) ⊎ T (f k (listed rs k)) → (cond b r.1 (listed rs k) ≡ left 0) ⊎ T (f k (cond b r.1 (listed rs k)))
    by true e y = inr (rw (eqb-true k r.0 e) (both-parts (f r.0 r.1) (every f rs) t).0)
    by false e y = y

-- two lists of kinds that are each other's have the same ones
same-kinds : (ks ls : List ℕ) → T (all (one_of ls) ks) → T (all (one_of ks) ls) → (k : ℕ) → one_of ks k ≡ one_of ls k
same-kinds ks ls t s k = by (one_of ks k) refl (one_of ls k) refl
  where
    by : (a : Bool) → one_of ks k ≡ a → (b : Bool) → one_of ls k ≡ b → a ≡ b
    by true e true f = refl
    by false e false f = refl
    by true e false f = absurd (subst T f (of-all (one_of ls) ks t k e))
    by false e true f = absurd (subst T e (of-all (one_of ks) ls s k f))

-- ---- the facts about a table

-- what the arms find is an operator, `...` or `=>`, and each of these is found
pub arms-find : (k : ℕ) → one_of (finds arms) k ≡ one_of (DOT3 ∷ FAT-ARROW ∷ operators) k
unfolding all one_of
arms-find = same-kinds (finds arms) (DOT3 ∷ FAT-ARROW ∷ operators) tt tt

all-operators : T (all (one_of operators) assignments)
unfolding all one_of
all-operators = tt

is_true : (b : Bool) → T b → b ≡ true
is_true true t = refl
is_true false t = absurd t

-- a row is an operator's, with a power of at most 254 and the right side of its sort
abbrev sound : ℕ → Power → Bool
sound k q = both (one_of operators k) (both (leb q.power 254) (eqb q.next (q.power + side k)))

abbrev powered : Table → ℕ → Bool
powered ops k = leb 1 (ops k).power

-- each row is sound, and no operator lacks a power
abbrev pub fair : List (ℕ × Power) → Bool
fair rs = both (every sound rs) (all (powered (listed rs)) operators)

pub rows-fair : (rs : List (ℕ × Power)) → T (fair rs) → Fair (listed rs)
rows-fair rs t = record { none = none; least = least; most = most; right_side = right_side }
  where
    tests : T (every sound rs) × T (all (powered (listed rs)) operators)
    tests = both-parts (every sound rs) (all (powered (listed rs)) operators) t

    rows : (k : ℕ) → (listed rs k ≡ left 0) ⊎ T (sound k (listed rs k))
    rows = each sound rs tests.0

    least : (k : ℕ) → one_of operators k ≡ true → 1 ≤ (listed rs k).power
    least k h = leb→le _ _ (of-all (powered (listed rs)) operators tests.1 k h)

    parts : (k : ℕ) → T (sound k (listed rs k)) → T (one_of operators k) × ((listed rs k).power ≤ 254) × ((listed rs k).next ≡ (listed rs k).power + side k)
    parts k s =
        let q = listed rs k in
        let a = both-parts (one_of operators k) (both (leb q.power 254) (eqb q.next (q.power + side k))) s in
        let b = both-parts (leb q.power 254) (eqb q.next (q.power + side k)) a.1 in
        (a.0, leb→le _ _ b.0, eqb→eq _ _ b.1)

    none : (k : ℕ) → one_of operators k ≡ false → (listed rs k).power ≡ 0
    none k h = by (rows k)
      where
        by : (listed rs k ≡ left 0) ⊎ T (sound k (listed rs k)) → (listed rs k).power ≡ 0
        by (inl e) = ap (λ (q : Power). q.power) e
        by (inr s) = absurd (subst T h (parts k s).0)

    most : (k : ℕ) → (listed rs k).power ≤ 254
    most k = by (rows k)
      where
        by : (listed rs k ≡ left 0) ⊎ T (sound k (listed rs k)) → (listed rs k).power ≤ 254
        by (inl e) = rw e (omega arith)
        by (inr s) = (parts k s).1

    right_side : (k : ℕ) → (listed rs k).next ≡ (listed rs k).power + side k
    right_side k = by (rows k)
      where
        -- what is not listed is no assignment, which has a power
        bare : (b : Bool) → one_of assignments k ≡ b → listed rs k ≡ left 0 → ◌≡◌ {A = ℕ} 1 (cond b 0 1)
        bare true e z = absurd (let h = least k (is_true _ (of-all (one_of operators) assignments all-operators k e)) in omega (arith, ap (λ (q : Power). q.power) z))
        bare false e z = refl

        by : (listed rs k ≡ left 0) ⊎ T (sound k (listed rs k)) → (listed rs k).next ≡ (listed rs k).power + side k
        by (inl e) = let h : ◌≡◌ {A = ℕ} 1 (side k) = bare (one_of assignments k) refl e in rw e (omega arith)
        by (inr s) = (parts k s).2

-- So the right side is read at the operator's power or one higher, and a power stands in one number with its side.
pub near : {ops : Table} → Fair ops → (k : ℕ) → ((ops k).power ≤ (ops k).next) × ((ops k).next ≤ (ops k).power + 1)
near {ops} h k = (omega (arith, h.right_side k), omega (arith, h.right_side k, one (one_of assignments k)))
  where
    one : (b : Bool) → cond b 0 1 ≤ 1
    one true = omega arith
    one false = omega arith

pub packed-power : {ops : Table} → Fair ops → (k : ℕ) → packed (ops k) / 2 ≡ (ops k).power
packed-power h k = let n = near h k in omega arith

pub packed-next : {ops : Table} → Fair ops → (k : ℕ) → (ops k).power + 1 - packed (ops k) % 2 ≡ (ops k).next
packed-next h k = let n = near h k in omega arith

pub packed-small : {ops : Table} → Fair ops → (k : ℕ) {b : ℕ} → b ≡ packed (ops k) → b / 2 ≤ 254
packed-small h k e = omega (arith, packed-power h k, h.most k)

-- ---- the code's words

-- the byte of a kind: eight to a word
abbrev pub byte : List ℕ → ℕ → ℕ
byte ws k = get_or ws (k / 8) 0 / 2 ^ (8 * (k % 8)) % 256

-- n bytes from kind k on in one number, lowest first, and the seven words of some rows
unfoldable pub bytes : List (ℕ × Power) → ℕ → ℕ → ℕ
bytes rs k zero = 0
bytes rs k (suc n) = packed (listed rs k) + 256 * bytes rs (k + 1) n

abbrev pub words : List (ℕ × Power) → List ℕ
words rs = bytes rs 0 8 ∷ bytes rs 8 8 ∷ bytes rs 16 8 ∷ bytes rs 24 8 ∷ bytes rs 32 8 ∷ bytes rs 40 8 ∷ bytes rs 48 8 ∷ []

-- the bytes below n say what is listed
unfoldable pub agree : ℕ → List ℕ → List (ℕ × Power) → Bool
agree zero ws rs = true
agree (suc n) ws rs = both (eqb (byte ws n) (packed (listed rs n))) (agree n ws rs)

-- and nothing else is listed
abbrev under : ℕ → ℕ → Power → Bool
under n k q = ltb k n

abbrev pub written : List ℕ → List (ℕ × Power) → Bool
written ws rs = both (every (under 56) rs) (agree 56 ws rs)

in_words : (n : ℕ) (ws : List ℕ) (rs : List (ℕ × Power)) → T (agree n ws rs) → (k : ℕ) → k < n → byte ws k ≡ packed (listed rs k)
unfolding agree
in_words zero ws rs t k h = absurd (omega arith)
in_words (suc n) ws rs t k h = by (eqb k n) refl (in_words n ws rs (both-parts (eqb (byte ws n) (packed (listed rs n))) (agree n ws rs) t).1 k)
  where
    by : (b : Bool) → eqb k n ≡ b → (k < n → byte ws k ≡ packed (listed rs k)) → byte ws k ≡ packed (listed rs k)
    by true e before = rw (eqb-true k n e) (eqb→eq _ _ (both-parts (eqb (byte ws n) (packed (listed rs n))) (agree n ws rs) t).0)
    by false e before = before (omega (arith, eqb-false k n e))

past_words : (rs : List (ℕ × Power)) → T (every (under 56) rs) → (k : ℕ) → 56 ≤ k → 0 ≡ packed (listed rs k)
past_words rs t k h = by (each (under 56) rs t k)
  where
    by : (listed rs k ≡ left 0) ⊎ T (ltb k 56) → 0 ≡ packed (listed rs k)
    by (inl e) = sym (ap packed e)
    by (inr s) = absurd (omega (arith, ltb→lt k 56 s))

-- ---- the order of some lines

unfoldable pub on_lines : (ℕ → Bool) → List (List ℕ) → Bool
on_lines f [] = true
on_lines f (l ∷ ls) = both (all f l) (on_lines f ls)

of-lines : (f : ℕ → Bool) (ls : List (List ℕ)) → T (on_lines f ls) → (i k : ℕ) → stands ls i k ≡ true → T (f k)
unfolding on_lines one_of
of-lines f [] t i k h = apart h
of-lines f (l ∷ ls) t zero k h = of-all f l (both-parts (all f l) (on_lines f ls) t).0 k h
of-lines f (l ∷ ls) t (suc i) k h = of-lines f ls (both-parts (all f l) (on_lines f ls) t).1 i k h

-- every two of a line have one power, and each of it a greater one than all on the lines below
abbrev pub even : Table → List ℕ → Bool
even ops l = all (λ a. all (λ b. eqb (ops a).power (ops b).power) l) l

abbrev pub over : Table → List ℕ → List (List ℕ) → Bool
over ops l ls = all (λ a. on_lines (λ b. ltb (ops b).power (ops a).power) ls) l

unfoldable pub descends : Table → List (List ℕ) → Bool
descends ops [] = true
descends ops (l ∷ ls) = both (even ops l) (both (over ops l ls) (descends ops ls))

pub in_order : (ops : Table) (ls : List (List ℕ)) → T (descends ops ls) → Follows ls ops
unfolding descends one_of
in_order ops ls t = record { alike = alike ls t; tighter = tighter ls t }
  where
    here : (l : List ℕ) (ls : List (List ℕ)) → T (descends ops (l ∷ ls)) → T (even ops l) × T (over ops l ls) × T (descends ops ls)
    here l ls t =
        let a = both-parts (even ops l) (both (over ops l ls) (descends ops ls)) t in
        let b = both-parts (over ops l ls) (descends ops ls) a.1 in
        (a.0, b.0, b.1)

    alike : (ls : List (List ℕ)) → T (descends ops ls) → (i a b : ℕ) → stands ls i a ≡ true → stands ls i b ≡ true → (ops a).power ≡ (ops b).power
    alike [] t i a b ha hb = apart ha
    alike (l ∷ ls) t zero a b ha hb =
        eqb→eq _ _ (of-all (λ y. eqb (ops a).power (ops y).power) l (of-all (λ x. all (λ y. eqb (ops x).power (ops y).power) l) l (here l ls t).0 a ha) b hb)
    alike (l ∷ ls) t (suc i) a b ha hb = alike ls (here l ls t).2 i a b ha hb

    tighter : (ls : List (List ℕ)) → T (descends ops ls) → (i j a b : ℕ) → i < j → stands ls i a ≡ true → stands ls j b ≡ true → (ops b).power < (ops a).power
    tighter [] t i j a b h ha hb = apart ha
    tighter (l ∷ ls) t i zero a b h ha hb = absurd (omega arith)
    tighter (l ∷ ls) t zero (suc j) a b h ha hb =
        ltb→lt _ _ (of-lines (λ y. ltb (ops y).power (ops a).power) ls (of-all (λ x. on_lines (λ y. ltb (ops y).power (ops x).power) ls) l (here l ls t).1 a ha) j b hb)
    tighter (l ∷ ls) t (suc i) (suc j) a b h ha hb = tighter ls (here l ls t).2 i j a b (omega arith) ha hb

-- ---- both modes

tested : (mode : ℕ) → T (both (fair (rows_of mode)) (written (words (rows_of mode)) (rows_of mode)))
unfolding all every agree one_of bytes
tested zero = tt
tested (suc n) = tt

pub mode-fair : (mode : ℕ) → Fair (table_of mode)
unfolding table_of
mode-fair mode = rows-fair (rows_of mode) (both-parts (fair (rows_of mode)) (written (words (rows_of mode)) (rows_of mode)) (tested mode)).0

mode-written : (mode : ℕ) → T (every (under 56) (rows_of mode)) × T (agree 56 (words (rows_of mode)) (rows_of mode))
mode-written mode =
    both-parts (every (under 56) (rows_of mode)) (agree 56 (words (rows_of mode)) (rows_of mode)) (both-parts (fair (rows_of mode)) (written (words (rows_of mode)) (rows_of mode)) (tested mode)).1

pub mode-byte : (mode : ℕ) {rs : List (ℕ × Power)} → rows_of mode ≡ rs → (k : ℕ) → k < 56 → byte (words rs) k ≡ packed (table_of mode k)
unfolding table_of
mode-byte mode e k h = rw (sym e) (in_words 56 (words (rows_of mode)) (rows_of mode) (mode-written mode).1 k h)

pub mode-past : (mode k : ℕ) → 56 ≤ k → 0 ≡ packed (table_of mode k)
unfolding table_of
mode-past mode k h = past_words (rows_of mode) (mode-written mode).0 k h

-- the rows of mode 0, and of any other
pub rows-zero : (mode : ℕ) → mode ≡ 0 → rows_of mode ≡ crate_order
rows-zero mode e = rw e refl

pub rows_other : (mode : ℕ) → (mode ≡ 0 → ⊥) → rows_of mode ≡ specification_order
rows_other zero h = absurd (h refl)
rows_other (suc n) h = refl

-- mode 1 is the specification's order
pub follows : Follows specification_lines (table_of 1)
unfolding table_of descends all on_lines one_of
follows = in_order (table_of 1) specification_lines tt

-- and mode 0 is not
pub crate-does-not : descends (table_of 0) specification_lines ≡ false
unfolding table_of descends all on_lines one_of
crate-does-not = refl
