-- The table against the rules: one computed test, and what it says of a state and a byte. Assumes nothing.
use mathlib.Core.Path.{◌≡◌, refl, sym, ap, ◌∙◌}
use mathlib.Core.List.{List, [], ◌∷◌, map}
use Prim.Native.Nat.{ℕ, zero, suc, ◌+◌, ◌/◌, ◌<◌}
use native.Mathlib.Nat.{zero-add}
use native.Mathlib.Omega.{arith}
use lib.ListN.{length, get_or, get_or-map}
use Rattle.lexical.specs.Lexed.{Rule, Token, nothing, token, coded, or_else, afters, accepted, longest}
use Rattle.lexical.specs.Rules.{rules}
use Rattle.lexical.specs.Table.{width, kind-class, class-list, next-rows, entry, row_of, next, kind-of}
use Rattle.lexical.proofs.States.{states}

-- what is left of the rules in a state
unfoldable pub left : ℕ → List Rule
left s = get_or states (s / width) []

-- what is left of rules behind each byte, from b on
unfoldable along : List Rule → ℕ → List ℕ → List (List Rule)
along rs b [] = []
along rs b (c ∷ cs) = afters b rs ∷ along rs (suc b) cs

all-behind : List Rule → List (List Rule)
all-behind rs = along rs 0 class-list

by_row : List ℕ → List (List Rule)
by_row row = map (λ c. left (entry row c)) class-list

-- THE TEST: of every state behind every byte is left what the table's next state has
table-right : map all-behind states ≡ map by_row next-rows
unfolding all-behind by_row along left states afters class-list next-rows
table-right = refl

-- and the token of the table's kind ends in every state
kinds-right : map {A = List Rule} {B = ℕ → Token} (λ rs n. accepted n rs) states ≡ map {A = List ℕ} {B = ℕ → Token} (λ row. coded (entry row kind-class)) next-rows
unfolding states accepted next-rows
kinds-right = refl

-- ---- what the test says of one state and one byte

none-same : all-behind [] ≡ by_row []
unfolding all-behind by_row along left states afters class-list
none-same = refl

pub class-count : length class-list ≡ 256
unfolding class-list
class-count = refl

at-along : (rs : List Rule) (b : ℕ) (cs : List ℕ) (k : ℕ) → k < length cs → get_or (along rs b cs) k [] ≡ afters (b + k) rs
unfolding along
at-along rs b [] k h = absurd (omega arith)
at-along rs b (c ∷ cs) zero h = let e : b + zero ≡ b = omega arith in rw e
at-along rs b (c ∷ cs) (suc k) h = let e : b + suc k ≡ suc b + k = omega arith in rw e (at-along rs (suc b) cs k (omega arith))

at_map : (f : ℕ → List Rule) (l : List ℕ) (k : ℕ) → k < length l → get_or (map f l) k [] ≡ f (get_or l k 0)
at_map f [] k h = absurd (omega arith)
at_map f (x ∷ l) zero h = refl
at_map f (x ∷ l) (suc k) h = at_map f l k (omega arith)

row-right : (s : ℕ) → all-behind (left s) ≡ by_row (row_of s)
unfolding left row_of
row-right s =
    sym (get_or-map all-behind states (s / width) [])
    ∙ ap (λ (l : List (List (List Rule))). get_or l (s / width) (all-behind [])) table-right
    ∙ ap (get_or (map by_row next-rows) (s / width)) none-same
    ∙ get_or-map by_row next-rows (s / width) []

pub next-right : (s b : ℕ) → b < 256 → afters b (left s) ≡ left (next s b)
unfolding all-behind by_row next
next-right s b h =
    let inside : b < length class-list = omega (arith, class-count) in
    sym (rw zero-add at (at-along (left s) 0 class-list b inside))
    ∙ ap (λ (l : List (List Rule)). get_or l b []) (row-right s)
    ∙ at_map (λ c. left (entry (row_of s) c)) class-list b inside

pub kind-right : (s n : ℕ) → accepted n (left s) ≡ coded (kind-of s) n
unfolding left accepted kind-of row_of
kind-right s n =
    ap (λ (f : ℕ → Token). f n)
    (sym (get_or-map {A = List Rule} {B = ℕ → Token} (λ rs n. accepted n rs) states (s / width) [])
    ∙ ap (λ (l : List (ℕ → Token)). get_or l (s / width) (λ n. nothing)) kinds-right
    ∙ get_or-map {A = List ℕ} {B = ℕ → Token} (λ row. coded (entry row kind-class)) next-rows (s / width) [])

pub start : left width ≡ rules
unfolding left states
start = refl

-- ---- a turn of the loop, and its end

over : (t u v : Token) → or_else (or_else t u) v ≡ or_else t (or_else u v)
over nothing u v = refl
over (token k n) u v = refl

pub one_byte : (s n b : ℕ) (w : List ℕ) → b < 256 → longest (left s) n (b ∷ w) ≡ or_else (longest (left (next s b)) (suc n) w) (coded (kind-of (next s b)) (suc n))
unfolding longest
one_byte s n b w hb = rw (next-right s b hb, kind-right (next s b) (suc n))

pub turn : (s n b k m : ℕ) (w : List ℕ) → b < 256 → or_else (longest (left s) n (b ∷ w)) (coded k m) ≡ or_else (longest (left (next s b)) (suc n) w) (or_else (coded (kind-of (next s b)) (suc n)) (coded k m))
turn s n b k m w hb =
    rw (one_byte s n b w hb)
    (over (longest (left (next s b)) (suc n) w) (coded (kind-of (next s b)) (suc n)) (coded k m))

no-rules : (n : ℕ) (w : List ℕ) → longest [] n w ≡ nothing
unfolding longest afters accepted
no-rules n [] = refl
no-rules n (b ∷ w) = rw (no-rules (suc n) w)

pub dead : (n : ℕ) (w : List ℕ) → longest (left 0) n w ≡ nothing
unfolding left states
dead n w = no-rules n w

pub at-end : (rs : List Rule) (n : ℕ) → longest rs n [] ≡ nothing
unfolding longest
at-end rs n = refl
