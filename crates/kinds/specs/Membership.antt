-- When a set has a kind. Assumes nothing: these are definitions.
use Rattle.std.specs.Prelude.{List, [], ◌∷◌, Bool, true, false, cond, ℕ, zero, suc, ◌+◌, ◌/◌, ◌%◌, ◌^◌, eqb, get_or}
use Rattle.kinds.specs.declared.token_set.TokenSet.{TokenSet}

abbrev pub both : Bool → Bool → Bool
both a b = cond a b false

-- bit i of words of 64 bits, lowest first; beyond the words every bit is 0
unfoldable pub bit : List ℕ → ℕ → Bool
bit ws i = eqb (get_or ws (i / 64) 0 / 2 ^ (i % 64) % 2) 1

-- the kinds that a set has
abbrev pub held : TokenSet → ℕ → Bool
held s = bit s.words

-- the kinds that are listed
unfoldable pub one_of : List ℕ → ℕ → Bool
one_of [] k = false
one_of (x ∷ xs) k = cond (eqb k x) true (one_of xs k)

-- the kinds of one or the other
abbrev pub either : (ℕ → Bool) → (ℕ → Bool) → ℕ → Bool
either f g k = cond (f k) true (g k)

-- ---- how many kinds there are

-- a listing with each kind once: where one is named again, the last name stays
unfoldable pub once : List ℕ → List ℕ
once [] = []
once (x ∷ xs) = cond (one_of xs x) (once xs) (x ∷ once xs)

-- how many of the numbers below n a test holds of
unfoldable pub count : ℕ → (ℕ → Bool) → ℕ
count zero f = 0
count (suc n) f = cond (f n) 1 0 + count n f

-- the number of kinds that a test holds of: a kind is a number below 65,536
abbrev pub number : (ℕ → Bool) → ℕ
number = count 65536
