-- The tokens of a text: the longest prefix that some rule takes, of the first such rule; then on behind it.
-- Assumes nothing: these are definitions.
use Rattle.std.specs.Prelude.{◌≡◌, List, [], ◌∷◌, ◌⊎◌, ℕ, zero, suc, ◌≤◌, ◌<◌, length, take, drop}
use Rattle.lexical.specs.Regular.{pick, Re, none, empty, one, seq, alt, star, Matches, nullable, after}

-- a rule: its kind, and what it takes
abbrev pub Rule : Type 0
Rule = ℕ × Re

-- a kind and a length in bytes, or no token
pub data Token : Type 0 where
  nothing : Token
  token : ℕ → ℕ → Token

-- ---- what is meant

-- no rule takes the text
abbrev pub NoRule : List Rule → List ℕ → Type 0
NoRule [] w = Unit {0}
NoRule (r ∷ rs) w = (Matches r.1 w → ⊥) × NoRule rs w

-- a rule of the kind takes the text, and none before it does
abbrev pub FirstRule : List Rule → ℕ → List ℕ → Type 0
FirstRule [] k w = ⊥
FirstRule (r ∷ rs) k w = ((r.0 ≡ k) × Matches r.1 w) ⊎ ((Matches r.1 w → ⊥) × FirstRule rs k w)

-- the token of kind k and n bytes is the right one at the beginning of the text
pub record Longest (rs : List Rule) (w : List ℕ) (k n : ℕ) : Type 0 where
  pub some : 1 ≤ n
  pub fits : n ≤ length w
  pub first : FirstRule rs k (take n w)
  pub none-longer : (m : ℕ) → n < m → m ≤ length w → NoRule rs (take m w)

-- the tokens are right, one behind the other up to the end of the text
abbrev pub Tiles : List Rule → List ℕ → List Token → Type 0
Tiles rs w [] = w ≡ []
Tiles rs w (nothing ∷ ts) = ⊥
Tiles rs w (token k n ∷ ts) = Longest rs w k n × Tiles rs (drop n w) ts

-- ---- what computes

unfoldable pub keep : ℕ → Re → List Rule → List Rule
keep k none rs = rs
keep k empty rs = (k, empty) ∷ rs
keep k (one s) rs = (k, one s) ∷ rs
keep k (seq r s) rs = (k, seq r s) ∷ rs
keep k (alt r s) rs = (k, alt r s) ∷ rs
keep k (star r) rs = (k, star r) ∷ rs

-- what is left of the rules behind a byte
unfoldable pub afters : ℕ → List Rule → List Rule
unfolding keep after
afters b [] = []
afters b (r ∷ rs) = keep r.0 (after b r.1) (afters b rs)

-- the first rule that takes the empty text, as a token of n bytes
unfoldable pub accepted : ℕ → List Rule → Token
unfolding nullable
accepted n [] = nothing
accepted n (r ∷ rs) = pick (nullable r.1) (token r.0 n) (accepted n rs)

-- a token as the code has it: kind 0 for none
abbrev pub coded : ℕ → ℕ → Token
coded zero n = nothing
coded (suc k) n = token (suc k) n

abbrev pub or_else : Token → Token → Token
or_else nothing t = t
or_else (token k n) t = token k n

-- the token at the beginning of the text, where n bytes are passed already
unfoldable pub longest : List Rule → ℕ → List ℕ → Token
unfolding afters accepted
longest rs n [] = nothing
longest rs n (b ∷ w) = or_else (longest (afters b rs) (suc n) w) (accepted (suc n) (afters b rs))

-- how many bytes of the token are left behind its first
abbrev pub rest : Token → ℕ
rest nothing = 0
rest (token k zero) = 0
rest (token k (suc n)) = n

-- the tokens behind the next k bytes
unfoldable pub tokens : List Rule → ℕ → List ℕ → List Token
unfolding longest
tokens rs k [] = []
tokens rs zero (b ∷ w) = longest rs 0 (b ∷ w) ∷ tokens rs (rest (longest rs 0 (b ∷ w))) w
tokens rs (suc k) (b ∷ w) = tokens rs k w

abbrev pub lexed : List Rule → List ℕ → List Token
lexed rs w = tokens rs 0 w

-- the words of a list of tokens: kind and length of each
unfoldable pub words : List Token → List ℕ
words [] = []
words (nothing ∷ ts) = words ts
words (token k n ∷ ts) = k ∷ n ∷ words ts
