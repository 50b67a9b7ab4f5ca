-- What the contracts of a walk over a text and its tokens cite.
use Rattle.std.specs.Prelude.{ℕ, ◌≤◌, ◌≡◌, Bool, cond, true, false, List, leb}
use Rattle.position.specs.declared.Spot.{Spot}
use Rattle.position.specs.declared.Cursor.{Cursor}
use Rattle.position.specs.Position.{ended, began, count, kind_of, is_trivia, passed, byte_of}

-- what is kept of byte n on the way
abbrev pub spot : List ℕ → ℕ → Spot
spot t n = record { at = n; lines = ended t n; start = began t n }

-- what is kept on the way, before token i
abbrev pub cursor : List ℕ → List ℕ → ℕ → Cursor
cursor t ws i = record { token = i; place = passed ws i; spot = spot t (byte_of t ws i) }

-- a cursor of this text and this list
pub record Stands (t ws : List ℕ) (c : Cursor) : Type 0 where
  pub is : c ≡ cursor t ws c.token
  pub inside : c.token ≤ count ws

abbrev pub begins : Cursor
begins = record { token = 0; place = 0; spot = record { at = 0; lines = 0; start = 0 } }

-- whether a walk ends at token i, with p asked for and q passed
unfoldable pub has_come : List ℕ → ℕ → ℕ → ℕ → Bool
has_come ws p i q = cond (leb (count ws) i) true (cond (is_trivia (kind_of ws i)) false (leb p q))
