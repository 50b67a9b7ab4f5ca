-- Small texts, computed: where each token stands, and the end of the text.
use Rattle.std.specs.Prelude.{ℕ, ◌≡◌, refl, List, [], ◌∷◌, map}
use Rattle.kinds.specs.Kinds.{WHITESPACE, COMMENT, IDENT, SEMICOLON}
use Rattle.position.specs.declared.Position.{Position}
use Rattle.position.specs.Position.{ends, ended, began, is_trivia, offset, passed, is_at, seek, position, position_of}

abbrev at : ℕ → ℕ → Position
at l c = record { line = l; column = c }

-- `a` LF CR `b` CR LF LF: the LF is the last of its line, the CR a line by itself, and the CR LF one end
text : List ℕ
text = 97 ∷ 10 ∷ 13 ∷ 98 ∷ 13 ∷ 10 ∷ 10 ∷ []

each-byte : map (position text) (0 ∷ 1 ∷ 2 ∷ 3 ∷ 4 ∷ 5 ∷ 6 ∷ 7 ∷ []) ≡ at 1 1 ∷ at 1 2 ∷ at 2 1 ∷ at 3 1 ∷ at 3 2 ∷ at 3 3 ∷ at 4 1 ∷ at 5 1 ∷ []
unfolding text ended began ends
each-byte = refl

-- the same text's tokens: `a`, white space, `b`, white space. Behind the second name stands the end, whatever the place.
each-token : map (position_of text (IDENT ∷ 1 ∷ WHITESPACE ∷ 2 ∷ IDENT ∷ 1 ∷ WHITESPACE ∷ 3 ∷ [])) (0 ∷ 1 ∷ 2 ∷ 3 ∷ []) ≡ at 1 1 ∷ at 3 1 ∷ at 5 1 ∷ at 5 1 ∷ []
unfolding text ended began ends is_trivia offset passed is_at seek
each-token = refl

-- `/*` LF `*/x;`: a line ends in a comment too, and columns are bytes
commented : map (position_of (47 ∷ 42 ∷ 10 ∷ 42 ∷ 47 ∷ 120 ∷ 59 ∷ []) (COMMENT ∷ 5 ∷ IDENT ∷ 1 ∷ SEMICOLON ∷ 1 ∷ [])) (0 ∷ 1 ∷ 2 ∷ []) ≡ at 2 3 ∷ at 2 4 ∷ at 2 5 ∷ []
unfolding ended began ends is_trivia offset passed is_at seek
commented = refl

-- no text, and one of white space alone
none : position_of [] [] 0 ≡ at 1 1
unfolding ended began ends offset passed is_at seek
none = refl

blank : position_of (32 ∷ 10 ∷ []) (WHITESPACE ∷ 2 ∷ []) 0 ≡ at 2 1
unfolding ended began ends is_trivia offset passed is_at seek
blank = refl
