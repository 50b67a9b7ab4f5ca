-- Small files, computed: the rows of one table under one theorem.
use Rattle.std.specs.Prelude.{ℕ, ◌≡◌, refl, List, [], ◌∷◌, ◌++◌, map, take, Some, None, Ok, Err}
use Rattle.records.specs.declared.Step.{Step}
use Rattle.records.specs.declared.Step.TheVariants.{Enter as enter, Leave as leave, Token as token, Error as error, Expected as expected}
use Rattle.records.specs.Record.{record_of, bytes}
use Rattle.stepfile.specs.Front.{Found}
use Rattle.stepfile.specs.declared.Fault.TheVariants as F
use Rattle.stepfile.specs.Front.{step_of, front, behind}
use Rattle.stepfile.specs.Answer.{Numbers, says, refuses}
use Rattle.stepfile.specs.Nesting.{nest}
use Rattle.stepfile.specs.File.{ended, walk, file_read}

-- a file, what the whole-file call says of it, what stands at its front, and the rest
record Row : Type 0 where
  file : List ℕ
  said : Numbers
  found : Found
  rest : List ℕ

abbrev row : List ℕ → Numbers → Found → List ℕ → Row
row bs n f r = record { file = bs; said = n; found = f; rest = r }

abbrev got : Row → Row
got r = row r.file (file_read r.file) (front r.file) (behind r.file)

-- a file of steps, and a file at whose front no step stands
abbrev steps : List Step → Numbers → List Row
steps [] n = row [] n (Ok None) [] ∷ []
steps (s ∷ ss) n = row (bytes (s ∷ ss)) n (Ok (Some s)) (bytes ss) ∷ []

abbrev faulty : List ℕ → Numbers → Found → List Row
faulty bs n f = row bs n f bs ∷ []

-- a file that begins with a step and goes on otherwise
abbrev goes : Step → List ℕ → Numbers → List Row
goes s bs n = row (record_of s ++ bs) n (Ok (Some s)) bs ∷ []

-- the listing of docs/RULES.md, section 9, without its first step
abbrev listed : List Step
listed = enter 40 ∷ token 50 1 ∷ leave ∷ token 51 1 ∷ enter 40 ∷ token 50 1 ∷ leave ∷ leave ∷ []

rows : List Row
rows =
    -- the listing, 51 bytes; cut to 50, to 47 and to 3; and 2 bytes more
    steps (enter 41 ∷ listed) (says 0 51 9)
    ++ goes (enter 41) (take 44 (bytes listed)) (refuses 11 47)
    ++ goes (enter 41) (take 41 (bytes listed)) (refuses 13 47)
    ++ faulty (2 ∷ 0 ∷ 1 ∷ []) (refuses 11 0) (Err F.Cut)
    ++ goes (enter 41) (bytes listed ++ (2 ∷ 0 ∷ [])) (refuses 11 51)
    -- P5, P6 and P11 of the rules
    ++ steps (enter 114 ∷ error 32 0 ∷ token 8 1 ∷ leave ∷ []) (says 0 25 4)
    ++ steps (token 64 1 ∷ error 34 0 ∷ enter 114 ∷ error 31 0 ∷ token 3 1 ∷ leave ∷ []) (refuses 13 7)
    ++ steps (enter 42 ∷ enter 40 ∷ enter 41 ∷ leave ∷ leave ∷ leave ∷ []) (says 0 30 6)
    -- a second root; a leave of nothing; no record; a token and an error alone, with any kind and code
    ++ steps (enter 40 ∷ leave ∷ enter 40 ∷ leave ∷ []) (refuses 13 10)
    ++ steps (leave ∷ []) (refuses 13 0)
    ++ steps [] (refuses 13 0)
    ++ steps (token 65535 3 ∷ []) (says 0 7 1)
    ++ steps (error 65535 65535 ∷ []) (says 0 8 1)
    -- a payload past the end, whatever the kind; an unknown kind; a wrong length; a raw count of 0 and of 4; a leave with a payload
    ++ faulty (255 ∷ 255 ∷ 9 ∷ 0 ∷ []) (refuses 11 0) (Err F.Cut)
    ++ faulty (0 ∷ 0 ∷ 9 ∷ 0 ∷ []) (refuses 12 0) (Err F.Unsound)
    ++ faulty (3 ∷ 0 ∷ 1 ∷ 0 ∷ 40 ∷ 0 ∷ 0 ∷ []) (refuses 12 0) (Err F.Unsound)
    ++ faulty (3 ∷ 0 ∷ 3 ∷ 0 ∷ 40 ∷ 0 ∷ 0 ∷ []) (refuses 12 0) (Err F.Unsound)
    ++ goes (enter 40) (3 ∷ 0 ∷ 3 ∷ 0 ∷ 40 ∷ 0 ∷ 4 ∷ []) (refuses 12 6)
    ++ goes (enter 40) (1 ∷ 0 ∷ 2 ∷ 0 ∷ 0 ∷ []) (refuses 12 6)
    -- `break` alone, 27 bytes: SEMICOLON expected and EOF found; that record by itself; the same error in an older file, without what was found
    ++ steps (enter 144 ∷ token 79 1 ∷ expected 3 1 ∷ leave ∷ []) (says 0 27 4)
    ++ goes (enter 144) (3 ∷ 0 ∷ 3 ∷ 0 ∷ 79 ∷ 0 ∷ 1 ∷ 6 ∷ 0 ∷ 5 ∷ 0 ∷ 1 ∷ 0 ∷ 3 ∷ 0 ∷ 1 ∷ 0 ∷ 0 ∷ 0 ∷ 2 ∷ 0 ∷ []) (says 0 27 4)
    ++ (row (6 ∷ 0 ∷ 5 ∷ 0 ∷ 1 ∷ 0 ∷ 3 ∷ 0 ∷ 1 ∷ 0 ∷ []) (says 0 10 1) (Ok (Some (expected 3 1))) [] ∷ [])
    ++ steps (enter 144 ∷ token 79 1 ∷ error 1 3 ∷ leave ∷ []) (says 0 25 4)
    -- record kind 5 with any two kinds; with code 2, and with 1 in the low byte alone; of 4 bytes and of 7; cut, whatever the code
    ++ steps (expected 65535 65534 ∷ []) (says 0 10 1)
    ++ faulty (6 ∷ 0 ∷ 5 ∷ 0 ∷ 2 ∷ 0 ∷ 3 ∷ 0 ∷ 1 ∷ 0 ∷ []) (refuses 12 0) (Err F.Unsound)
    ++ faulty (6 ∷ 0 ∷ 5 ∷ 0 ∷ 1 ∷ 1 ∷ 3 ∷ 0 ∷ 1 ∷ 0 ∷ []) (refuses 12 0) (Err F.Unsound)
    ++ faulty (4 ∷ 0 ∷ 5 ∷ 0 ∷ 1 ∷ 0 ∷ 3 ∷ 0 ∷ []) (refuses 12 0) (Err F.Unsound)
    ++ faulty (7 ∷ 0 ∷ 5 ∷ 0 ∷ 1 ∷ 0 ∷ 3 ∷ 0 ∷ 1 ∷ 0 ∷ 0 ∷ []) (refuses 12 0) (Err F.Unsound)
    ++ goes (enter 144) (6 ∷ 0 ∷ 5 ∷ 0 ∷ 1 ∷ 0 ∷ 3 ∷ 0 ∷ 1 ∷ []) (refuses 11 6)
    ++ faulty (6 ∷ 0 ∷ 5 ∷ 0 ∷ 2 ∷ 0 ∷ 3 ∷ 0 ∷ 1 ∷ []) (refuses 11 0) (Err F.Cut)

table : map got rows ≡ rows
unfolding rows bytes front step_of behind nest ended walk
table = refl
