-- What stands at the front of a step file (docs/RULES.md, section 7), and the rest behind it.
use Rattle.std.specs.Prelude.{ℕ, ◌+◌, ◌*◌, cond, List, eqb, ltb, length, get_or, drop, Option, Some, None, Result, Ok, Err}
use Rattle.records.specs.declared.Step.{Step}
use Rattle.records.specs.declared.Step.TheVariants.{Enter, Leave, Token, Error, Expected}
use Rattle.records.specs.Record.{record_of}
use Rattle.stepfile.specs.declared.Fault.{Fault}
use Rattle.stepfile.specs.declared.Fault.TheVariants.{Cut, Unsound}

-- a step, or the end; or why there is neither
abbrev pub Found : Type 0
Found = Result (Option Step) Fault

-- the number in the two bytes at a place, little-endian
abbrev pub two : List ℕ → ℕ → ℕ
two bs i = get_or bs i 0 + 256 * get_or bs (i + 1) 0

-- a raw count is 1, 2 or 3
abbrev counted : ℕ → ℕ → Found
counted kind n = cond (eqb n 0) (Err Unsound) (cond (ltb 3 n) (Err Unsound) (Ok (Some (Token kind n))))

-- the code of "expected KIND" is 1
abbrev expected : ℕ → ℕ → ℕ → Found
expected code kind found = cond (eqb code 1) (Ok (Some (Expected kind found))) (Err Unsound)

-- A whole record, by its kind and its payload's length: enter, leave, token, error, an error with what was found. The payload stands from
-- byte 4 on.
unfoldable pub step_of : ℕ → ℕ → List ℕ → Found
step_of kind size bs =
    cond (eqb kind 1) (cond (eqb size 2) (Ok (Some (Enter (two bs 4)))) (Err Unsound))
    (cond (eqb kind 2) (cond (eqb size 0) (Ok (Some Leave)) (Err Unsound))
    (cond (eqb kind 3) (cond (eqb size 3) (counted (two bs 4) (get_or bs 6 0)) (Err Unsound))
    (cond (eqb kind 4) (cond (eqb size 4) (Ok (Some (Error (two bs 4) (two bs 6)))) (Err Unsound))
    (cond (eqb kind 5) (cond (eqb size 6) (expected (two bs 4) (two bs 6) (two bs 8)) (Err Unsound))
    (Err Unsound)))))

-- No bytes: the end. Fewer than four, or than four and the payload's length say, whatever the kind: a record that runs past the end.
unfoldable pub front : List ℕ → Found
front bs = cond (eqb (length bs) 0) (Ok None) (cond (ltb (length bs) (4 + two bs 0)) (Err Cut) (step_of (two bs 2) (two bs 0) bs))

-- the bytes that a step takes, and those behind it; without a step nothing is taken
abbrev pub taken : Found → ℕ
taken (Ok (Some s)) = length (record_of s)
taken (Ok None) = 0
taken (Err f) = 0

unfoldable pub behind : List ℕ → List ℕ
behind bs = drop (taken (front bs)) bs
