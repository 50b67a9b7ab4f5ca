-- src/grammar.rs: what the files of the grammar share. Each definition has the name of its function there.
-- Assumes nothing: these are definitions.
use Rattle.std.specs.Prelude.{Bool, true, false, not, cond, List, ℕ, eqb, Option, Some, None}
use Rattle.kinds.specs.Membership.{one_of}
use Rattle.kinds.specs.Kinds.{THIN-ARROW, IDENT, HARDWAREIDENT, HARDWARE-QUBIT, NAME, RETURN-SIGNATURE, BLOCK-EXPR}
use Rattle.kinds.specs.Sets.{EMPTY, SCALAR-TYPES, TYPES}
use Rattle.kinds.specs.Messages.{EXPECTED-SCALAR-RETURN-TYPE-AFTER-ARROW, EXPECTED-A-NAME}
use Rattle.runtime.specs.declared.parser.Completed.{Completed}
use Rattle.runtime.specs.Acts.{Acts, Acts.done, ◌>>=◌, ◌>>◌, at, at_ts, current, bump, expect, start, complete, abandon, error, error_expected, err_recover, goes_on, Turn, Turn.more, Turn.last, repeats}

-- The calls that count against the depth (docs/COUNTED.md), as the rest of the grammar may make them: what each does with one call
-- less to spare.
pub record Counted : Type 0 where
  pub expr_bp : Option ℕ → Bool → ℕ → Acts (Option (Completed × Bool))
  pub stmt : Acts (Unit {0})
  pub type_spec : Acts (Unit {0})
  pub complex_type_spec : Acts (Unit {0})
  pub if_stmt : ℕ → Acts (Unit {0})
  pub expression_list : Acts (Unit {0})

-- `if c { m }`
abbrev pub when : Bool → Acts (Unit {0}) → Acts (Unit {0})
when c m = cond c m (done tt)

-- `m;`: the answer is not read
abbrev pub just : {A : Type 0} → Acts A → Acts (Unit {0})
just m = m >> done tt

-- `p.expect(k);` and `m.complete(p, node);`: the answer is not read
abbrev pub expected : ℕ → Acts (Unit {0})
expected k = just (expect k)

abbrev pub completed : ℕ → ℕ → Acts (Unit {0})
completed m node = just (complete m node)

-- `p.expect(ket); m.complete(p, node);`: the end of many
abbrev pub close : ℕ → ℕ → ℕ → Acts (Unit {0})
close ket m node = do
  expect ket
  just (complete m node)

-- `p.error(message)`
abbrev pub fail : ℕ → Acts (Unit {0})
fail code = error code 0

-- `if p.at(k) { p.error(..) }` and `if !p.at(k) { p.error(..) }`
unfoldable pub fail_if_at : ℕ → ℕ → Acts (Unit {0})
fail_if_at k code = do
  b ← at k
  when b (fail code)

unfoldable pub fail_unless_at : ℕ → ℕ → Acts (Unit {0})
fail_unless_at k code = do
  b ← at k
  when (not b) (fail code)

-- fn is_blocklike, line 91
-- runs: expr `a`
-- breaks: never
abbrev pub is_blocklike : ℕ → Bool
is_blocklike k = eqb k BLOCK-EXPR

-- fn name_r, line 130
-- runs: item `gate g`, item `gate $0`
-- breaks: item `gate`, item `gate 3`, item `gate;`
unfoldable pub name_r : List ℕ → Acts (Unit {0})
name_r recovery = do
  b ← at HARDWAREIDENT
  cond b (do
    m ← start
    bump HARDWAREIDENT
    just (complete m HARDWARE-QUBIT)) (do
      b ← at IDENT
      cond b (do
        m ← start
        bump IDENT
        just (complete m NAME)) (err_recover EXPECTED-A-NAME recovery))

-- fn name, line 150
-- runs: item `for i`
-- breaks: item `for`, item `for int 3`
abbrev pub name : Acts (Unit {0})
name = name_r EMPTY

-- fn delimited, line 156: after an element, whether another one is to follow; a round of its loop; and the whole. The loop's two
-- tests, `!p.at(ket)` before `!p.at(EOF)`, change nothing and cost no lookup, so the run is the same in either order: here it is that of every other
-- loop, `goes_on`.
-- runs: expr `a(`, expr `a(b, 1)`
-- breaks: expr `a(1 2)`, expr `a(;`
unfoldable pub separator : ℕ → List ℕ → Acts Bool
separator delim first = do
  b ← at delim
  cond b (do
    bump delim
    done true) (do
      b ← at_ts first
      cond b (do
        error_expected delim
        done true) (done false))

-- `.is_some()`
abbrev pub is_some : (Option (Completed × Bool)) → Bool
is_some (Some x) = true
is_some None = false

unfoldable pub delimited_round : ℕ → ℕ → List ℕ → Acts (Option (Completed × Bool)) → Unit {0} → Acts (Turn (Unit {0}))
delimited_round ket delim first parser x = do
  go ← goes_on ket
  cond go (do
    g ← parser
    cond (is_some g) (do
      another ← separator delim first
      cond another (done (more tt)) (done (last tt))) (done (last tt))) (done (last tt))

unfoldable pub delimited : ℕ → ℕ → Bool → ℕ → List ℕ → Acts (Option (Completed × Bool)) → Acts (Unit {0})
delimited bra ket consume delim first parser = do
  when consume (bump bra)
  repeats (delimited_round ket delim first parser) tt
  when consume (just (expect ket))

-- the error of fn opt_ret_type, line 111, where no scalar type follows
unfoldable pub scalar_return : Acts (Unit {0})
scalar_return = do
  k ← current
  when (not (one_of SCALAR-TYPES k)) (fail EXPECTED-SCALAR-RETURN-TYPE-AFTER-ARROW)

module _ (deeper : Counted) where
  -- fn opt_ret_type, line 107: no caller reads its answer
  -- runs: item `def`, item `def f() -> bit[2] {}`
  -- breaks: item `def f -> a`, item `def f -> array[int, 2]`
  unfoldable pub opt_ret_type : Acts (Unit {0})
  opt_ret_type = do
    b ← at THIN-ARROW
    when b (do
      m ← start
      bump THIN-ARROW
      scalar_return
      k ← current
      cond (one_of TYPES k) (do
        deeper.type_spec
        just (complete m RETURN-SIGNATURE)) (abandon m))
