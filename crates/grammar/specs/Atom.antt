-- src/grammar/expressions/atom.rs. Each definition has the name of its function there. Assumes nothing: these are definitions.
use Rattle.std.specs.Prelude.{Bool, true, false, not, ◌&&◌, cond, [], ◌∷◌, ℕ, eqb, Option, Some, None}
use Rattle.kinds.specs.Membership.{one_of}
use Rattle.kinds.specs.Kinds.{SEMICOLON, COMMA, L-PAREN, R-PAREN, L-BRACK, R-BRACK, L-CURLY, R-CURLY, AT, IDENT, HARDWAREIDENT, STRING, BOX-KW, MEASURE-KW, RETURN-KW, INV-KW, POW-KW, CTRL-KW, NEGCTRL-KW, GPHASE-KW, LITERAL, TIMING-LITERAL, CAST-EXPRESSION, G-PHASE-CALL-EXPR, INV-MODIFIER, POW-MODIFIER, CTRL-MODIFIER, NEG-CTRL-MODIFIER, PAREN-EXPR, TUPLE-EXPR, MODIFIED-GATE-CALL-EXPR, GATE-CALL-EXPR, MEASURE-EXPRESSION, IDENTIFIER, HARDWARE-QUBIT, ARRAY-EXPR, BLOCK-EXPR, RETURN-EXPR, BOX-EXPR}
use Rattle.kinds.specs.Sets.{LITERAL-FIRST, TIMING-LITERAL-FIRST, EXPR-FIRST, CLASSICAL-TYPES, QUBIT-FIRST}
use Rattle.kinds.specs.Messages.{UNEXPECTED-STRING-LITERAL, TIMING-AND-IMAGINARY-LITERALS-MUST-BEGIN-WITH, ATOM-EXPR-EXPECTED-EXPRESSION, MODIFIER-INV-ACCEPTS-NO-PARAMETER-EXPECTING-AT, EXPECTING-AT, EXPECTING-ARGUMENT-TO-POW-GATE-MODIFIER, EXPECTING-QUBIT-S-TO-MEASURE, EXPECTED-EXPRESSION-FOUND-COMMA-INSTEAD, EXPECTED-A-BLOCK}
use Rattle.runtime.specs.declared.parser.Completed.{Completed}
use Rattle.runtime.specs.Acts.{Acts, Acts.done, ◌>>=◌, ◌>>◌, at, at_ts, nth, current, eat, bump, bump_any, expect, must, start, complete, err_and_bump, goes_on, Turn, Turn.more, Turn.last, repeats}
use Rattle.grammar.specs.declared.Next.{Next}
use Rattle.grammar.specs.declared.Next.TheVariants.{Semi, Comma, Stop}
use Rattle.grammar.specs.Grammar.{Counted, when, just, fail, fail_if_at, is_blocklike}
use Rattle.grammar.specs.Expressions.{expr, expr_block_contents, call_arg_list}
use Rattle.grammar.specs.Params.{arg_gate_call_qubit, arg_list_gate_call_qubits}

-- fn identifier, line 242
-- runs: expr `a`
-- breaks: expr `inv @`, expr `inv @ 3`
unfoldable pub identifier : Acts Completed
identifier = do
  m ← start
  expect IDENT
  complete m IDENTIFIER

-- fn hardware_qubit, line 248
-- runs: expr `$0`
-- breaks: never
unfoldable pub hardware_qubit : Acts Completed
hardware_qubit = do
  m ← start
  bump HARDWAREIDENT
  complete m HARDWARE-QUBIT

-- the error of fn literal, line 38, where the suffix follows no number
unfoldable pub timing : Acts (Unit {0})
timing = do
  b ← at_ts TIMING-LITERAL-FIRST
  when (not b) (fail TIMING-AND-IMAGINARY-LITERALS-MUST-BEGIN-WITH)

-- the end of fn atom_expr, line 115: an atom that was made, and whether it is block-like
abbrev pub node_of : Completed → Option (Completed × Bool)
node_of cm = Some (cm, is_blocklike cm.kind)

-- an atom, and whether it is block-like
abbrev pub node : Acts Completed → Acts (Option (Completed × Bool))
node m = do
  cm ← m
  done (Some (cm, is_blocklike cm.kind))

-- fn literal, line 22: a literal is never block-like
-- runs: expr `1`, expr `1 ns`
-- breaks: expr `"x"`, expr `true ns`
unfoldable pub literal : Acts (Option (Completed × Bool))
literal = do
  first ← at_ts LITERAL-FIRST
  cond first (do
    fail_if_at STRING UNEXPECTED-STRING-LITERAL
    m ← start
    k ← nth 1
    cond (eqb k IDENT) (do
      timing
      m2 ← start
      bump_any
      complete m LITERAL
      identifier
      cm ← complete m2 TIMING-LITERAL
      done (Some (cm, false))) (do
        bump_any
        cm ← complete m LITERAL
        done (Some (cm, false)))) (done None)

-- the arm of fn modified_gate_call_expr, line 146
unfoldable pub inv_modifier : Acts (Unit {0})
inv_modifier = do
  m1 ← start
  bump INV-KW
  b ← at AT
  cond b (bump AT) (do
    b ← at L-PAREN
    cond b (fail MODIFIER-INV-ACCEPTS-NO-PARAMETER-EXPECTING-AT) (fail EXPECTING-AT))
  just (complete m1 INV-MODIFIER)

-- a modifier that has no argument
unfoldable pub no_argument : ℕ → Acts (Unit {0})
no_argument kw = when (eqb kw POW-KW) (fail EXPECTING-ARGUMENT-TO-POW-GATE-MODIFIER)

-- inside fn tuple_expr, line 266: a comma at its begin; line 278: whether there was a comma, after an element; line 283: its end
unfoldable pub tuple_comma : Acts Bool
tuple_comma = do
  comma ← eat COMMA
  when comma (fail EXPECTED-EXPRESSION-FOUND-COMMA-INSTEAD)
  done comma

unfoldable pub tuple_next : Bool → Acts Bool
tuple_next comma = do
  b ← at R-PAREN
  cond b (done comma) (do
    expect COMMA
    done true)

unfoldable pub tuple_kind : Bool → Bool → ℕ
tuple_kind saw comma = cond (saw && not comma) PAREN-EXPR TUPLE-EXPR

unfoldable pub tuple_end : ℕ → Bool → Bool → Acts Completed
tuple_end m saw comma = do
  expect R-PAREN
  complete m (tuple_kind saw comma)

-- inside fn array_expr, line 311: what follows an element; line 320: its end
unfoldable pub first_semicolon : Bool → Acts Bool
first_semicolon first = cond first (eat SEMICOLON) (done false)

unfoldable pub array_next : Bool → Bool → Acts Next
array_next first semi = do
  now ← first_semicolon first
  cond now (done Semi) (cond semi (done Stop) (do
    b ← at R-BRACK
    cond b (done Comma) (do
      comma ← expect COMMA
      cond comma (done Comma) (done Stop))))

unfoldable pub array_end : ℕ → Acts Completed
array_end m = do
  expect R-BRACK
  complete m ARRAY-EXPR

module _ (deeper : Counted) where
  -- fn cast_expr, line 125
  -- runs: expr `int(a)`
  -- breaks: expr `int[1]`, expr `int(a`, expr `int(`
  unfoldable pub cast_expr : Acts Completed
  cast_expr = do
    m ← start
    deeper.type_spec
    expect L-PAREN
    expr deeper
    expect R-PAREN
    complete m CAST-EXPRESSION

  -- fn gphase_call_expr, line 134
  -- runs: expr `gphase a`
  -- breaks: expr `gphase`
  unfoldable pub gphase_call_expr : Acts Completed
  gphase_call_expr = do
    must GPHASE-KW
    m ← start
    bump GPHASE-KW
    expr deeper
    complete m G-PHASE-CALL-EXPR

  -- fn gate_call_expr, line 214
  -- runs: expr `g q`, expr `inv @ g(a) q`
  -- breaks: expr `inv @`, expr `g q 3`
  unfoldable pub gate_call_expr : Acts Completed
  gate_call_expr = do
    m ← start
    identifier
    b ← at L-PAREN
    when b (call_arg_list deeper)
    arg_list_gate_call_qubits deeper
    complete m GATE-CALL-EXPR

  -- an arm of fn modified_gate_call_expr, line 159, 175 or 189: `pow` must have an argument, `ctrl` and `negctrl` may
  unfoldable pub modifier : ℕ → ℕ → Acts (Unit {0})
  modifier kw node = do
    m1 ← start
    bump kw
    b ← at L-PAREN
    cond b (do
      m2 ← start
      expect L-PAREN
      expr deeper
      expect R-PAREN
      just (complete m2 PAREN-EXPR)) (no_argument kw)
    expect AT
    just (complete m1 node)

  -- fn modified_gate_call_expr, line 142: a round of its loop, and the whole
  -- runs: expr `inv @ g`, expr `pow(2) @ ctrl @ negctrl(1) @ gphase(a)`
  -- breaks: expr `inv g`, expr `inv(1) @ g`, expr `pow g`, expr `ctrl(1 g`
  unfoldable pub modified_gate_call_expr_round : Unit {0} → Acts (Turn (Unit {0}))
  modified_gate_call_expr_round x = do
    k ← current
    cond (eqb k INV-KW) (inv_modifier >> done (more tt))
        (cond (eqb k POW-KW) (modifier POW-KW POW-MODIFIER >> done (more tt))
        (cond (eqb k CTRL-KW) (modifier CTRL-KW CTRL-MODIFIER >> done (more tt))
        (cond (eqb k NEGCTRL-KW) (modifier NEGCTRL-KW NEG-CTRL-MODIFIER >> done (more tt)) (done (last tt)))))

  unfoldable pub modified_gate_call_expr : Acts Completed
  modified_gate_call_expr = do
    m ← start
    repeats modified_gate_call_expr_round tt
    b ← at GPHASE-KW
    cond b gphase_call_expr gate_call_expr
    complete m MODIFIED-GATE-CALL-EXPR

  -- fn measure_expression, line 224
  -- runs: expr `measure q`
  -- breaks: expr `measure`, expr `measure 1`
  unfoldable pub measure_expression : Acts Completed
  measure_expression = do
    m ← start
    bump MEASURE-KW
    k ← current
    cond (one_of QUBIT-FIRST k) (do
      m1 ← start
      just (arg_gate_call_qubit deeper m1)) (fail EXPECTING-QUBIT-S-TO-MEASURE)
    complete m MEASURE-EXPRESSION

  -- fn tuple_expr, line 258: a round of its loop, which carries saw_expr and saw_comma, and the whole
  -- runs: expr `()`, expr `(a, b)`
  -- breaks: expr `(`, expr `(,)`, expr `(1 2)`
  unfoldable pub tuple_expr_round : Bool × Bool → Acts (Turn (Bool × Bool))
  tuple_expr_round x = do
    go ← goes_on R-PAREN
    cond go (do
      g ← expr deeper
      elim g [
        | None ↦ done (last (true, x.1))
        | Some (cm, block) ↦ (do
          comma ← tuple_next x.1
          done (more (true, comma)))
      ]) (done (last x))

  unfoldable pub tuple_expr : Acts Completed
  tuple_expr = do
    must L-PAREN
    m ← start
    expect L-PAREN
    comma ← tuple_comma
    x ← repeats tuple_expr_round (false, comma)
    tuple_end m x.0 x.1

  -- fn array_expr, line 294: a round of its loop, which carries whether n_exprs is still 0 and has_semi, and the whole. The crate counts
  -- n_exprs and asks once whether it is 1: whether this is the first element, so a flag tells the same.
  -- runs: expr `[]`, expr `[a; b]`, expr `[a, b]`
  -- breaks: expr `[`, expr `[1 2]`, expr `[;]`
  unfoldable pub array_expr_round : Bool × Bool → Acts (Turn (Bool × Bool))
  array_expr_round x = do
    go ← goes_on R-BRACK
    cond go (do
      g ← expr deeper
      elim g [
        | None ↦ done (last x)
        | Some (cm, block) ↦ (do
          next ← array_next x.0 x.1
          elim next [
            | Semi ↦ done (more (false, true))
            | Comma ↦ done (more (false, x.1))
            | Stop ↦ done (last x)
          ])
      ]) (done (last x))

  unfoldable pub array_expr : Acts Completed
  array_expr = do
    must L-BRACK
    m ← start
    bump L-BRACK
    repeats array_expr_round (true, false)
    array_end m

  -- fn block_expr, line 332
  -- runs: expr `{}`
  -- breaks: expr `{`, expr `{)}`
  unfoldable pub block_expr : Acts Completed
  block_expr = do
    must L-CURLY
    m ← start
    bump L-CURLY
    expr_block_contents deeper
    expect R-CURLY
    complete m BLOCK-EXPR

  -- fn try_block_expr, line 324
  -- runs: item `cal {}`
  -- breaks: item `cal`, item `cal {`
  unfoldable pub try_block_expr : Acts (Unit {0})
  try_block_expr = do
    b ← at L-CURLY
    cond b (just block_expr) (fail EXPECTED-A-BLOCK)

  -- fn return_expr, line 347
  -- runs: expr `return`, expr `return a`
  -- breaks: expr `return (`
  unfoldable pub return_expr : Acts Completed
  return_expr = do
    must RETURN-KW
    m ← start
    bump_any
    b ← at_ts EXPR-FIRST
    when b (just (expr deeper))
    complete m RETURN-EXPR

  -- fn box_expr, line 358: its marker m is always None
  -- runs: expr `box`, expr `box {}`
  -- breaks: expr `box {`
  unfoldable pub box_expr : Acts Completed
  box_expr = do
    must BOX-KW
    m ← start
    bump BOX-KW
    b ← at_ts EXPR-FIRST
    when b (just (expr deeper))
    complete m BOX-EXPR

  -- fn atom_expr, line 80: the match on the token here, of which `la` is the next
  -- runs: expr `a`, expr `1`
  -- breaks: expr `*`, expr `(`
  unfoldable pub atom_of : ℕ → ℕ → Acts (Option (Completed × Bool))
  atom_of k la =
      cond (eqb k HARDWAREIDENT) (node hardware_qubit)
      (cond (eqb k L-PAREN) (node tuple_expr)
      (cond (eqb k L-BRACK) (node array_expr)
      (cond (eqb k BOX-KW) (node box_expr)
      (cond (eqb k MEASURE-KW) (node measure_expression)
      (cond (eqb k RETURN-KW) (node return_expr)
      (cond (eqb k L-CURLY) (node block_expr)
      (cond (one_of (INV-KW ∷ POW-KW ∷ CTRL-KW ∷ NEGCTRL-KW ∷ []) k) (node modified_gate_call_expr)
      (cond (eqb k GPHASE-KW) (node gphase_call_expr)
      (cond (eqb k IDENT && one_of QUBIT-FIRST la) (node gate_call_expr)
      (cond (eqb k IDENT) (node identifier) (do
        err_and_bump ATOM-EXPR-EXPECTED-EXPRESSION
        done None)))))))))))

  unfoldable pub atom_expr : Acts (Option (Completed × Bool))
  atom_expr = do
    g ← literal
    elim g [
      | Some (cm, block) ↦ done (Some (cm, false))
      | None ↦ (do
        la ← nth 1
        k ← current
        cond (one_of CLASSICAL-TYPES k) (do
          cm ← cast_expr
          done (Some (cm, false))) (do
            k ← current
            atom_of k la))
    ]
