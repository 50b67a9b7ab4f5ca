-- src/grammar/expressions.rs. Each definition has the name of its function there. Assumes nothing: these are definitions.
use Rattle.std.specs.Prelude.{Bool, true, false, not, ◌&&◌, cond, ℕ, eqb, ltb, Option, Some, None, Result, Ok, Err}
use Rattle.kinds.specs.Membership.{one_of}
use Rattle.kinds.specs.Kinds.{SEMICOLON, COMMA, COLON, EQ, L-PAREN, R-PAREN, L-BRACK, R-BRACK, L-CURLY, R-CURLY, IDENT, HARDWAREIDENT, PRAGMA, ANNOTATION, LET-KW, ARRAY-KW, QUBIT-KW, COMPLEX-TY, FLOAT-TY, RANGE-EXPR, PRAGMA-STATEMENT, ANNOTATION-STATEMENT, ASSIGNMENT-STMT, EXPR-STMT, LET-STMT, IDENTIFIER, INDEXED-IDENTIFIER, BIN-EXPR, PREFIX-EXPR, GATE-CALL-EXPR, CALL-EXPR, ARRAY-TYPE, SCALAR-TYPE, QUBIT-TYPE, DESIGNATOR, NAME, INDEX-EXPR, SET-EXPRESSION, INDEX-OPERATOR, EXPRESSION-LIST, ARG-LIST}
use Rattle.kinds.specs.Sets.{EXPR-FIRST, EXPR-RECOVERY-SET, CLASSICAL-TYPES, TYPES, QUBIT-FIRST, PREFIX-OPS, CAST-NEXT, ASSIGNABLE, UNINDEXED, ARRAY-BASES, NO-INTEGERS}
use Rattle.kinds.specs.Messages.{EXPECTING-COLON-IN-RANGE-EXPRESSION, STMT-EXPECTED-EXPRESSION-TYPE-DECLARATION-OR-LET, EXPECTING-SEMICOLON-TERMINATING-STATEMENT, EXPR-BP-EXPECTED-EXPRESSION, ASSIGNMENT-STATEMENT-FOUND-WHERE-EXPRESSION-EXPECTED, ILLEGAL-LHS-IN-ASSIGNMENT, INDEXING-INTO-LITERAL-IS-NOT-ALLOWED, EXPECTED-TYPE-NAME, ILLEGAL-BASE-TYPE-FOR-ARRAY, EXPECTING-FLOAT-IN-COMPLEX-DESIGNATOR, FOUND-DESIGNATOR-IN-HARDWARE-QUBIT-DECLARATION, LITERAL-TYPE-DESIGNATOR-MUST-BE-AN-INTEGER, EXPECTING-PARAMETER-NAME}
use Rattle.runtime.specs.declared.parser.Completed.{Completed}
use Rattle.runtime.specs.Acts.{Acts, Acts.done, ◌>>=◌, ◌>>◌, at, at_ts, nth, current, eat, bump, bump_any, expect, must, start, complete, abandon, precede, extend_to, err_recover, err_and_bump, is_refused, goes_on, Turn, Turn.more, Turn.last, repeats}
use Rattle.grammar.specs.Grammar.{Counted, when, just, fail, fail_if_at, fail_unless_at, delimited}
use Rattle.operators.specs.Operators.{Table, current_op}

-- What this file calls of the files that come after it here: modules do not use one another in a circle.
pub record Later : Type 0 where
  -- atom.rs, fn atom_expr
  pub atom_expr : Acts (Option (Completed × Bool))
  -- params.rs, fn arg_list_gate_call_qubits
  pub arg_list_gate_call_qubits : Acts (Unit {0})
  -- items.rs, fn opt_item: whether there was an item
  pub opt_item : ℕ → Acts (Result (Unit {0}) ℕ)

-- fn type_name, line 367
-- runs: item `int`
-- breaks: item `input`, item `input a`
unfoldable pub type_name : Acts (Unit {0})
type_name = do
  k ← current
  cond (one_of TYPES k) (do
    k ← current
    bump k) (fail EXPECTED-TYPE-NAME)

-- `m.unwrap_or_else(|| p.start())`
unfoldable pub marker : Option ℕ → Acts ℕ
marker (Some m) = done m
marker None = start

-- the first test of fn expr_bp, line 228: `p.nth(1)` is looked up only at a classical type that begins no expression
unfoldable pub lacks_expr : Acts Bool
lacks_expr = do
  first ← at_ts EXPR-FIRST
  cond first (done false) (do
    k ← current
    cond (one_of CLASSICAL-TYPES k) (do
      k ← nth 1
      done (not (one_of CAST-NEXT k))) (done true))

-- the end of a round of fn expr_bp, line 269: an assignment has rules of its own
unfoldable pub assigned : Bool → Acts (Unit {0})
assigned prefer = when prefer (just (expect SEMICOLON))

unfoldable pub no_assignment : Bool → Acts (Unit {0})
no_assignment prefer = when (not prefer) (fail ASSIGNMENT-STATEMENT-FOUND-WHERE-EXPRESSION-EXPECTED)

unfoldable pub close_op : Bool → ℕ → ℕ → ℕ → Acts Completed
close_op prefer lhs_kind op m =
    cond (eqb op EQ) (do
      no_assignment prefer
      cond (one_of ASSIGNABLE lhs_kind) (do
        assigned prefer
        complete m ASSIGNMENT-STMT) (do
          fail ILLEGAL-LHS-IN-ASSIGNMENT
          complete m BIN-EXPR)) (complete m BIN-EXPR)

-- the test of fn stmt, line 97, which asks in another order: whether a cast begins here, then whether an expression does
unfoldable pub cast_ahead : Acts Bool
cast_ahead = do
  k ← current
  cond (one_of CLASSICAL-TYPES k) (do
    k ← nth 1
    cond (eqb k L-PAREN) (done true) (do
      k ← nth 1
      done (eqb k L-BRACK))) (done false)

-- `!(a || b)`: b is asked only where a says no
abbrev neither : Acts Bool → Acts Bool → Acts Bool
neither a b = do
  x ← a
  cond x (done false) (do
    y ← b
    done (not y))

unfoldable pub stmt_lacks_expr : Acts Bool
stmt_lacks_expr = neither cast_ahead (at_ts EXPR-FIRST)

-- the end of fn stmt, line 105
unfoldable pub no_semicolon : Bool → Bool → Acts (Unit {0})
no_semicolon block semi = when (not block && not semi) (fail EXPECTING-SEMICOLON-TERMINATING-STATEMENT)

unfoldable pub stmt_end : Completed → Bool → Acts (Unit {0})
stmt_end cm block =
    cond (eqb cm.kind ASSIGNMENT-STMT) (done tt) (do
      b ← at R-CURLY
      cond b (done tt) (do
        m ← precede cm
        semi ← eat SEMICOLON
        no_semicolon block semi
        just (complete m EXPR-STMT)))

-- the test of fn designator, line 471
unfoldable pub literal_designator : Acts (Unit {0})
literal_designator = do
  k ← current
  cond (one_of NO-INTEGERS k) (do
    k ← nth 1
    when (eqb k R-BRACK) (fail LITERAL-TYPE-DESIGNATOR-MUST-BE-AN-INTEGER)) (done tt)

-- the test of fn array_type_spec, line 391
unfoldable pub array_base : Acts (Unit {0})
array_base = do
  k ← current
  when (not (one_of ARRAY-BASES k)) (fail ILLEGAL-BASE-TYPE-FOR-ARRAY)

-- the error of fn postfix_expr, line 336, at a kind that has no index
unfoldable pub unindexed : ℕ → Acts (Unit {0})
unindexed k = when (one_of UNINDEXED k) (fail INDEXING-INTO-LITERAL-IS-NOT-ALLOWED)

-- the end of fn call_arg_list, line 554
unfoldable pub args_end : ℕ → ℕ → Acts (Unit {0})
args_end m m1 = do
  expect R-PAREN
  complete m1 EXPRESSION-LIST
  just (complete m ARG-LIST)

-- fn var_name, line 484
-- runs: item `int a`
-- breaks: item `int`, item `int 3`
unfoldable pub var_name : Acts (Unit {0})
var_name = do
  m ← start
  b ← at IDENT
  cond b bump_any (fail EXPECTING-PARAMETER-NAME)
  just (complete m NAME)

module _ (deeper : Counted) where
  -- fn expr, line 14: whether the expression is block-like is not read by its callers
  -- runs: expr `a`
  -- breaks: expr ``, expr `-`
  abbrev pub expr : Acts (Option (Completed × Bool))
  expr = deeper.expr_bp None false 1

  -- fn range_expr, line 20: no caller reads its answer
  -- runs: item `for i [a:b]`, item `for int i in [0:2:4];`
  -- breaks: item `for i [a]`, item `for i [a:b`, item `for i []`
  unfoldable pub range_expr : Acts (Unit {0})
  range_expr = do
    m ← start
    must L-BRACK
    bump L-BRACK
    deeper.expr_bp None false 1
    b ← at COLON
    cond b (do
      bump COLON
      deeper.expr_bp None false 1
      b ← at COLON
      when b (do
        bump COLON
        just (deeper.expr_bp None false 1))) (fail EXPECTING-COLON-IN-RANGE-EXPRESSION)
    expect R-BRACK
    just (complete m RANGE-EXPR)

  -- fn expr_or_range_expr, line 40: no caller reads its answer
  -- runs: expr `a[1`, expr `a[1:b:c]`
  -- breaks: expr `a[1:`, expr `a[-`
  unfoldable pub expr_or_range_expr : Acts (Unit {0})
  expr_or_range_expr = do
    m ← start
    deeper.expr_bp None false 1
    b ← at COLON
    cond b (do
      bump COLON
      deeper.expr_bp None false 1
      b ← at COLON
      when b (do
        bump COLON
        just (deeper.expr_bp None false 1))
      just (complete m RANGE-EXPR)) (abandon m)

  -- fn expr_stmt, line 58
  -- runs: item `a`
  -- breaks: item `-`, item `a = ;`
  abbrev pub expr_stmt : Option ℕ → Acts (Option (Completed × Bool))
  expr_stmt m = deeper.expr_bp m true 1

  -- fn let_stmt, line 125
  -- runs: expr `{let a = b;`
  -- breaks: expr `{let`, expr `{let a = b`, expr `{let $0 = b;`
  unfoldable pub let_stmt : ℕ → Acts (Unit {0})
  let_stmt m = do
    bump LET-KW
    expect IDENT
    expect EQ
    expr
    expect SEMICOLON
    just (complete m LET-STMT)

  -- fn expr_block_contents, line 139: a round of its loop, and the whole
  -- runs: item `;`, expr `{}`
  -- breaks: item `)`, item `a`
  unfoldable pub expr_block_contents_round : Unit {0} → Acts (Turn (Unit {0}))
  expr_block_contents_round x = do
    go ← goes_on R-CURLY
    cond go (do
      deeper.stmt
      done (more tt)) (done (last tt))

  unfoldable pub expr_block_contents : Acts (Unit {0})
  expr_block_contents = repeats expr_block_contents_round tt

  -- fn designator, line 458
  -- runs: item `int[1]`
  -- breaks: item `delay`, item `int[`, item `int[1.0]`
  unfoldable pub designator : Acts (Unit {0})
  designator = do
    must L-BRACK
    m ← start
    bump L-BRACK
    literal_designator
    expr
    expect R-BRACK
    just (complete m DESIGNATOR)

  -- fn non_array_type_spec, line 414
  -- runs: item `int`, item `int[1]`
  -- breaks: item `input`, item `int[`
  unfoldable pub non_array_type_spec : Acts (Unit {0})
  non_array_type_spec = do
    b ← at COMPLEX-TY
    cond b deeper.complex_type_spec (do
      m ← start
      type_name
      b ← at L-BRACK
      when b designator
      just (complete m SCALAR-TYPE))

  -- fn array_type_spec, line 386: a round of its loop, and the whole. A run that is refused ends the loop, which has no other end at
  -- the last token.
  -- runs: item `array[int, 2]`, item `array[float[64], 2, 3]`
  -- breaks: item `array`, item `array[int,`, item `array[bit]`
  unfoldable pub array_type_spec_round : Unit {0} → Acts (Turn (Unit {0}))
  array_type_spec_round x = do
    expr
    b ← at R-BRACK
    cond b (do
      bump_any
      done (last tt)) (do
        expect COMMA
        over ← is_refused
        cond over (done (last tt)) (done (more tt)))

  unfoldable pub array_type_spec : Acts (Unit {0})
  array_type_spec = do
    must ARRAY-KW
    m ← start
    bump_any
    expect L-BRACK
    array_base
    deeper.type_spec
    expect COMMA
    repeats array_type_spec_round tt
    just (complete m ARRAY-TYPE)

  -- fn type_spec, line 378
  -- runs: item `int`
  -- breaks: item `input`, item `array`
  unfoldable pub type_spec : Acts (Unit {0})
  type_spec = do
    b ← at ARRAY-KW
    cond b array_type_spec non_array_type_spec

  -- fn complex_type_spec, line 428
  -- runs: item `complex`, item `complex[float[64]]`
  -- breaks: item `complex[int]`, item `complex[float`
  unfoldable pub complex_type_spec : Acts (Unit {0})
  complex_type_spec = do
    must COMPLEX-TY
    m ← start
    bump_any
    b ← at L-BRACK
    when b (do
      bump L-BRACK
      fail_unless_at FLOAT-TY EXPECTING-FLOAT-IN-COMPLEX-DESIGNATOR
      non_array_type_spec
      just (expect R-BRACK))
    just (complete m SCALAR-TYPE)

  -- fn qubit_type_spec, line 444
  -- runs: item `qubit`, item `qubit[2]`
  -- breaks: item `qubit[`, item `qubit[2] $0`
  unfoldable pub qubit_type_spec : Acts (Unit {0})
  qubit_type_spec = do
    must QUBIT-KW
    m ← start
    type_name
    b ← at L-BRACK
    when b (do
      designator
      fail_if_at HARDWAREIDENT FOUND-DESIGNATOR-IN-HARDWARE-QUBIT-DECLARATION)
    just (complete m QUBIT-TYPE)

  -- fn set_expression, line 513
  -- runs: item `for {1}`, expr `a[{1, 2}]`
  -- breaks: item `for {`, expr `a[{1`, item `for {}`
  unfoldable pub set_expression : Acts (Unit {0})
  set_expression = do
    must L-CURLY
    m ← start
    bump L-CURLY
    deeper.expression_list
    bump R-CURLY
    just (complete m SET-EXPRESSION)

  -- fn index_operator, line 522
  -- runs: expr `a[1]`, expr `a[{1}]`
  -- breaks: expr `a[`, expr `a[1`
  unfoldable pub index_operator : Acts (Unit {0})
  index_operator = do
    must L-BRACK
    m ← start
    expect L-BRACK
    b ← at L-CURLY
    cond b set_expression deeper.expression_list
    expect R-BRACK
    just (complete m INDEX-OPERATOR)

  -- fn index_expr, line 497
  -- runs: expr `1[1]`, expr `f()[1]`
  -- breaks: expr `1[`, expr `1[1`
  unfoldable pub index_expr : Completed → Acts Completed
  index_expr lhs = do
    must L-BRACK
    m ← precede lhs
    index_operator
    complete m INDEX-EXPR

  -- fn indexed_identifier, line 504: a round of its loop, and the whole. Its `&& !p.at(EOF)` decides nothing: where `[` stands the
  -- tokens have not ended.
  -- runs: expr `a[1]`, expr `a[1][2]`
  -- breaks: expr `a[`, expr `a[1][`, expr `a[{`
  unfoldable pub indexed_identifier_round : Unit {0} → Acts (Turn (Unit {0}))
  indexed_identifier_round x = do
    b ← at L-BRACK
    cond b (do
      index_operator
      done (more tt)) (done (last tt))

  unfoldable pub indexed_identifier : Completed → Acts Completed
  indexed_identifier lhs = do
    must L-BRACK
    m ← precede lhs
    repeats indexed_identifier_round tt
    complete m INDEXED-IDENTIFIER

  -- the arm of fn postfix_expr, line 333, at `[`
  unfoldable pub indexed : Completed → Acts Completed
  indexed lhs =
      cond (eqb lhs.kind IDENTIFIER) (indexed_identifier lhs) (do
        unindexed lhs.kind
        index_expr lhs)

  -- fn call_arg_list, line 537
  -- runs: expr `a()`, expr `a(b, 1)`
  -- breaks: expr `a(`, expr `a(1`, expr `a(1 2)`
  unfoldable pub call_arg_list : Acts (Unit {0})
  call_arg_list = do
    must L-PAREN
    m ← start
    m1 ← start
    bump L-PAREN
    delimited L-PAREN R-PAREN false COMMA EXPR-FIRST expr
    args_end m m1

  module _ (later : Later) where
    -- fn call_expr, line 352
    -- runs: expr `a()`, expr `a() q`
    -- breaks: expr `a(`, expr `a() q r`
    unfoldable pub call_expr : Completed → Acts Completed
    call_expr lhs = do
      must L-PAREN
      m ← precede lhs
      call_arg_list
      k ← current
      cond (one_of QUBIT-FIRST k) (do
        later.arg_list_gate_call_qubits
        complete m GATE-CALL-EXPR) (complete m CALL-EXPR)

    -- fn postfix_expr, line 320: a round of its loop, which carries the expression so far, whether it is block-like and whether calls
    -- are allowed, as both its arms ask; and the whole
    -- runs: expr `a`, expr `a(b)[1]`
    -- breaks: expr `1[1]`, expr `1 ns[1]`, expr `$0[1]`
    unfoldable pub postfix_expr_round : Completed × Bool × Bool → Acts (Turn (Completed × Bool × Bool))
    postfix_expr_round x = do
      k ← current
      cond x.2 (cond (eqb k L-PAREN) (do
        cm ← call_expr x.0
        done (more (cm, false, true))) (cond (eqb k L-BRACK) (do
          cm ← indexed x.0
          done (more (cm, false, true))) (done (last x)))) (done (last x))

    unfoldable pub postfix_expr : Completed → Bool → Bool → Acts (Option (Completed × Bool))
    postfix_expr lhs block_like allow_calls = do
      x ← repeats postfix_expr_round (lhs, block_like, allow_calls)
      done (Some (x.0, x.1))

    -- fn lhs, line 298
    -- runs: expr `a`, expr `!a`
    -- breaks: expr `-`, expr `*`
    unfoldable pub lhs : Bool → Acts (Option (Completed × Bool))
    lhs prefer = do
      k ← current
      cond (one_of PREFIX-OPS k) (do
        m ← start
        bump_any
        deeper.expr_bp None prefer 255
        cm ← complete m PREFIX-EXPR
        done (Some (cm, false))) (do
          g ← later.atom_expr
          elim g [ None ↦ done None | Some (cm, block) ↦ postfix_expr cm block (not (prefer && block)) ])

    module _ (ops : Table) where
      -- fn expr_bp, line 218: a round of its loop, and the whole
      -- runs: expr `a`, expr `a + b * c`, item `a = b;`
      -- breaks: expr ``, expr `a = b`, item `a = b`, item `1 = 2`
      unfoldable pub expr_bp_round : Bool → ℕ → Completed → Acts (Turn Completed)
      expr_bp_round prefer bp lhs = do
        o ← current_op ops
        cond (ltb o.power bp) (done (last lhs)) (do
          m ← precede lhs
          bump o.kind
          deeper.expr_bp None false o.next
          cm ← close_op prefer lhs.kind o.kind m
          done (more cm))

      unfoldable pub expr_bp : Option ℕ → Bool → ℕ → Acts (Option (Completed × Bool))
      expr_bp given prefer bp = do
        m ← marker given
        lacks ← lacks_expr
        cond lacks (do
          err_recover EXPR-BP-EXPECTED-EXPRESSION EXPR-RECOVERY-SET
          abandon m
          done None) (do
            g ← lhs prefer
            elim g [
              | None ↦ (do
                abandon m
                done None)
              | Some (cm, block) ↦ (do
                cm ← extend_to cm m
                cond (prefer && block) (done (Some (cm, true))) (do
                  cm ← repeats (expr_bp_round prefer bp) cm
                  done (Some (cm, false))))
            ])

    -- the end of fn stmt, line 84: no item stands here, and the marker was handed back
    unfoldable pub no_item : ℕ → Acts (Unit {0})
    no_item m = do
      b ← at PRAGMA
      cond b (do
        bump_any
        just (complete m PRAGMA-STATEMENT)) (do
          b ← at ANNOTATION
          cond b (do
            bump_any
            just (complete m ANNOTATION-STATEMENT)) (do
              lacks ← stmt_lacks_expr
              cond lacks (do
                err_and_bump STMT-EXPECTED-EXPRESSION-TYPE-DECLARATION-OR-LET
                abandon m) (do
                  g ← expr_stmt (Some m)
                  elim g [ None ↦ done tt | Some (cm, block) ↦ stmt_end cm block ])))

    -- fn stmt, line 70
    -- runs: item `;`, item `a;`, item `PRAGMA ANNOTATION`
    -- breaks: item `)`, item `a`
    unfoldable pub stmt : Acts (Unit {0})
    stmt = do
      b ← eat SEMICOLON
      cond b (done tt) (do
        b ← at LET-KW
        cond b (do
          m ← start
          let_stmt m) (do
            m ← start
            offer ← later.opt_item m
            elim offer [ Ok x ↦ done tt | Err m ↦ no_item m ]))
