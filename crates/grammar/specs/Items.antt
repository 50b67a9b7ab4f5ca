-- src/grammar/items.rs. Each definition has the name of its function there. Assumes nothing: these are definitions.
use Rattle.std.specs.Prelude.{Bool, not, ◌&&◌, cond, List, [], ◌∷◌, ℕ, eqb, Result, Ok, Err}
use Rattle.kinds.specs.Membership.{one_of}
use Rattle.kinds.specs.Kinds.{EOF, SEMICOLON, L-PAREN, R-PAREN, L-BRACK, L-CURLY, R-CURLY, EQ, HARDWAREIDENT, STRING, FLOAT-NUMBER, QUBIT-KW, CONST-KW, GATE-KW, BREAK-KW, CONTINUE-KW, END-KW, IF-KW, ELSE-KW, WHILE-KW, FOR-KW, IN-KW, DEF-KW, DEFCAL-KW, CAL-KW, DEFCALGRAMMAR-KW, RESET-KW, BARRIER-KW, O-P-E-N-Q-A-S-M-KW, INCLUDE-KW, SWITCH-KW, CASE-KW, DEFAULT-KW, LET-KW, DELAY-KW, INPUT-KW, OUTPUT-KW, ERROR, CASE-EXPR, SWITCH-CASE-STMT, IF-STMT, WHILE-STMT, FOR-ITERABLE, FOR-STMT, QUANTUM-DECLARATION-STATEMENT, RESET, BREAK-STMT, CONTINUE-STMT, END-STMT, GATE, DEF-CAL, CAST-EXPRESSION, EXPR-STMT, CLASSICAL-DECLARATION-STATEMENT, I-O-DECLARATION-STATEMENT, DEF, FILE-PATH, DEF-CAL-GRAMMAR, INCLUDE, CAL, VERSION, VERSION-STRING, BARRIER, DELAY-STMT, ALIAS-DECLARATION-STATEMENT}
use Rattle.kinds.specs.Sets.{ITEM-RECOVERY-SET, CLASSICAL-TYPES, QUBIT-FIRST}
use Rattle.kinds.specs.Messages.{EXPECTED-STATEMENT-FOUND-SEMICOLON, UNMATCHED-R-CURLY, EXPECTING-CASE-KEYWORD, EXPECTING-NAME-OF-QUBIT-OR-REGISTER-TO, QUANTUM-TYPE-FOUND-IN-INPUT-OUTPUT-DECLARATION, EXPECTED-FUNCTION-ARGUMENTS-IN-DEF, EXPECTED-A-PATH-TO-A-FILE}
use Rattle.runtime.specs.Acts.{Acts, Acts.done, ◌>>=◌, ◌>>◌, at, nth, current, eat, bump, bump_any, expect, must, start, complete, abandon, err_recover, err_and_bump, Turn, Turn.more, Turn.last, repeats}
use Rattle.grammar.specs.Grammar.{Counted, when, just, fail, fail_unless_at, name, name_r, opt_ret_type}
use Rattle.grammar.specs.Expressions.{expr, range_expr, set_expression, expr_block_contents, designator, qubit_type_spec, var_name}
use Rattle.grammar.specs.Params.{param_list_gate_params, param_list_gate_qubits, param_list_def_params, param_list_defcal_params, param_list_defcal_qubits, arg_list_gate_call_qubits, arg_gate_call_qubit}
use Rattle.grammar.specs.Atom.{block_expr, try_block_expr, hardware_qubit}

-- fn break_, line 221
-- runs: item `break;`
-- breaks: item `break`
unfoldable pub break : ℕ → Acts (Unit {0})
break m = do
  bump BREAK-KW
  expect SEMICOLON
  just (complete m BREAK-STMT)

-- fn continue_, line 227
-- runs: item `continue;`
-- breaks: item `continue`
unfoldable pub continue : ℕ → Acts (Unit {0})
continue m = do
  must CONTINUE-KW
  bump CONTINUE-KW
  expect SEMICOLON
  just (complete m CONTINUE-STMT)

-- fn end_, line 234
-- runs: item `end;`
-- breaks: item `end`
unfoldable pub end : ℕ → Acts (Unit {0})
end m = do
  must END-KW
  bump END-KW
  expect SEMICOLON
  just (complete m END-STMT)

-- fn filepath_r, line 359
-- runs: item `include "x"`
-- breaks: item `include`, item `include;`, item `include 3`
unfoldable pub filepath_r : List ℕ → Acts (Unit {0})
filepath_r recovery = do
  b ← at STRING
  cond b (do
    m ← start
    bump STRING
    just (complete m FILE-PATH)) (err_recover EXPECTED-A-PATH-TO-A-FILE recovery)

-- fn defcalgrammar_, line 370
-- runs: item `defcalgrammar "x";`
-- breaks: item `defcalgrammar`, item `defcalgrammar "x"`
unfoldable pub defcalgrammar : ℕ → Acts (Unit {0})
defcalgrammar m = do
  bump DEFCALGRAMMAR-KW
  filepath_r ITEM-RECOVERY-SET
  expect SEMICOLON
  just (complete m DEF-CAL-GRAMMAR)

-- fn include, line 377
-- runs: item `include "x";`
-- breaks: item `include`, item `include "x"`
unfoldable pub include : ℕ → Acts (Unit {0})
include m = do
  bump INCLUDE-KW
  filepath_r ITEM-RECOVERY-SET
  expect SEMICOLON
  just (complete m INCLUDE)

-- the test of fn version_, line 400
unfoldable pub skip_to_semicolon : Bool → Acts (Unit {0})
skip_to_semicolon number = cond number (done tt) (do
  b ← at SEMICOLON
  when (not b) bump_any)

-- fn version_, line 398
-- runs: item `OPENQASM 3.0;`
-- breaks: item `OPENQASM`, item `OPENQASM 3;`, item `OPENQASM 3.0`
unfoldable pub version : Acts (Unit {0})
version = do
  m ← start
  number ← expect FLOAT-NUMBER
  skip_to_semicolon number
  expect SEMICOLON
  just (complete m VERSION)

-- fn version_string, line 392
-- runs: item `OPENQASM 3.0;`
-- breaks: item `OPENQASM`, item `OPENQASM 3;`
unfoldable pub version_string : ℕ → Acts (Unit {0})
version_string m = do
  bump O-P-E-N-Q-A-S-M-KW
  version
  just (complete m VERSION-STRING)

-- the test of fn io_declaration_stmt, line 330
unfoldable pub io_type : Acts (Unit {0})
io_type = do
  k ← current
  when (not (one_of CLASSICAL-TYPES k)) (fail QUANTUM-TYPE-FOUND-IN-INPUT-OUTPUT-DECLARATION)

-- the end of fn qubit_declaration_stmt, line 194
unfoldable pub qubit_end : ℕ → Acts (Unit {0})
qubit_end m = do
  b ← at HARDWAREIDENT
  cond b (just hardware_qubit) var_name
  expect SEMICOLON
  just (complete m QUANTUM-DECLARATION-STATEMENT)

-- the first test of fn opt_item, line 77
unfoldable pub declares : ℕ → ℕ → Bool
declares k la = one_of CLASSICAL-TYPES k && not (eqb la L-PAREN)

-- the first arm of fn item, line 36: an item that a semicolon follows
unfoldable pub after_item : Acts (Unit {0})
after_item = do
  b ← at SEMICOLON
  when b (err_and_bump EXPECTED-STATEMENT-FOUND-SEMICOLON)

module _ (deeper : Counted) where
  -- fn switch_case_stmt, line 109: a round of its loop, and the whole
  -- runs: item `switch (a) {case 1 {}}`, item `switch (a) {case 1, 2 {} default {}}`
  -- breaks: item `switch`, item `switch (a) {}`, item `switch (a) {case 1 {}`
  unfoldable pub switch_case_stmt_round : Unit {0} → Acts (Turn (Unit {0}))
  switch_case_stmt_round x = do
    b ← at CASE-KW
    cond b (do
      m1 ← start
      bump CASE-KW
      deeper.expression_list
      try_block_expr deeper
      complete m1 CASE-EXPR
      done (more tt)) (done (last tt))

  unfoldable pub switch_case_stmt : ℕ → Acts (Unit {0})
  switch_case_stmt m = do
    must SWITCH-KW
    bump SWITCH-KW
    expect L-PAREN
    expr deeper
    expect R-PAREN
    expect L-CURLY
    fail_unless_at CASE-KW EXPECTING-CASE-KEYWORD
    repeats switch_case_stmt_round tt
    b ← eat DEFAULT-KW
    when b (try_block_expr deeper)
    expect R-CURLY
    just (complete m SWITCH-CASE-STMT)

  -- fn if_stmt, line 133
  -- runs: item `if (a) {}`, item `if (a) {} else if (b) {} else {}`
  -- breaks: item `if`, item `if (a {}`, item `if (a) {} else`
  unfoldable pub if_stmt : ℕ → Acts (Unit {0})
  if_stmt m = do
    must IF-KW
    bump IF-KW
    expect L-PAREN
    expr deeper
    expect R-PAREN
    try_block_expr deeper
    b ← at ELSE-KW
    when b (do
      bump ELSE-KW
      b ← at IF-KW
      cond b (do
        m ← start
        deeper.if_stmt m) (try_block_expr deeper))
    just (complete m IF-STMT)

  -- fn while_stmt, line 152
  -- runs: item `while (a) {}`
  -- breaks: item `while`, item `while a) {}`, item `while (a)`
  unfoldable pub while_stmt : ℕ → Acts (Unit {0})
  while_stmt m = do
    must WHILE-KW
    bump WHILE-KW
    expect L-PAREN
    expr deeper
    expect R-PAREN
    try_block_expr deeper
    just (complete m WHILE-STMT)

  -- the end of fn for_stmt, line 179
  unfoldable pub for_rest : ℕ → ℕ → Acts (Unit {0})
  for_rest m m1 = do
    complete m1 FOR-ITERABLE
    b ← at L-CURLY
    cond b (just (block_expr deeper)) deeper.stmt
    just (complete m FOR-STMT)

  -- fn for_stmt, line 162
  -- runs: item `for int i in a;`, item `for int i in {1} {}`
  -- breaks: item `for`, item `for int i {1};`, item `for {`
  unfoldable pub for_stmt : ℕ → Acts (Unit {0})
  for_stmt m = do
    must FOR-KW
    bump FOR-KW
    deeper.type_spec
    name
    expect IN-KW
    m1 ← start
    b ← at L-CURLY
    cond b (set_expression deeper) (do
      b ← at L-BRACK
      cond b (range_expr deeper) (just (expr deeper)))
    for_rest m m1

  -- fn qubit_declaration_stmt, line 189
  -- runs: item `qubit q;`, item `qubit $0;`
  -- breaks: item `qubit`, item `qubit q`
  unfoldable pub qubit_declaration_stmt : ℕ → Acts (Unit {0})
  qubit_declaration_stmt m = do
    must QUBIT-KW
    qubit_type_spec deeper
    qubit_end m

  -- fn reset_stmt, line 203
  -- runs: item `reset q;`
  -- breaks: item `reset`, item `reset q`
  unfoldable pub reset_stmt : ℕ → Acts (Unit {0})
  reset_stmt m = do
    bump RESET-KW
    k ← current
    cond (one_of QUBIT-FIRST k) (do
      m1 ← start
      arg_gate_call_qubit deeper m1
      expect SEMICOLON
      just (complete m RESET)) (do
        fail EXPECTING-NAME-OF-QUBIT-OR-REGISTER-TO
        abandon m)

  -- fn gate_definition, line 241
  -- runs: item `gate g {}`, item `gate g(a) q {}`
  -- breaks: item `gate`, item `gate g q`
  unfoldable pub gate_definition : ℕ → Acts (Unit {0})
  gate_definition m = do
    bump GATE-KW
    name_r ITEM-RECOVERY-SET
    b ← at L-PAREN
    when b (param_list_gate_params deeper)
    param_list_gate_qubits deeper
    try_block_expr deeper
    just (complete m GATE)

  -- the end of fn defcal_, line 274, and of fn def_stmt, line 352
  unfoldable pub signature : ℕ → ℕ → Acts (Unit {0})
  signature m node = do
    opt_ret_type deeper
    try_block_expr deeper
    just (complete m node)

  -- fn defcal_, line 260
  -- runs: item `defcal f {}`, item `defcal f(int a) q -> bit {}`
  -- breaks: item `defcal`, item `defcal f q`
  unfoldable pub defcal : ℕ → Acts (Unit {0})
  defcal m = do
    bump DEFCAL-KW
    name_r ITEM-RECOVERY-SET
    b ← at L-PAREN
    when b (param_list_defcal_params deeper)
    param_list_defcal_qubits deeper
    signature m DEF-CAL

  -- fn _returns_bool_classical_declaration_stmt, line 282, and classical_declaration_stmt, line 323, which does not read its answer
  -- runs: item `int a;`, item `const int a = b;`, item `int[1](a);`
  -- breaks: item `int a`, item `int a = b`, item `int[1](a;`
  unfoldable pub classical_declaration_stmt : ℕ → Acts (Unit {0})
  classical_declaration_stmt m = do
    eat CONST-KW
    mexpr ← start
    deeper.type_spec
    k ← current
    cond (eqb k L-PAREN) (do
      expect L-PAREN
      expr deeper
      expect R-PAREN
      complete mexpr CAST-EXPRESSION
      b ← at SEMICOLON
      cond b (do
        expect SEMICOLON
        just (complete m EXPR-STMT)) (abandon m)) (do
          abandon mexpr
          var_name
          b ← eat SEMICOLON
          cond b (just (complete m CLASSICAL-DECLARATION-STATEMENT)) (do
            b ← expect EQ
            cond b (do
              expr deeper
              expect SEMICOLON
              just (complete m CLASSICAL-DECLARATION-STATEMENT)) (abandon m)))

  -- fn io_declaration_stmt, line 327
  -- runs: item `input int a;`
  -- breaks: item `input`, item `input qubit q;`, item `output int a`
  unfoldable pub io_declaration_stmt : ℕ → Acts (Unit {0})
  io_declaration_stmt m = do
    bump_any
    io_type
    deeper.type_spec
    var_name
    expect SEMICOLON
    just (complete m I-O-DECLARATION-STATEMENT)

  -- fn def_stmt, line 339
  -- runs: item `def f() {}`, item `def f(int a) -> bit {}`
  -- breaks: item `def`, item `def f {}`, item `def f()`
  unfoldable pub def_stmt : ℕ → Acts (Unit {0})
  def_stmt m = do
    must DEF-KW
    bump_any
    name_r ITEM-RECOVERY-SET
    b ← at L-PAREN
    cond b (param_list_def_params deeper) (fail EXPECTED-FUNCTION-ARGUMENTS-IN-DEF)
    signature m DEF

  -- fn cal_, line 386
  -- runs: item `cal {}`
  -- breaks: item `cal`
  unfoldable pub cal : ℕ → Acts (Unit {0})
  cal m = do
    bump CAL-KW
    try_block_expr deeper
    just (complete m CAL)

  -- fn barrier_, line 408
  -- runs: item `barrier;`, item `barrier q;`
  -- breaks: item `barrier`, item `barrier 3;`
  unfoldable pub barrier : ℕ → Acts (Unit {0})
  barrier m = do
    bump BARRIER-KW
    b ← at SEMICOLON
    when (not b) (arg_list_gate_call_qubits deeper)
    expect SEMICOLON
    just (complete m BARRIER)

  -- fn delay_stmt, line 417
  -- runs: item `delay[1];`, item `delay[1] q;`
  -- breaks: item `delay`, item `delay[1]`
  unfoldable pub delay_stmt : ℕ → Acts (Unit {0})
  delay_stmt m = do
    bump DELAY-KW
    designator deeper
    arg_list_gate_call_qubits deeper
    expect SEMICOLON
    just (complete m DELAY-STMT)

  -- fn alias_stmt, line 426
  -- runs: item `let a = b;`
  -- breaks: item `let`, item `let a b;`, item `let a = b`
  unfoldable pub alias_stmt : ℕ → Acts (Unit {0})
  alias_stmt m = do
    must LET-KW
    bump_any
    name_r ITEM-RECOVERY-SET
    expect EQ
    expr deeper
    expect SEMICOLON
    just (complete m ALIAS-DECLARATION-STATEMENT)

  -- fn opt_item, line 68: the statements that begin with a kind, in the order of its match; first those from line 96 on
  -- runs: item ``, item `break;`
  -- breaks: item `break`
  abbrev pub statements_more : ℕ → List (ℕ × Acts (Unit {0}))
  statements_more m =
      (RESET-KW, reset_stmt m)
      ∷ (BARRIER-KW, barrier m)
      ∷ (O-P-E-N-Q-A-S-M-KW, version_string m)
      ∷ (INCLUDE-KW, include m)
      ∷ (SWITCH-KW, switch_case_stmt m)
      ∷ (LET-KW, alias_stmt m)
      ∷ (DELAY-KW, delay_stmt m)
      ∷ (INPUT-KW, io_declaration_stmt m)
      ∷ (OUTPUT-KW, io_declaration_stmt m)
      ∷ []

  abbrev pub statements : ℕ → List (ℕ × Acts (Unit {0}))
  statements m =
      (QUBIT-KW, qubit_declaration_stmt m)
      ∷ (CONST-KW, classical_declaration_stmt m)
      ∷ (GATE-KW, gate_definition m)
      ∷ (BREAK-KW, break m)
      ∷ (CONTINUE-KW, continue m)
      ∷ (END-KW, end m)
      ∷ (IF-KW, deeper.if_stmt m)
      ∷ (WHILE-KW, while_stmt m)
      ∷ (FOR-KW, for_stmt m)
      ∷ (DEF-KW, def_stmt m)
      ∷ (DEFCAL-KW, defcal m)
      ∷ (CAL-KW, cal m)
      ∷ (DEFCALGRAMMAR-KW, defcalgrammar m)
      ∷ statements_more m

  -- the statement that begins with a kind takes the marker; where there is none it is handed back
  abbrev pub beginning : ℕ → List (ℕ × Acts (Unit {0})) → ℕ → Acts (Result (Unit {0}) ℕ)
  beginning m [] k = done (Err m)
  beginning m (r ∷ rs) k = cond (eqb k r.0) (r.1 >> done (Ok tt)) (beginning m rs k)

  -- the arms of fn opt_item from line 96 on
  abbrev pub opt_item_more : ℕ → ℕ → Acts (Result (Unit {0}) ℕ)
  opt_item_more m k = beginning m (statements_more m) k

  -- whether there was an item: `Ok(())`, or `Err(m)` with the marker as it was
  unfoldable pub opt_item : ℕ → Acts (Result (Unit {0}) ℕ)
  opt_item m = do
    la ← nth 1
    k ← current
    cond (declares k la) (classical_declaration_stmt m >> done (Ok tt)) (do
      k ← current
      beginning m (statements m) k)

  -- the end of fn item, line 46: no item stands here, and the marker was handed back
  unfoldable pub unmatched : Bool → ℕ → Acts (Unit {0})
  unmatched stop_on_rcurly m = do
    k ← current
    cond (eqb k R-CURLY && not stop_on_rcurly) (do
      abandon m
      e ← start
      fail UNMATCHED-R-CURLY
      bump R-CURLY
      just (complete e ERROR)) (cond (one_of (EOF ∷ R-CURLY ∷ []) k) (abandon m) (do
        abandon m
        expr_block_contents deeper))

  -- fn item, line 32
  -- runs: item ``, item `;`
  -- breaks: item `}`, item `break;;`
  unfoldable pub item : Bool → Acts (Unit {0})
  item stop_on_rcurly = do
    m ← start
    offer ← opt_item m
    elim offer [ Ok x ↦ after_item | Err m ↦ unmatched stop_on_rcurly m ]

  -- fn source_file_contents, line 10: a round of its loop, and the whole
  -- runs: source ``, source `break; end;`
  -- breaks: source `}`, source `break`
  unfoldable pub source_file_contents_round : Bool → Unit {0} → Acts (Turn (Unit {0}))
  source_file_contents_round stop_on_rcurly x = do
    end ← at EOF
    cond end (done (last tt)) (do
      b ← at R-CURLY
      cond (stop_on_rcurly && b) (done (last tt)) (do
        item stop_on_rcurly
        done (more tt)))

  unfoldable pub source_file_contents : Bool → Acts (Unit {0})
  source_file_contents stop_on_rcurly = repeats (source_file_contents_round stop_on_rcurly) tt
