-- src/grammar/params.rs. Each definition has the name of its function there. Assumes nothing: these are definitions.
use Rattle.std.specs.Prelude.{Bool, true, false, not, ◌&&◌, cond, ℕ, ◌+◌, ltb}
use Rattle.kinds.specs.Membership.{one_of}
use Rattle.kinds.specs.Kinds.{EOF, SEMICOLON, COMMA, L-PAREN, R-PAREN, L-BRACK, R-BRACK, L-CURLY, THIN-ARROW, IDENT, HARDWAREIDENT, PARAM-LIST, QUBIT-LIST, EXPRESSION-LIST, TYPED-PARAM-LIST, PARAM, TYPED-PARAM, HARDWARE-QUBIT, IDENTIFIER}
use Rattle.kinds.specs.Sets.{PARAM-FIRST, TYPES}
use Rattle.kinds.specs.Messages.{EXPECTED-VALUE-PARAMETER, EXPECTED-COMMA, EXPECTED-ONE-OR-MORE-PARAMETERS, EXPECTED-PARAMETER-NAME, EXPECTED-NAME-IN-QUBIT-ARGUMENT}
use Rattle.input.specs.Input.{Env}
use Rattle.runtime.specs.State.{Parser}
use Rattle.runtime.specs.Acts.{sees, Acts, Acts.done, ◌>>=◌, ◌>>◌, at, at_ts, current, bump, expect, start, complete, abandon, Turn, Turn.more, Turn.last, repeats}
use Rattle.grammar.specs.declared.How.{How}
use Rattle.grammar.specs.declared.How.TheVariants.{Expr, Qubit, Typed, Untyped}
use Rattle.grammar.specs.declared.Shape.{Shape}
use Rattle.grammar.specs.declared.DefFlavor.{DefFlavor}
use Rattle.grammar.specs.declared.DefFlavor.TheVariants.{GateParams, GateQubits, GateCallQubits, DefParams, DefCalParams, DefCalQubits, ExpressionList}
use Rattle.grammar.specs.Grammar.{Counted, when, just, fail}
use Rattle.grammar.specs.Expressions.{expr_or_range_expr, var_name, indexed_identifier}

-- fn param_untyped, line 172
-- runs: item `gate g q`
-- breaks: item `gate g 3`
unfoldable pub param_untyped : ℕ → Acts Bool
param_untyped m = do
  b ← at IDENT
  cond b (do
    bump IDENT
    complete m PARAM
    done true) (do
      fail EXPECTED-PARAMETER-NAME
      abandon m
      done false)

-- What fn _param_list_openqasm, line 49, reads off its flavor: whether the list stands in parentheses, the two kinds that end it,
-- whether it must not be empty, the node that it makes, and how a parameter is parsed. The crate asks for the flavor at each of these places;
-- that is no act and costs no lookup, so a table that is read once makes the same run.
abbrev pub shape : Bool → ℕ → ℕ → Bool → ℕ → How → Shape
shape parens end end2 one node how = record { parens = parens; end = end; end2 = end2; one = one; node = node; how = how }

abbrev pub shape_of : DefFlavor → Shape
shape_of GateParams = shape true R-PAREN R-PAREN true PARAM-LIST Untyped
shape_of GateQubits = shape false L-CURLY L-CURLY false PARAM-LIST Untyped
shape_of GateCallQubits = shape false SEMICOLON SEMICOLON false QUBIT-LIST Qubit
shape_of DefParams = shape true R-PAREN R-PAREN false TYPED-PARAM-LIST Typed
shape_of DefCalParams = shape true R-PAREN R-PAREN false TYPED-PARAM-LIST Typed
shape_of DefCalQubits = shape false L-CURLY THIN-ARROW false QUBIT-LIST Untyped
shape_of ExpressionList = shape false R-BRACK R-BRACK true EXPRESSION-LIST Expr

-- its start, line 51
unfoldable pub list_open : Shape → Acts ℕ
list_open sh = do
  list ← start
  when sh.parens (bump L-PAREN)
  done list

-- `list_end_tokens.iter().any(|x| p.at(*x))`
unfoldable pub at_list_end : Shape → Acts Bool
at_list_end sh = do
  b ← at sh.end
  cond b (done true) (at sh.end2)

-- what that act tells
abbrev pub ends_here : Env → Parser → Shape → Bool
ends_here e p sh = cond (sees e p sh.end) true (sees e p sh.end2)

-- the test of its loop, line 76, and what it tells
unfoldable pub list_goes : Shape → Acts Bool
list_goes sh = do
  end ← at EOF
  cond end (done false) (do
    end ← at_list_end sh
    done (not end))

abbrev pub goes_here : Env → Parser → Shape → Bool
goes_here e p sh = cond (sees e p EOF) false (not (ends_here e p sh))

-- whether a parameter begins here, line 78
unfoldable pub param_ahead : Acts Bool
param_ahead = do
  k ← current
  cond (one_of TYPES k) (done true) (at_ts PARAM-FIRST)

-- after a parameter, line 102: whether another one is to follow
unfoldable pub list_next : Shape → Acts Bool
list_next sh = do
  end ← at_list_end sh
  cond end (done false) (do
    b ← at COMMA
    cond b (do
      bump COMMA
      done true) (do
        b ← at_ts PARAM-FIRST
        cond b (do
          fail EXPECTED-COMMA
          done true) (done false)))

-- its end, line 118, after n parameters
unfoldable pub list_empty : Bool → ℕ → Acts (Unit {0})
list_empty one n = when (one && ltb n 1) (fail EXPECTED-ONE-OR-MORE-PARAMETERS)

unfoldable pub list_end : ℕ → Shape → ℕ → Acts (Unit {0})
list_end list sh n = do
  list_empty sh.one n
  when sh.parens (just (expect R-PAREN))
  just (complete list sh.node)

module _ (deeper : Counted) where
  -- fn param_typed, line 183
  -- runs: item `def f(int a`
  -- breaks: item `def f(a`, item `def f(int`, item `def f(3`
  unfoldable pub param_typed : ℕ → Acts Bool
  param_typed m = do
    deeper.type_spec
    var_name
    complete m TYPED-PARAM
    done true

  -- fn arg_gate_call_qubit, line 191
  -- runs: item `reset q`, item `reset $0`, item `reset q[1]`
  -- breaks: item `barrier 3`, item `reset q[`
  unfoldable pub arg_gate_call_qubit : ℕ → Acts Bool
  arg_gate_call_qubit m = do
    b ← at HARDWAREIDENT
    cond b (do
      bump HARDWAREIDENT
      complete m HARDWARE-QUBIT
      done true) (do
        b ← at IDENT
        cond b (do
          bump IDENT
          mcomp ← complete m IDENTIFIER
          b ← at L-BRACK
          when b (just (indexed_identifier deeper mcomp))
          done true) (do
            fail EXPECTED-NAME-IN-QUBIT-ARGUMENT
            abandon m
            done false))

  -- one parameter of fn _param_list_openqasm, line 83: whether one was found
  unfoldable pub found_param : How → ℕ → Acts Bool
  found_param Expr m = do
    abandon m
    expr_or_range_expr deeper
    done true
  found_param Qubit m = arg_gate_call_qubit m
  found_param Typed m = param_typed m
  found_param Untyped m = param_untyped m

  -- fn _param_list_openqasm, line 49: a round of its loop, which carries num_params, and the whole. Its marker m is always None.
  -- runs: item `gate`, item `gate g(a, b) q, r {}`
  -- breaks: item `gate g;`, item `gate g q r`, item `gate g(`
  unfoldable pub param_list_openqasm_round : Shape → ℕ → Acts (Turn ℕ)
  param_list_openqasm_round sh n = do
    go ← list_goes sh
    cond go (do
      m ← start
      first ← param_ahead
      cond first (do
        found ← found_param sh.how m
        cond found (do
          another ← list_next sh
          cond another (done (more (n + 1))) (done (last (n + 1)))) (done (last n))) (do
            fail EXPECTED-VALUE-PARAMETER
            abandon m
            done (last n))) (done (last n))

  unfoldable pub param_list_openqasm : DefFlavor → Acts (Unit {0})
  param_list_openqasm flavor = do
    list ← list_open (shape_of flavor)
    n ← repeats (param_list_openqasm_round (shape_of flavor)) 0
    list_end list (shape_of flavor) n

  -- fn param_list_gate_params, line 6
  -- runs: item `gate g(a)`
  -- breaks: item `gate g()`, item `gate g(a`, item `gate g(3)`
  unfoldable pub param_list_gate_params : Acts (Unit {0})
  param_list_gate_params = param_list_openqasm GateParams

  -- fn param_list_gate_qubits, line 9
  -- runs: item `gate`, item `gate g q, r {`
  -- breaks: item `gate g;`, item `gate g q r`
  unfoldable pub param_list_gate_qubits : Acts (Unit {0})
  param_list_gate_qubits = param_list_openqasm GateQubits

  -- fn arg_list_gate_call_qubits, line 13
  -- runs: item `barrier`, item `barrier q, $1;`
  -- breaks: item `barrier )`, item `barrier q r`, item `barrier 3`
  unfoldable pub arg_list_gate_call_qubits : Acts (Unit {0})
  arg_list_gate_call_qubits = param_list_openqasm GateCallQubits

  -- fn param_list_def_params, line 17
  -- runs: item `def f()`, item `def f(int a, bit b)`
  -- breaks: item `def f(`, item `def f(int a b)`, item `def f(3`
  unfoldable pub param_list_def_params : Acts (Unit {0})
  param_list_def_params = param_list_openqasm DefParams

  -- fn param_list_defcal_params, line 20
  -- runs: item `defcal f()`, item `defcal f(int a)`
  -- breaks: item `defcal f(`, item `defcal f(})`, item `defcal f($0`
  unfoldable pub param_list_defcal_params : Acts (Unit {0})
  param_list_defcal_params = param_list_openqasm DefCalParams

  -- fn param_list_defcal_qubits, line 23
  -- runs: item `defcal`, item `defcal f q, r -> bit {`
  -- breaks: item `defcal f;`, item `defcal f q r`, item `defcal f $0`
  unfoldable pub param_list_defcal_qubits : Acts (Unit {0})
  param_list_defcal_qubits = param_list_openqasm DefCalQubits

  -- fn expression_list, line 27
  -- runs: expr `a[1`, expr `a[1, b:c]`
  -- breaks: expr `a[`, expr `a[1 2`, expr `a[;`
  unfoldable pub expression_list : Acts (Unit {0})
  expression_list = param_list_openqasm ExpressionList
