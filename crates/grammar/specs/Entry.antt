-- The depth, and the three entries: `mod entry` of src/grammar.rs, line 51, and the two that the port adds.
-- Assumes nothing: these are definitions.
use Rattle.std.specs.Prelude.{false, ℕ, zero, suc, None}
use Rattle.kinds.specs.Kinds.{SOURCE-FILE}
use Rattle.runtime.specs.Acts.{Acts, Acts.done, ◌>>=◌, ◌>>◌, start, complete, stop}
use Rattle.runtime.specs.declared.parser.Stop.TheVariants.{Deep}
use Rattle.grammar.specs.Grammar.{Counted, just}
use Rattle.operators.specs.Operators.{Table}
use Rattle.grammar.specs.Expressions as E
use Rattle.grammar.specs.Params as P
use Rattle.grammar.specs.Atom as A
use Rattle.grammar.specs.Items as I

-- what expressions.rs calls of the files after it
abbrev pub later : Counted → E.Later
later deeper = record { atom_expr = A.atom_expr deeper; arg_list_gate_call_qubits = P.arg_list_gate_call_qubits deeper; opt_item = I.opt_item deeper }

-- With n counted calls to spare. None: the call is refused with 6, before anything else of it happens.
unfoldable pub counted : Table → ℕ → Counted
counted ops zero =
    record {
      expr_bp = λ m prefer bp. (stop Deep >> done None);
      stmt = stop Deep;
      type_spec = stop Deep;
      complex_type_spec = stop Deep;
      if_stmt = λ m. stop Deep;
      expression_list = stop Deep;
    }
counted ops (suc n) =
    record {
      expr_bp = E.expr_bp (counted ops n) (later (counted ops n)) ops;
      stmt = E.stmt (counted ops n) (later (counted ops n));
      type_spec = E.type_spec (counted ops n);
      complex_type_spec = E.complex_type_spec (counted ops n);
      if_stmt = I.if_stmt (counted ops n);
      expression_list = P.expression_list (counted ops n);
    }

-- at most 64 counted calls are unfinished
abbrev pub deepest : ℕ
deepest = 64

-- fn source_file, line 57
-- runs: source ``, source `;`
-- breaks: source `}`
unfoldable pub source_file : Table → Acts (Unit {0})
source_file ops = do
  m ← start
  I.source_file_contents (counted ops deepest) false
  just (complete m SOURCE-FILE)

-- one call of `item`
unfoldable pub one_item : Table → Acts (Unit {0})
one_item ops = I.item (counted ops deepest) false

-- one call of `expr_bp`
unfoldable pub one_expression : Table → Acts (Unit {0})
one_expression ops = just ((counted ops deepest).expr_bp None false 1)
