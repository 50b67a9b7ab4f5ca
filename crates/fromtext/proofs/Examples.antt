-- Small texts from bytes to steps, computed: rows of one table under one theorem. Assumes nothing.
use mathlib.Core.Path.{◌≡◌, refl}
use mathlib.Core.List.{List, [], ◌∷◌, map}
use mathlib.Core.Option.{Option, none, some}
use Prim.Native.Nat.{ℕ}
use lib.ListN.{replicate}
use Rattle.kinds.specs.Kinds.{ASSIGNMENT-STMT, BIN-EXPR, COMMENT, EQ, EQ2, ERROR, EXPR-STMT, IDENT, IDENTIFIER, SEMICOLON, SOURCE-FILE}
use Rattle.kinds.specs.Membership.{bit, one_of}
use Rattle.input.specs.Input.{seen}
use Rattle.input.specs.Glue.{parts_of, stands_at}
use Rattle.event.specs.Event.{error_of, decode, events_of, words_of, encode}
use Rattle.runtime.specs.State.{looked, halted, event_at, push_event, consume, do_bump, named, linked, dropped}
use Rattle.runtime.specs.Acts.{step, ◌>>=◌, run, at_ts, bump, bump_any, expect, err_recover, must, goes_on, iter, left}
use Rattle.grammar.specs.Grammar.{fail_if_at, fail_unless_at, name_r, separator, delimited_round, delimited, scalar_return, opt_ret_type}
use Rattle.operators.specs.Operators.{table_of, current_op}
use Rattle.grammar.specs.Params.{param_untyped, list_open, at_list_end, list_goes, param_ahead, list_next, list_empty, list_end, param_typed, arg_gate_call_qubit, found_param, param_list_openqasm_round, param_list_openqasm, param_list_gate_params, param_list_gate_qubits, arg_list_gate_call_qubits, param_list_def_params, param_list_defcal_params, param_list_defcal_qubits, expression_list}
use Rattle.grammar.specs.Atom.{identifier, hardware_qubit, timing, literal, inv_modifier, no_argument, tuple_comma, tuple_next, tuple_kind, tuple_end, first_semicolon, array_next, array_end, cast_expr, gphase_call_expr, gate_call_expr, modifier, modified_gate_call_expr_round, modified_gate_call_expr, measure_expression, tuple_expr_round, tuple_expr, array_expr_round, array_expr, block_expr, try_block_expr, return_expr, box_expr, atom_of, atom_expr}
use Rattle.grammar.specs.Expressions.{type_name, marker, lacks_expr, assigned, no_assignment, close_op, cast_ahead, stmt_lacks_expr, no_semicolon, stmt_end, literal_designator, array_base, unindexed, args_end, var_name, range_expr, expr_or_range_expr, let_stmt, expr_block_contents_round, expr_block_contents, designator, non_array_type_spec, array_type_spec_round, array_type_spec, type_spec, complex_type_spec, qubit_type_spec, set_expression, index_operator, index_expr, indexed_identifier_round, indexed_identifier, indexed, call_arg_list, call_expr, postfix_expr_round, postfix_expr, lhs, expr_bp_round, expr_bp, no_item, stmt}
use Rattle.grammar.specs.Items.{break, continue, end, filepath_r, defcalgrammar, include, skip_to_semicolon, version, version_string, io_type, qubit_end, declares, switch_case_stmt_round, switch_case_stmt, if_stmt, while_stmt, for_rest, for_stmt, qubit_declaration_stmt, reset_stmt, gate_definition, signature, defcal, classical_declaration_stmt, io_declaration_stmt, def_stmt, cal, barrier, delay_stmt, alias_stmt, opt_item, unmatched, after_item, item, source_file_contents_round, source_file_contents}
use Rattle.grammar.specs.Entry.{counted, source_file, one_item, one_expression}
use Rattle.turns.specs.Process.{follow, entered, turn, turns}
use Rattle.parse.specs.Parse.{first_fault, settled, parsed}
use Rattle.records.specs.declared.Step.{Step}
use Rattle.records.specs.declared.Step.TheVariants.{Enter as enter, Leave as leave, Token as taken, Error as failed, Expected as lacked}
use Rattle.parse.specs.Parse.{Answer}
use Rattle.parse.specs.declared.Entry.TheVariants.{SourceFile}
use Rattle.parse.specs.Parse as P
use Rattle.answers.specs.Handed.{steps_in}
use Rattle.lexical.specs.Lexed.{tokens, words}
use Rattle.lexical.specs.Texts.{bytes}
use Rattle.lex.specs.Lexing.{kinds_in, joints_in, put_bits, lexing}
use Rattle.lex.specs.Lexing as X
use Rattle.fromtext.specs.FromText.{Lent, lent, Outcome, from_text, steps_kinds}

-- what the lexer says and leaves, what the parse says, its steps, and the kinds of what they stand for
data Result : Type 0 where
  parse : X.Outcome → Answer → List Step → List ℕ → Result
  refused : X.Outcome → Result

-- what is lent, and what comes of it
data Row : Type 0 where
  row : Lent → Result → Row

abbrev shown : Outcome → Result
shown o = by o.parse
  where
    by : Option P.Outcome → Result
    by none = refused o.lex
    by (some p) = parse o.lex p.answer (steps_in p) (steps_kinds (steps_in p))

abbrev got : Row → Result
got (row l r) = shown (from_text l)

abbrev wanted : Row → Result
wanted (row l r) = r

-- a source file in mode 0; the joint words are all ones, and the other rooms hold 7
abbrev source : List ℕ → ℕ → Lent
source text words = lent SourceFile 0 text (replicate 6 7) (255 ∷ 255 ∷ []) (replicate words 7) (replicate 44 7)

rows : List Row
rows =
    -- `==` is one operator
    row (source (bytes "a==b;") 12)
    (parse (X.ends (X.says 0 5 5) (IDENT ∷ EQ ∷ EQ ∷ IDENT ∷ SEMICOLON ∷ 7 ∷ []) (239 ∷ 255 ∷ []) (IDENT ∷ 1 ∷ EQ ∷ 1 ∷ EQ ∷ 1 ∷ IDENT ∷ 1 ∷ SEMICOLON ∷ 1 ∷ 7 ∷ 7 ∷ []))
    (P.says 0 5 16 26)
    (enter SOURCE-FILE ∷ enter EXPR-STMT ∷ enter BIN-EXPR ∷ enter IDENTIFIER ∷ taken IDENT 1 ∷ leave ∷ taken EQ2 2 ∷ enter IDENTIFIER ∷ taken IDENT 1 ∷ leave ∷ leave ∷ taken SEMICOLON 1 ∷ leave ∷ leave ∷ [])
    (IDENT ∷ EQ ∷ EQ ∷ IDENT ∷ SEMICOLON ∷ []))
    -- with a comment in it there are two
    ∷ row (source (bytes "a=/**/=b;") 12)
    (parse (X.ends (X.says 0 6 5) (IDENT ∷ EQ ∷ EQ ∷ IDENT ∷ SEMICOLON ∷ 7 ∷ []) (237 ∷ 255 ∷ []) (IDENT ∷ 1 ∷ EQ ∷ 1 ∷ COMMENT ∷ 4 ∷ EQ ∷ 1 ∷ IDENT ∷ 1 ∷ SEMICOLON ∷ 1 ∷ []))
    (P.says 0 5 22 36)
    (enter SOURCE-FILE ∷ enter ASSIGNMENT-STMT ∷ enter IDENTIFIER ∷ taken IDENT 1 ∷ leave ∷ taken EQ 1 ∷ enter ERROR ∷ failed 21 0 ∷ taken EQ 1 ∷ leave ∷ lacked SEMICOLON IDENT ∷ leave ∷ enter EXPR-STMT ∷ enter IDENTIFIER ∷ taken IDENT 1 ∷ leave ∷ taken SEMICOLON 1 ∷ leave ∷ leave ∷ [])
    (IDENT ∷ EQ ∷ EQ ∷ IDENT ∷ SEMICOLON ∷ []))
    -- a room a word too small: nothing is written, and nothing parsed
    ∷ row (source (bytes "a=/**/=b;") 11) (refused (X.ends (X.says 15 6 0) (replicate 6 7) (255 ∷ 255 ∷ []) (replicate 11 7)))
    ∷ []

table : map got rows ≡ map wanted rows
unfolding rows from_text steps_kinds tokens words kinds_in joints_in put_bits lexing bit one_of seen parts_of stands_at error_of decode events_of looked halted event_at push_event consume do_bump named linked dropped step ◌>>=◌ run at_ts bump bump_any expect err_recover must goes_on iter left fail_if_at fail_unless_at name_r separator delimited_round delimited scalar_return opt_ret_type table_of current_op param_untyped list_open at_list_end list_goes param_ahead list_next list_empty list_end param_typed arg_gate_call_qubit found_param param_list_openqasm_round param_list_openqasm param_list_gate_params param_list_gate_qubits arg_list_gate_call_qubits param_list_def_params param_list_defcal_params param_list_defcal_qubits expression_list identifier hardware_qubit timing literal inv_modifier no_argument tuple_comma tuple_next tuple_kind tuple_end first_semicolon array_next array_end cast_expr gphase_call_expr gate_call_expr modifier modified_gate_call_expr_round modified_gate_call_expr measure_expression tuple_expr_round tuple_expr array_expr_round array_expr block_expr try_block_expr return_expr box_expr atom_of atom_expr type_name marker lacks_expr assigned no_assignment close_op cast_ahead stmt_lacks_expr no_semicolon stmt_end literal_designator array_base unindexed args_end var_name range_expr expr_or_range_expr let_stmt expr_block_contents_round expr_block_contents designator non_array_type_spec array_type_spec_round array_type_spec type_spec complex_type_spec qubit_type_spec set_expression index_operator index_expr indexed_identifier_round indexed_identifier indexed call_arg_list call_expr postfix_expr_round postfix_expr lhs expr_bp_round expr_bp no_item stmt break continue end filepath_r defcalgrammar include skip_to_semicolon version version_string io_type qubit_end declares switch_case_stmt_round switch_case_stmt if_stmt while_stmt for_rest for_stmt qubit_declaration_stmt reset_stmt gate_definition signature defcal classical_declaration_stmt io_declaration_stmt def_stmt cal barrier delay_stmt alias_stmt opt_item unmatched after_item item source_file_contents_round source_file_contents counted source_file one_item one_expression encode words_of follow entered turn turns first_fault settled parsed
table = refl
