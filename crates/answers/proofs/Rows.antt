-- P1 to P11 of docs/RULES.md and some runs more, computed: rows of one table under one theorem. Assumes nothing.
use mathlib.Core.Path.{◌≡◌, refl}
use mathlib.Core.List.{List, [], ◌∷◌, ◌++◌, map}
use Prim.Native.Nat.{ℕ, ◌*◌}
use lib.ListN.{replicate}
use Rattle.kinds.specs.Kinds.{ALIAS-DECLARATION-STATEMENT, AMP, ARG-LIST, BIN-EXPR, BREAK-KW, BREAK-STMT, CALL-EXPR, COMMA, EOF, EQ, EQ2, ERROR, EXPRESSION-LIST, IDENT, IDENTIFIER, INT-NUMBER, L-ANGLE, L-PAREN, LET-KW, LITERAL, MINUS, NAME, PREFIX-EXPR, R-CURLY, R-PAREN, RESET-KW, SEMICOLON, SOURCE-FILE, TOMBSTONE}
use Rattle.kinds.specs.Membership.{bit, one_of}
use Rattle.input.specs.Input.{seen}
use Rattle.input.specs.Glue.{parts_of, stands_at}
use Rattle.event.specs.declared.Event.TheVariants.{Start, Finish, Token, Error}
use Rattle.event.specs.Event.{event_words, error_of, decode, events_of, left_over, words_of, encode, tombstone}
use Rattle.runtime.specs.State.{looked, halted, event_at, push_event, consume, do_bump, named, linked, dropped}
use Rattle.runtime.specs.Acts.{step, ◌>>=◌, run, at_ts, bump, bump_any, expect, err_recover, must, goes_on, iter, left}
use Rattle.grammar.specs.Grammar.{fail_if_at, fail_unless_at, name_r, separator, delimited_round, delimited, scalar_return, opt_ret_type}
use Rattle.operators.specs.Operators.{table_of, current_op}
use Rattle.grammar.specs.Params.{param_untyped, list_open, at_list_end, list_goes, param_ahead, list_next, list_empty, list_end, param_typed, arg_gate_call_qubit, found_param, param_list_openqasm_round, param_list_openqasm, param_list_gate_params, param_list_gate_qubits, arg_list_gate_call_qubits, param_list_def_params, param_list_defcal_params, param_list_defcal_qubits, expression_list}
use Rattle.grammar.specs.Atom.{identifier, hardware_qubit, timing, literal, inv_modifier, no_argument, tuple_comma, tuple_next, tuple_kind, tuple_end, first_semicolon, array_next, array_end, cast_expr, gphase_call_expr, gate_call_expr, modifier, modified_gate_call_expr_round, modified_gate_call_expr, measure_expression, tuple_expr_round, tuple_expr, array_expr_round, array_expr, block_expr, try_block_expr, return_expr, box_expr, atom_of, atom_expr}
use Rattle.grammar.specs.Expressions.{type_name, marker, lacks_expr, assigned, no_assignment, close_op, cast_ahead, stmt_lacks_expr, no_semicolon, stmt_end, literal_designator, array_base, unindexed, args_end, var_name, range_expr, expr_or_range_expr, let_stmt, expr_block_contents_round, expr_block_contents, designator, non_array_type_spec, array_type_spec_round, array_type_spec, type_spec, complex_type_spec, qubit_type_spec, set_expression, index_operator, index_expr, indexed_identifier_round, indexed_identifier, indexed, call_arg_list, call_expr, postfix_expr_round, postfix_expr, lhs, expr_bp_round, expr_bp, no_item, stmt}
use Rattle.grammar.specs.Items.{break, continue, end, filepath_r, defcalgrammar, include, skip_to_semicolon, version, version_string, io_type, qubit_end, declares, switch_case_stmt_round, switch_case_stmt, if_stmt, while_stmt, for_rest, for_stmt, qubit_declaration_stmt, reset_stmt, gate_definition, signature, defcal, classical_declaration_stmt, io_declaration_stmt, def_stmt, cal, barrier, delay_stmt, alias_stmt, opt_item, unmatched, after_item, item, source_file_contents_round, source_file_contents}
use Rattle.grammar.specs.Entry.{counted, source_file, one_item, one_expression}
use Rattle.records.specs.declared.Step.{Step}
use Rattle.records.specs.declared.Step.TheVariants.{Enter as enter, Leave as leave, Token as taken, Error as failed, Expected as lacked}
use Rattle.lists.specs.Answer as A
use Rattle.records.specs.Record.{bytes}
use Rattle.lists.specs.Check.{next, scan, checked}
use Rattle.turns.specs.Process.{follow, entered, turn, turns}
use Rattle.events.specs.Resolve.{resolved}
use Rattle.events.specs.Examples as lists
use Rattle.parse.specs.declared.Entry.TheVariants.{SourceFile, Item, Expression}
use Rattle.parse.specs.Parse.{Lent, lent, Outcome, ends, says, refuses, first_fault, settled, parsed}
use Rattle.answers.specs.Handed.{steps_in}

-- a parse, what it says and leaves, and the steps of its list; or a list, as in the table of lists
data Row : Type 0 where
  parse : Lent → Outcome → List Step → Row
  list : lists.Row → Row

data Result : Type 0 where
  parse : Outcome → List Step → Result
  list : lists.Result → Result

abbrev got : Row → Result
got (parse l o ss) = parse (parsed l) (steps_in (parsed l))
got (list r) = list (lists.got r)

abbrev wanted : Row → Result
wanted (parse l o ss) = parse o ss
wanted (list r) = list (lists.wanted r)

-- an item in mode 0 without joint bits, in a room of so many events, whose words are 7
abbrev item0 : List ℕ → ℕ → Lent
item0 kinds n = lent Item 0 kinds (0 ∷ []) (replicate (n * event_words) 7)

-- an expression in a mode, with a word of joint bits, in a room of as many events as it needs
abbrev expression : ℕ → List ℕ → ℕ → ℕ → Lent
expression mode kinds joints n = lent Expression mode kinds (joints ∷ []) (replicate (n * event_words) 7)

rows : List Row
rows =
    -- P1 and P2: `break ;` in a room of four events, and of three
    parse (item0 (BREAK-KW ∷ SEMICOLON ∷ []) 4) (ends (says 0 2 4 3) (words_of (Start BREAK-STMT 0 ∷ Token BREAK-KW 1 ∷ Token SEMICOLON 1 ∷ Finish ∷ []))) (enter BREAK-STMT ∷ taken BREAK-KW 1 ∷ taken SEMICOLON 1 ∷ leave ∷ [])
    ∷ parse (item0 (BREAK-KW ∷ SEMICOLON ∷ []) 3) (ends (refuses 5 2) (replicate 6 0)) []
    -- P3 and P4: no tokens: the start that is abandoned needs its place
    ∷ parse (item0 [] 1) (ends (says 0 0 0 4) (replicate 2 0)) []
    ∷ parse (item0 [] 0) (ends (refuses 5 0) []) []
    -- P5: `}`
    ∷ parse (item0 (R-CURLY ∷ []) 6) (ends (says 0 1 4 4) (words_of (Start ERROR 0 ∷ Error 32 0 0 ∷ Token R-CURLY 1 ∷ Finish ∷ []) ++ replicate 4 0)) (enter ERROR ∷ failed 32 0 ∷ taken R-CURLY 1 ∷ leave ∷ [])
    -- P6: `reset ;`
    ∷ parse (item0 (RESET-KW ∷ SEMICOLON ∷ []) 11) (ends (says 0 2 7 7) (words_of (Start TOMBSTONE 0 ∷ Token RESET-KW 1 ∷ Error 34 0 0 ∷ Start ERROR 0 ∷ Error 31 0 0 ∷ Token SEMICOLON 1 ∷ Finish ∷ []) ++ replicate 8 0)) (taken RESET-KW 1 ∷ failed 34 0 ∷ enter ERROR ∷ failed 31 0 ∷ taken SEMICOLON 1 ∷ leave ∷ [])
    -- `break` alone: what was found is the end, and its step file says so
    ∷ parse (item0 (BREAK-KW ∷ []) 4) (ends (says 0 1 4 3) (words_of (Start BREAK-STMT 0 ∷ Token BREAK-KW 1 ∷ []) ++ 262145 ∷ 65539 ∷ words_of (Finish ∷ []))) (enter BREAK-STMT ∷ taken BREAK-KW 1 ∷ lacked SEMICOLON EOF ∷ leave ∷ [])
    ∷ list (lists.row (words_of (Start BREAK-STMT 0 ∷ Token BREAK-KW 1 ∷ Error 1 SEMICOLON EOF ∷ Finish ∷ [])) 27 (A.says 0 27) (enter BREAK-STMT ∷ taken BREAK-KW 1 ∷ lacked SEMICOLON EOF ∷ leave ∷ []) (2 ∷ 0 ∷ 1 ∷ 0 ∷ 144 ∷ 0 ∷ 3 ∷ 0 ∷ 3 ∷ 0 ∷ 79 ∷ 0 ∷ 1 ∷ 6 ∷ 0 ∷ 5 ∷ 0 ∷ 1 ∷ 0 ∷ 3 ∷ 0 ∷ 1 ∷ 0 ∷ 0 ∷ 0 ∷ 2 ∷ 0 ∷ []))
    -- `f(1 2)`: at its second argument a comma was expected
    ∷ parse (expression 0 (IDENT ∷ L-PAREN ∷ INT-NUMBER ∷ INT-NUMBER ∷ R-PAREN ∷ []) 0 21) (ends (says 0 5 21 26) (words_of (Start TOMBSTONE 4 ∷ Start IDENTIFIER 3 ∷ Token IDENT 1 ∷ Finish ∷ Start CALL-EXPR 0 ∷ Start ARG-LIST 0 ∷ Start EXPRESSION-LIST 0 ∷ Token L-PAREN 1 ∷ Start TOMBSTONE 1 ∷ Start LITERAL 0 ∷ Token INT-NUMBER 1 ∷ Finish ∷ []) ++ 262145 ∷ 6488068 ∷ words_of (Start TOMBSTONE 1 ∷ Start LITERAL 0 ∷ Token INT-NUMBER 1 ∷ Finish ∷ Token R-PAREN 1 ∷ Finish ∷ Finish ∷ Finish ∷ []))) (enter CALL-EXPR ∷ enter IDENTIFIER ∷ taken IDENT 1 ∷ leave ∷ enter ARG-LIST ∷ enter EXPRESSION-LIST ∷ taken L-PAREN 1 ∷ enter LITERAL ∷ taken INT-NUMBER 1 ∷ leave ∷ lacked COMMA INT-NUMBER ∷ enter LITERAL ∷ taken INT-NUMBER 1 ∷ leave ∷ taken R-PAREN 1 ∷ leave ∷ leave ∷ leave ∷ [])
    -- P7 to P11
    ∷ list (lists.row (words_of (Finish ∷ [])) 9 (A.says 9 0) [] [])
    ∷ list (lists.row (words_of (tombstone ∷ [])) 9 (A.says 0 0) [] [])
    ∷ list (lists.row (words_of (Start 40 0 ∷ [])) 9 (A.says 9 1) [] [])
    ∷ list (lists.row [] 9 (A.says 0 0) [] [])
    ∷ list (lists.row (words_of (Start 40 2 ∷ Start 41 1 ∷ Start 42 0 ∷ Finish ∷ Finish ∷ Finish ∷ [])) 32 (A.says 0 30) (enter 42 ∷ enter 40 ∷ enter 41 ∷ leave ∷ leave ∷ leave ∷ []) (lists.three_file 42 40 41))
    -- the refusals before the run, in their order: each holds of the row before it too
    ∷ parse (lent Item 2 (TOMBSTONE ∷ []) [] (7 ∷ [])) (ends (refuses 1 0) (7 ∷ [])) []
    ∷ parse (lent Item 1 (TOMBSTONE ∷ []) [] (7 ∷ [])) (ends (refuses 3 0) (7 ∷ [])) []
    ∷ parse (lent Item 1 (SEMICOLON ∷ TOMBSTONE ∷ []) (0 ∷ []) (7 ∷ [])) (ends (refuses 4 1) (7 ∷ [])) []
    -- a source file, in a room with a word too many
    ∷ parse (lent SourceFile 0 (BREAK-KW ∷ SEMICOLON ∷ []) (0 ∷ []) (replicate 13 7)) (ends (says 0 2 6 3) (words_of (Start SOURCE-FILE 0 ∷ Start BREAK-STMT 0 ∷ Token BREAK-KW 1 ∷ Token SEMICOLON 1 ∷ Finish ∷ Finish ∷ []) ++ 0 ∷ [])) (enter SOURCE-FILE ∷ enter BREAK-STMT ∷ taken BREAK-KW 1 ∷ taken SEMICOLON 1 ∷ leave ∷ leave ∷ [])
    -- `let` from an item
    ∷ parse (item0 (LET-KW ∷ IDENT ∷ EQ ∷ IDENT ∷ SEMICOLON ∷ []) 12) (ends (says 0 5 12 12) (words_of (Start ALIAS-DECLARATION-STATEMENT 0 ∷ Token LET-KW 1 ∷ Start NAME 0 ∷ Token IDENT 1 ∷ Finish ∷ Token EQ 1 ∷ Start TOMBSTONE 1 ∷ Start IDENTIFIER 0 ∷ Token IDENT 1 ∷ Finish ∷ Token SEMICOLON 1 ∷ Finish ∷ []))) (enter ALIAS-DECLARATION-STATEMENT ∷ taken LET-KW 1 ∷ enter NAME ∷ taken IDENT 1 ∷ leave ∷ taken EQ 1 ∷ enter IDENTIFIER ∷ taken IDENT 1 ∷ leave ∷ taken SEMICOLON 1 ∷ leave ∷ [])
    -- `a - - b`: a prefix's operand is an operator's right side
    ∷ parse (expression 0 (IDENT ∷ MINUS ∷ MINUS ∷ IDENT ∷ []) 0 15) (ends (says 0 4 15 21) (words_of (Start TOMBSTONE 1 ∷ Start IDENTIFIER 3 ∷ Token IDENT 1 ∷ Finish ∷ Start BIN-EXPR 0 ∷ Token MINUS 1 ∷ Start TOMBSTONE 1 ∷ Start PREFIX-EXPR 0 ∷ Token MINUS 1 ∷ Start TOMBSTONE 1 ∷ Start IDENTIFIER 0 ∷ Token IDENT 1 ∷ Finish ∷ Finish ∷ Finish ∷ []))) (enter BIN-EXPR ∷ enter IDENTIFIER ∷ taken IDENT 1 ∷ leave ∷ taken MINUS 1 ∷ enter PREFIX-EXPR ∷ taken MINUS 1 ∷ enter IDENTIFIER ∷ taken IDENT 1 ∷ leave ∷ leave ∷ leave ∷ [])
    -- `a & b == c` in both modes
    ∷ parse (expression 0 (IDENT ∷ AMP ∷ IDENT ∷ EQ ∷ EQ ∷ IDENT ∷ []) 8 18) (ends (says 0 6 18 26) (words_of (Start TOMBSTONE 1 ∷ Start IDENTIFIER 3 ∷ Token IDENT 1 ∷ Finish ∷ Start BIN-EXPR 7 ∷ Token AMP 1 ∷ Start TOMBSTONE 1 ∷ Start IDENTIFIER 0 ∷ Token IDENT 1 ∷ Finish ∷ Finish ∷ Start BIN-EXPR 0 ∷ Token EQ2 2 ∷ Start TOMBSTONE 1 ∷ Start IDENTIFIER 0 ∷ Token IDENT 1 ∷ Finish ∷ Finish ∷ []))) (enter BIN-EXPR ∷ enter BIN-EXPR ∷ enter IDENTIFIER ∷ taken IDENT 1 ∷ leave ∷ taken AMP 1 ∷ enter IDENTIFIER ∷ taken IDENT 1 ∷ leave ∷ leave ∷ taken EQ2 2 ∷ enter IDENTIFIER ∷ taken IDENT 1 ∷ leave ∷ leave ∷ [])
    ∷ parse (expression 1 (IDENT ∷ AMP ∷ IDENT ∷ EQ ∷ EQ ∷ IDENT ∷ []) 8 18) (ends (says 0 6 18 26) (words_of (Start TOMBSTONE 1 ∷ Start IDENTIFIER 3 ∷ Token IDENT 1 ∷ Finish ∷ Start BIN-EXPR 0 ∷ Token AMP 1 ∷ Start TOMBSTONE 1 ∷ Start IDENTIFIER 3 ∷ Token IDENT 1 ∷ Finish ∷ Start BIN-EXPR 0 ∷ Token EQ2 2 ∷ Start TOMBSTONE 1 ∷ Start IDENTIFIER 0 ∷ Token IDENT 1 ∷ Finish ∷ Finish ∷ Finish ∷ []))) (enter BIN-EXPR ∷ enter IDENTIFIER ∷ taken IDENT 1 ∷ leave ∷ taken AMP 1 ∷ enter BIN-EXPR ∷ enter IDENTIFIER ∷ taken IDENT 1 ∷ leave ∷ taken EQ2 2 ∷ enter IDENTIFIER ∷ taken IDENT 1 ∷ leave ∷ leave ∷ leave ∷ [])
    -- `a == b < c` in mode 1: a comparison binds tighter
    ∷ parse (expression 1 (IDENT ∷ EQ ∷ EQ ∷ IDENT ∷ L-ANGLE ∷ IDENT ∷ []) 2 18) (ends (says 0 6 18 26) (words_of (Start TOMBSTONE 1 ∷ Start IDENTIFIER 3 ∷ Token IDENT 1 ∷ Finish ∷ Start BIN-EXPR 0 ∷ Token EQ2 2 ∷ Start TOMBSTONE 1 ∷ Start IDENTIFIER 3 ∷ Token IDENT 1 ∷ Finish ∷ Start BIN-EXPR 0 ∷ Token L-ANGLE 1 ∷ Start TOMBSTONE 1 ∷ Start IDENTIFIER 0 ∷ Token IDENT 1 ∷ Finish ∷ Finish ∷ Finish ∷ []))) (enter BIN-EXPR ∷ enter IDENTIFIER ∷ taken IDENT 1 ∷ leave ∷ taken EQ2 2 ∷ enter BIN-EXPR ∷ enter IDENTIFIER ∷ taken IDENT 1 ∷ leave ∷ taken L-ANGLE 1 ∷ enter IDENTIFIER ∷ taken IDENT 1 ∷ leave ∷ leave ∷ leave ∷ [])
    ∷ []

table : map got rows ≡ map wanted rows
unfolding bit one_of seen parts_of stands_at error_of decode events_of left_over looked halted event_at push_event consume do_bump named linked dropped step ◌>>=◌ run at_ts bump bump_any expect err_recover must goes_on iter left fail_if_at fail_unless_at name_r separator delimited_round delimited scalar_return opt_ret_type table_of current_op param_untyped list_open at_list_end list_goes param_ahead list_next list_empty list_end param_typed arg_gate_call_qubit found_param param_list_openqasm_round param_list_openqasm param_list_gate_params param_list_gate_qubits arg_list_gate_call_qubits param_list_def_params param_list_defcal_params param_list_defcal_qubits expression_list identifier hardware_qubit timing literal inv_modifier no_argument tuple_comma tuple_next tuple_kind tuple_end first_semicolon array_next array_end cast_expr gphase_call_expr gate_call_expr modifier modified_gate_call_expr_round modified_gate_call_expr measure_expression tuple_expr_round tuple_expr array_expr_round array_expr block_expr try_block_expr return_expr box_expr atom_of atom_expr type_name marker lacks_expr assigned no_assignment close_op cast_ahead stmt_lacks_expr no_semicolon stmt_end literal_designator array_base unindexed args_end var_name range_expr expr_or_range_expr let_stmt expr_block_contents_round expr_block_contents designator non_array_type_spec array_type_spec_round array_type_spec type_spec complex_type_spec qubit_type_spec set_expression index_operator index_expr indexed_identifier_round indexed_identifier indexed call_arg_list call_expr postfix_expr_round postfix_expr lhs expr_bp_round expr_bp no_item stmt break continue end filepath_r defcalgrammar include skip_to_semicolon version version_string io_type qubit_end declares switch_case_stmt_round switch_case_stmt if_stmt while_stmt for_rest for_stmt qubit_declaration_stmt reset_stmt gate_definition signature defcal classical_declaration_stmt io_declaration_stmt def_stmt cal barrier delay_stmt alias_stmt opt_item unmatched after_item item source_file_contents_round source_file_contents counted source_file one_item one_expression rows encode words_of next scan checked follow entered turn turns bytes resolved first_fault settled parsed
table = refl
