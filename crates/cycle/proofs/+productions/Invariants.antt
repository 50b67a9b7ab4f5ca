-- Written by tools/proofs from the code, the definitions and hints.py: docs/PRODUCTIONS.md says how to change it.
-- What falls from member to member, and the invariants of their loops.
use Rattle.runtime.proofs.Laws.{Ran}
use lib.ListN.{length}
use mathlib.Core.Path.{◌≡◌}
use Rattle.input.specs.Lent.{tokens}
use Rattle.runtime.specs.State.{view}
use Rattle.operators.specs.Operators.{table_of}
use Rattle.grammar.specs.Entry.{counted, later}
use Rattle.kinds.specs.Kinds.{COMMA, R-PAREN}
use Prim.Native.Nat.{◌+◌, ◌*◌, ◌≤◌}
use Rattle.kinds.specs.Sets.{EXPR-FIRST}
use Rattle.runtime.specs.Acts as acts
use Rattle.grammar.specs.Grammar as G
use Rattle.grammar.specs.Expressions as E
use Rattle.grammar.specs.Params as P
use Rattle.grammar.specs.Atom as A
use Rattle.grammar.specs.Items as I
use Rattle.cycle.proofs.+productions.Given as goal

abbrev pub decreases-args : goal.decreases-args
decreases-args l = l.level.left * 64 + 1

abbrev pub decreases-arr : goal.decreases-arr
decreases-arr l = l.level.left * 64 + 1

abbrev pub decreases-atom : goal.decreases-atom
decreases-atom l = l.level.left * 64 + 9

abbrev pub decreases-blk : goal.decreases-blk
decreases-blk l = l.level.left * 64 + 2

abbrev pub decreases-body : goal.decreases-body
decreases-body l = l.level.left * 64 + 3

abbrev pub decreases-bx : goal.decreases-bx
decreases-bx l = l.level.left * 64 + 1

abbrev pub decreases-call : goal.decreases-call
decreases-call l = l.level.left * 64 + 7

abbrev pub decreases-cast : goal.decreases-cast
decreases-cast l = l.level.left * 64 + 1

abbrev pub decreases-cplx : goal.decreases-cplx
decreases-cplx l = l.level.left * 64 + 0

abbrev pub decreases-ctl : goal.decreases-ctl
decreases-ctl l = l.level.left * 64 + 1

abbrev pub decreases-dcal : goal.decreases-dcal
decreases-dcal l = l.level.left * 64 + 7

abbrev pub decreases-decl : goal.decreases-decl
decreases-decl l = l.level.left * 64 + 1

abbrev pub decreases-def : goal.decreases-def
decreases-def l = l.level.left * 64 + 7

abbrev pub decreases-els : goal.decreases-els
decreases-els l = l.level.left * 64 + 0

abbrev pub decreases-expr_bp : goal.decreases-expr_bp
decreases-expr_bp l = l.level.left * 64 + 0

abbrev pub decreases-fors : goal.decreases-fors
decreases-fors l = l.level.left * 64 + 4

abbrev pub decreases-gate : goal.decreases-gate
decreases-gate l = l.level.left * 64 + 7

abbrev pub decreases-gdef : goal.decreases-gdef
decreases-gdef l = l.level.left * 64 + 7

abbrev pub decreases-gph : goal.decreases-gph
decreases-gph l = l.level.left * 64 + 1

abbrev pub decreases-ids : goal.decreases-ids
decreases-ids l = l.level.left * 64 + 3

abbrev pub decreases-idx : goal.decreases-idx
decreases-idx l = l.level.left * 64 + 4

abbrev pub decreases-ifs : goal.decreases-ifs
decreases-ifs l = l.level.left * 64 + 0

abbrev pub decreases-io : goal.decreases-io
decreases-io l = l.level.left * 64 + 1

abbrev pub decreases-lhs : goal.decreases-lhs
decreases-lhs l = l.level.left * 64 + 10

abbrev pub decreases-list : goal.decreases-list
decreases-list l = l.level.left * 64 + 6

abbrev pub decreases-meas : goal.decreases-meas
decreases-meas l = l.level.left * 64 + 5

abbrev pub decreases-mods : goal.decreases-mods
decreases-mods l = l.level.left * 64 + 8

abbrev pub decreases-more : goal.decreases-more
decreases-more l = l.level.left * 64 + 7

abbrev pub decreases-opt : goal.decreases-opt
decreases-opt l = l.level.left * 64 + 8

abbrev pub decreases-par : goal.decreases-par
decreases-par l = l.level.left * 64 + 5

abbrev pub decreases-post : goal.decreases-post
decreases-post l = l.level.left * 64 + 8

abbrev pub decreases-qarg : goal.decreases-qarg
decreases-qarg l = l.level.left * 64 + 4

abbrev pub decreases-range : goal.decreases-range
decreases-range l = l.level.left * 64 + 1

abbrev pub decreases-rest : goal.decreases-rest
decreases-rest l = l.level.left * 64 + 3

abbrev pub decreases-ret : goal.decreases-ret
decreases-ret l = l.level.left * 64 + 1

abbrev pub decreases-scal : goal.decreases-scal
decreases-scal l = l.level.left * 64 + 2

abbrev pub decreases-set : goal.decreases-set
decreases-set l = l.level.left * 64 + 1

abbrev pub decreases-sig : goal.decreases-sig
decreases-sig l = l.level.left * 64 + 4

abbrev pub decreases-spec : goal.decreases-spec
decreases-spec l = l.level.left * 64 + 0

abbrev pub decreases-stmt : goal.decreases-stmt
decreases-stmt l = l.level.left * 64 + 0

abbrev pub decreases-sts : goal.decreases-sts
decreases-sts l = l.level.left * 64 + 1

abbrev pub decreases-subs : goal.decreases-subs
decreases-subs l = l.level.left * 64 + 2

abbrev pub decreases-sw : goal.decreases-sw
decreases-sw l = l.level.left * 64 + 4

abbrev pub decreases-tup : goal.decreases-tup
decreases-tup l = l.level.left * 64 + 1

abbrev pub decreases-width : goal.decreases-width
decreases-width l = l.level.left * 64 + 1

abbrev pub invariant-args-loop-level : goal.invariant-args-loop-level
invariant-args-loop-level l =
    (length l.room ≡ length l.initial.room) × Ran (tokens l.input) (G.delimited_round R-PAREN COMMA EXPR-FIRST (E.expr (counted
    (table_of l.level.mode) l.level.left))) tt (view l.initial.q l.initial.room) tt (view l.q l.room)

abbrev pub decreases-args-loop-level : goal.decreases-args-loop-level
decreases-args-loop-level l = acts.left l.q

abbrev pub invariant-arr-loop-level : goal.invariant-arr-loop-level
invariant-arr-loop-level l =
    (length l.room ≡ length l.initial.room) × Ran (tokens l.input) (A.array_expr_round (counted
    (table_of l.level.mode) l.level.left)) (l.initial.first, l.initial.semi) (view l.initial.q l.initial.room)
    (l.first, l.semi) (view l.q l.room)

abbrev pub decreases-arr-loop-level : goal.decreases-arr-loop-level
decreases-arr-loop-level l = acts.left l.q

abbrev pub invariant-expr_bp-loop-d : goal.invariant-expr_bp-loop-d
invariant-expr_bp-loop-d l =
    (length l.room ≡ length l.initial.room) × Ran (tokens l.input) (E.expr_bp_round (counted (table_of l.d.mode) l.d.left) (later
    (counted (table_of l.d.mode) l.d.left)) (table_of l.d.mode) l.prefer l.bp) l.initial.cm
    (view l.initial.q l.initial.room) l.cm (view l.q l.room)

abbrev pub decreases-expr_bp-loop-d : goal.decreases-expr_bp-loop-d
decreases-expr_bp-loop-d l = acts.left l.q

abbrev pub invariant-ids-loop-level : goal.invariant-ids-loop-level
invariant-ids-loop-level l =
    (length l.room ≡ length l.initial.room) × Ran (tokens l.input) (E.indexed_identifier_round (counted
    (table_of l.level.mode) l.level.left)) tt (view l.initial.q l.initial.room) tt (view l.q l.room)

abbrev pub decreases-ids-loop-level : goal.decreases-ids-loop-level
decreases-ids-loop-level l = acts.left l.q

abbrev pub invariant-list-loop-level : goal.invariant-list-loop-level
invariant-list-loop-level l =
    (length l.room ≡ length l.initial.room) × Ran (tokens l.input) (P.param_list_openqasm_round (counted
    (table_of l.level.mode) l.level.left) l.shape) l.initial.n (view l.initial.q l.initial.room) l.n (view l.q l.room) ×
    (l.n + acts.left l.q ≤ 81938195)

abbrev pub decreases-list-loop-level : goal.decreases-list-loop-level
decreases-list-loop-level l = acts.left l.q

abbrev pub invariant-mods-loop-room : goal.invariant-mods-loop-room
invariant-mods-loop-room l =
    (length l.room ≡ length l.initial.room) × Ran (tokens l.input) (A.modified_gate_call_expr_round (counted
    (table_of l.level.mode) l.level.left)) tt (view l.initial.q l.initial.room) tt (view l.q l.room)

abbrev pub decreases-mods-loop-room : goal.decreases-mods-loop-room
decreases-mods-loop-room l = acts.left l.q

abbrev pub invariant-post-loop-calls : goal.invariant-post-loop-calls
invariant-post-loop-calls l =
    (length l.room ≡ length l.initial.room) × Ran (tokens l.input) (E.postfix_expr_round (counted
    (table_of l.level.mode) l.level.left) (later (counted (table_of l.level.mode) l.level.left)))
    (l.initial.cm, l.initial.blocky, l.initial.calls) (view l.initial.q l.initial.room) (l.cm, l.blocky, l.calls)
    (view l.q l.room)

abbrev pub decreases-post-loop-calls : goal.decreases-post-loop-calls
decreases-post-loop-calls l = acts.left l.q

abbrev pub invariant-spec-loop-d : goal.invariant-spec-loop-d
invariant-spec-loop-d l =
    (length l.room ≡ length l.initial.room) × Ran (tokens l.input) (E.array_type_spec_round (counted
    (table_of l.d.mode) l.d.left)) tt (view l.initial.q l.initial.room) tt (view l.q l.room)

abbrev pub decreases-spec-loop-d : goal.decreases-spec-loop-d
decreases-spec-loop-d l = acts.left l.q

abbrev pub invariant-sts-loop-level : goal.invariant-sts-loop-level
invariant-sts-loop-level l =
    (length l.room ≡ length l.initial.room) × Ran (tokens l.input) (E.expr_block_contents_round (counted
    (table_of l.level.mode) l.level.left)) tt (view l.initial.q l.initial.room) tt (view l.q l.room)

abbrev pub decreases-sts-loop-level : goal.decreases-sts-loop-level
decreases-sts-loop-level l = acts.left l.q

abbrev pub invariant-sw-loop-room : goal.invariant-sw-loop-room
invariant-sw-loop-room l =
    (length l.room ≡ length l.initial.room) × Ran (tokens l.input) (I.switch_case_stmt_round (counted
    (table_of l.level.mode) l.level.left)) tt (view l.initial.q l.initial.room) tt (view l.q l.room)

abbrev pub decreases-sw-loop-room : goal.decreases-sw-loop-room
decreases-sw-loop-room l = acts.left l.q

abbrev pub invariant-tup-loop-saw : goal.invariant-tup-loop-saw
invariant-tup-loop-saw l =
    (length l.room ≡ length l.initial.room) × Ran (tokens l.input) (A.tuple_expr_round (counted
    (table_of l.level.mode) l.level.left)) (l.initial.saw, l.initial.comma) (view l.initial.q l.initial.room) (l.saw, l.comma)
    (view l.q l.room)

abbrev pub decreases-tup-loop-saw : goal.decreases-tup-loop-saw
decreases-tup-loop-saw l = acts.left l.q
