-- Written by tools/proofs from the code, the definitions and hints.py: docs/PRODUCTIONS.md says how to change it.
-- The members of the cycle meet their contracts. Assumes nothing.
use Rattle.runtime.proofs.Laws.{then, step, peek, see, go, ask, any, ends, ran-none, ran-more, ran-done, spent-does, spent-steps, falls, falls-peeks, left-sees, left-asked, left-goes, left-told, spends-nth, spends-bump, most-left}
use Rattle.grammar.proofs.Laws.{assoc, cond-bind, done-bind, past, passed, list-go}
use borrow.Author.Tests.{ne_eqb, lt-ltb, le-ltb, eq-eqb}
use borrow.Author.Rules.{rules}
use native.Mathlib.Nat.{lt_of_le_of_lt}
use native.Mathlib.Omega.{arith}
use mathlib.Core.Path.{sym, ◌∙◌, refl}
use Rattle.runtime.specs.State.{view}
use Rattle.grammar.specs.Entry.{counted}
use Rattle.kinds.specs.Membership.{one_of}
use Rattle.kinds.specs.Kinds.{L-PAREN, L-CURLY, L-BRACK, O-P-E-N-Q-A-S-M-KW, INCLUDE-KW, DEF-KW, DEFCALGRAMMAR-KW, CAL-KW, DEFCAL-KW, GATE-KW, DELAY-KW, RESET-KW, MEASURE-KW, LET-KW, BOX-KW, CONST-KW, BARRIER-KW, GPHASE-KW, IF-KW, FOR-KW, WHILE-KW, CONTINUE-KW, RETURN-KW, BREAK-KW, END-KW, SWITCH-KW, CASE-KW, INPUT-KW, OUTPUT-KW, QUBIT-KW, CTRL-KW, NEGCTRL-KW, INV-KW, POW-KW, IDENT, HARDWAREIDENT}
use Rattle.cycle.proofs.Depth.{expr_bp-deeper, stmt-deeper, type_spec-deeper, complex_type_spec-deeper, if_stmt-deeper, expression_list-deeper, falls-after, falls-after-peeks}
use Rattle.grammar.proofs.Spends.{expr_bp-spends, stmt-spends, index-spends, ahead-spends, op-spends, op-left, op-next, left-list}
use Rattle.operators.proofs.Tables.{mode-fair}
use Rattle.grammar.specs.Grammar as G
use Rattle.grammar.specs.Expressions as E
use Rattle.grammar.specs.Params as P
use Rattle.grammar.specs.Atom as A
use Rattle.grammar.specs.Items as I
use Rattle.cycle.proofs.+productions.Goals as goal

-- `args`

pub args-loop-level-init : goal.args-loop-level-init
args-loop-level-init t c = (refl, ran-none _ _ _ _)

pub args-returns-in_default : goal.args-returns-in_default
unfolding E.call_arg_list G.delimited G.delimited_round
args-returns-in_default t c =
    simp (assoc, cond-bind, done-bind)
    (then _ _ _ _ c.must-p.ensures
    (step _ _ _ _ c.start-p.ensures
    (step _ _ _ _ c.start-p-2.ensures
    (then _ _ _ _ c.bump-q.ensures
    (then _ _ _ _ (ran-done _ _ _ _ _ _ _ _ c.loop-level.invariant.1
    (go _ _ _ _ c.goes_on.ensures
    (rw c.loop-level-test.true
    (then _ _ _ _ c.expr_bp-p.ensures
    (rw c.in_default.is
    (ends _ _ _))))))
    c.args_end.ensures)))))

pub args-loop-level-smaller : goal.args-loop-level-smaller
args-loop-level-smaller t c =
    lt_of_le_of_lt (spent-does _ _ _ c.separator-p.ensures)
    (falls _ _ _ (expr_bp-spends _ _ _ _ _) (left-goes _ _ _ (sym c.goes_on.ensures ∙ c.loop-level-test.true)) c.expr_bp-p.ensures)

pub args-loop-level-preserved : goal.args-loop-level-preserved
unfolding E.call_arg_list G.delimited G.delimited_round
args-loop-level-preserved t c = (
  c.separator-p.auto.room ∙ c.expr_bp-p.auto.room ∙ c.loop-level.invariant.0,
  ran-more _ _ _ _ _ _ _ _ c.loop-level.invariant.1
      (go _ _ _ _ c.goes_on.ensures
      (rw c.loop-level-test.true
      (then _ _ _ _ c.expr_bp-p.ensures
      (rw c.in-Some.is
      (then _ _ _ _ c.separator-p.ensures
      (rw c.if-more.true
      (ends _ _ _)))))))
      (lt_of_le_of_lt (spent-does _ _ _ c.separator-p.ensures)
      (falls _ _ _ (expr_bp-spends _ _ _ _ _) (left-goes _ _ _ (sym c.goes_on.ensures ∙ c.loop-level-test.true))
      c.expr_bp-p.ensures)),
)

pub args-returns-in-loop-level : goal.args-returns-in-loop-level
unfolding E.call_arg_list G.delimited G.delimited_round
args-returns-in-loop-level t c =
    simp (assoc, cond-bind, done-bind)
    (then _ _ _ _ c.must-p.ensures
    (step _ _ _ _ c.start-p.ensures
    (step _ _ _ _ c.start-p-2.ensures
    (then _ _ _ _ c.bump-q.ensures
    (then _ _ _ _ (ran-done _ _ _ _ _ _ _ _ c.loop-level.invariant.1
    (go _ _ _ _ c.goes_on.ensures
    (rw c.loop-level-test.true
    (then _ _ _ _ c.expr_bp-p.ensures
    (rw c.in-Some.is
    (then _ _ _ _ c.separator-p.ensures
    (rw c.if-more.false
    (ends _ _ _))))))))
    c.args_end-in-loop-level.ensures)))))

pub args-returns : goal.args-returns
unfolding E.call_arg_list G.delimited G.delimited_round
args-returns t c =
    simp (assoc, cond-bind, done-bind)
    (then _ _ _ _ c.must-p.ensures
    (step _ _ _ _ c.start-p.ensures
    (step _ _ _ _ c.start-p-2.ensures
    (then _ _ _ _ c.bump-q.ensures
    (then _ _ _ _ (ran-done _ _ _ _ _ _ _ _ c.loop-level.invariant.1
    (go _ _ _ _ c.goes_on.ensures
    (rw c.loop-level-test.false
    (ends _ _ _))))
    c.args_end-2.ensures)))))

-- `arr`

pub arr-loop-level-init : goal.arr-loop-level-init
arr-loop-level-init t c = (refl, ran-none _ _ _ _)

pub arr-returns-in_default : goal.arr-returns-in_default
unfolding A.array_expr A.array_expr_round
arr-returns-in_default t c =
    then _ _ _ _ c.must-p.ensures
    (step _ _ _ _ c.start-p.ensures
    (then _ _ _ _ c.bump-q.ensures
    (then _ _ _ _ (ran-done _ _ _ _ (c.loop-level.first, c.loop-level.semi) _ _ _ c.loop-level.invariant.1
    (go _ _ _ _ c.goes_on.ensures
    (rw c.loop-level-test.true
    (then _ _ _ _ c.expr_bp-p.ensures
    (rw c.in_default.is
    (ends _ _ _))))))
    c.array_end.ensures)))

pub arr-loop-level-smaller-in-Semi : goal.arr-loop-level-smaller-in-Semi
arr-loop-level-smaller-in-Semi t c =
    lt_of_le_of_lt (spent-does _ _ _ c.array_next-p.ensures)
    (falls _ _ _ (expr_bp-spends _ _ _ _ _) (left-goes _ _ _ (sym c.goes_on.ensures ∙ c.loop-level-test.true)) c.expr_bp-p.ensures)

pub arr-loop-level-preserved-in-Semi : goal.arr-loop-level-preserved-in-Semi
unfolding A.array_expr A.array_expr_round
arr-loop-level-preserved-in-Semi t c = (
  c.array_next-p.auto.room ∙ c.expr_bp-p.auto.room ∙ c.loop-level.invariant.0,
  ran-more _ _ _ _ _ _ _ _ c.loop-level.invariant.1
      (go _ _ _ _ c.goes_on.ensures
      (rw c.loop-level-test.true
      (then _ _ _ _ c.expr_bp-p.ensures
      (rw c.in-Some.is
      (then _ _ _ _ c.array_next-p.ensures
      (rw c.in-Semi.is
      (ends _ _ _)))))))
      (lt_of_le_of_lt (spent-does _ _ _ c.array_next-p.ensures)
      (falls _ _ _ (expr_bp-spends _ _ _ _ _) (left-goes _ _ _ (sym c.goes_on.ensures ∙ c.loop-level-test.true))
      c.expr_bp-p.ensures)),
)

pub arr-loop-level-smaller : goal.arr-loop-level-smaller
arr-loop-level-smaller t c =
    lt_of_le_of_lt (spent-does _ _ _ c.array_next-p.ensures)
    (falls _ _ _ (expr_bp-spends _ _ _ _ _) (left-goes _ _ _ (sym c.goes_on.ensures ∙ c.loop-level-test.true)) c.expr_bp-p.ensures)

pub arr-loop-level-preserved : goal.arr-loop-level-preserved
unfolding A.array_expr A.array_expr_round
arr-loop-level-preserved t c = (
  c.array_next-p.auto.room ∙ c.expr_bp-p.auto.room ∙ c.loop-level.invariant.0,
  ran-more _ _ _ _ _ _ _ _ c.loop-level.invariant.1
      (go _ _ _ _ c.goes_on.ensures
      (rw c.loop-level-test.true
      (then _ _ _ _ c.expr_bp-p.ensures
      (rw c.in-Some.is
      (then _ _ _ _ c.array_next-p.ensures
      (rw c.in-Comma.is
      (ends _ _ _)))))))
      (lt_of_le_of_lt (spent-does _ _ _ c.array_next-p.ensures)
      (falls _ _ _ (expr_bp-spends _ _ _ _ _) (left-goes _ _ _ (sym c.goes_on.ensures ∙ c.loop-level-test.true))
      c.expr_bp-p.ensures)),
)

pub arr-returns-in-Stop : goal.arr-returns-in-Stop
unfolding A.array_expr A.array_expr_round
arr-returns-in-Stop t c =
    then _ _ _ _ c.must-p.ensures
    (step _ _ _ _ c.start-p.ensures
    (then _ _ _ _ c.bump-q.ensures
    (then _ _ _ _ (ran-done _ _ _ _ (c.loop-level.first, c.loop-level.semi) _ _ _ c.loop-level.invariant.1
    (go _ _ _ _ c.goes_on.ensures
    (rw c.loop-level-test.true
    (then _ _ _ _ c.expr_bp-p.ensures
    (rw c.in-Some.is
    (then _ _ _ _ c.array_next-p.ensures
    (rw c.in-Stop.is
    (ends _ _ _))))))))
    c.array_end-in-Stop.ensures)))

pub arr-returns : goal.arr-returns
unfolding A.array_expr A.array_expr_round
arr-returns t c =
    then _ _ _ _ c.must-p.ensures
    (step _ _ _ _ c.start-p.ensures
    (then _ _ _ _ c.bump-q.ensures
    (then _ _ _ _ (ran-done _ _ _ _ (c.loop-level.first, c.loop-level.semi) _ _ _ c.loop-level.invariant.1
    (go _ _ _ _ c.goes_on.ensures
    (rw c.loop-level-test.false
    (ends _ _ _))))
    c.array_end-2.ensures)))

-- `atom`

pub atom-returns-in-Some : goal.atom-returns-in-Some
unfolding A.atom_expr A.atom_of one_of
atom-returns-in-Some t c =
    then _ _ _ _ c.literal-p.ensures
    (rw c.in-Some.is
    (ends _ _ _))

pub atom-returns-then-is_classical_type : goal.atom-returns-then-is_classical_type
unfolding A.atom_expr A.atom_of one_of
atom-returns-then-is_classical_type t c =
    then _ _ _ _ c.literal-p.ensures
    (rw c.in_default.is
    (peek _ _ _ _ _ c.nth-p.ensures
    (peek _ _ _ _ _ c.current-p.ensures
    (rw (sym c.is_classical_type.ensures ∙ c.if-is_classical_type.true)
    (then _ _ _ _ c.cast-q.ensures
    (ends _ _ _))))))

pub atom-returns-in-116 : goal.atom-returns-in-116
unfolding A.atom_expr A.atom_of one_of
atom-returns-in-116 t c =
    then _ _ _ _ c.literal-p.ensures
    (rw c.in_default.is
    (peek _ _ _ _ _ c.nth-p.ensures
    (peek _ _ _ _ _ c.current-p.ensures
    (rw (sym c.is_classical_type.ensures ∙ c.if-is_classical_type.false)
    (peek _ _ _ _ _ c.current-p-2.ensures
    (rw c.in-116.is
    (then _ _ _ _ c.hardware_qubit-p.ensures
    (rw c.node.ensures
    (ends _ _ _)))))))))

pub atom-returns-in-5 : goal.atom-returns-in-5
unfolding A.atom_expr A.atom_of one_of
atom-returns-in-5 t c =
    then _ _ _ _ c.literal-p.ensures
    (rw c.in_default.is
    (peek _ _ _ _ _ c.nth-p.ensures
    (peek _ _ _ _ _ c.current-p.ensures
    (rw (sym c.is_classical_type.ensures ∙ c.if-is_classical_type.false)
    (peek _ _ _ _ _ c.current-p-2.ensures
    (rw c.in-5.is
    (then _ _ _ _ c.tup-p.ensures
    (rw c.node-in-5.ensures
    (ends _ _ _)))))))))

pub atom-returns-in-9 : goal.atom-returns-in-9
unfolding A.atom_expr A.atom_of one_of
atom-returns-in-9 t c =
    then _ _ _ _ c.literal-p.ensures
    (rw c.in_default.is
    (peek _ _ _ _ _ c.nth-p.ensures
    (peek _ _ _ _ _ c.current-p.ensures
    (rw (sym c.is_classical_type.ensures ∙ c.if-is_classical_type.false)
    (peek _ _ _ _ _ c.current-p-2.ensures
    (rw c.in-9.is
    (then _ _ _ _ c.arr-p.ensures
    (rw c.node-in-9.ensures
    (ends _ _ _)))))))))

pub atom-returns-in-67 : goal.atom-returns-in-67
unfolding A.atom_expr A.atom_of one_of
atom-returns-in-67 t c =
    then _ _ _ _ c.literal-p.ensures
    (rw c.in_default.is
    (peek _ _ _ _ _ c.nth-p.ensures
    (peek _ _ _ _ _ c.current-p.ensures
    (rw (sym c.is_classical_type.ensures ∙ c.if-is_classical_type.false)
    (peek _ _ _ _ _ c.current-p-2.ensures
    (rw c.in-67.is
    (then _ _ _ _ c.bx-p.ensures
    (rw c.node-in-67.ensures
    (ends _ _ _)))))))))

pub atom-returns-in-65 : goal.atom-returns-in-65
unfolding A.atom_expr A.atom_of one_of
atom-returns-in-65 t c =
    then _ _ _ _ c.literal-p.ensures
    (rw c.in_default.is
    (peek _ _ _ _ _ c.nth-p.ensures
    (peek _ _ _ _ _ c.current-p.ensures
    (rw (sym c.is_classical_type.ensures ∙ c.if-is_classical_type.false)
    (peek _ _ _ _ _ c.current-p-2.ensures
    (rw c.in-65.is
    (then _ _ _ _ c.meas-p.ensures
    (rw c.node-in-65.ensures
    (ends _ _ _)))))))))

pub atom-returns-in-78 : goal.atom-returns-in-78
unfolding A.atom_expr A.atom_of one_of
atom-returns-in-78 t c =
    then _ _ _ _ c.literal-p.ensures
    (rw c.in_default.is
    (peek _ _ _ _ _ c.nth-p.ensures
    (peek _ _ _ _ _ c.current-p.ensures
    (rw (sym c.is_classical_type.ensures ∙ c.if-is_classical_type.false)
    (peek _ _ _ _ _ c.current-p-2.ensures
    (rw c.in-78.is
    (then _ _ _ _ c.ret-p.ensures
    (rw c.node-in-78.ensures
    (ends _ _ _)))))))))

pub atom-returns-in-7 : goal.atom-returns-in-7
unfolding A.atom_expr A.atom_of one_of
atom-returns-in-7 t c =
    then _ _ _ _ c.literal-p.ensures
    (rw c.in_default.is
    (peek _ _ _ _ _ c.nth-p.ensures
    (peek _ _ _ _ _ c.current-p.ensures
    (rw (sym c.is_classical_type.ensures ∙ c.if-is_classical_type.false)
    (peek _ _ _ _ _ c.current-p-2.ensures
    (rw c.in-7.is
    (then _ _ _ _ c.blk-p.ensures
    (rw c.node-in-7.ensures
    (ends _ _ _)))))))))

pub atom-returns-in-95 : goal.atom-returns-in-95
unfolding A.atom_expr A.atom_of one_of
atom-returns-in-95 t c =
    then _ _ _ _ c.literal-p.ensures
    (rw c.in_default.is
    (peek _ _ _ _ _ c.nth-p.ensures
    (peek _ _ _ _ _ c.current-p.ensures
    (rw (sym c.is_classical_type.ensures ∙ c.if-is_classical_type.false)
    (peek _ _ _ _ _ c.current-p-2.ensures
    (rw c.in-95.is
    (then _ _ _ _ c.mods-p.ensures
    (rw c.node-in-95.ensures
    (ends _ _ _)))))))))

pub atom-returns-in-96 : goal.atom-returns-in-96
unfolding A.atom_expr A.atom_of one_of
atom-returns-in-96 t c =
    then _ _ _ _ c.literal-p.ensures
    (rw c.in_default.is
    (peek _ _ _ _ _ c.nth-p.ensures
    (peek _ _ _ _ _ c.current-p.ensures
    (rw (sym c.is_classical_type.ensures ∙ c.if-is_classical_type.false)
    (peek _ _ _ _ _ c.current-p-2.ensures
    (rw c.in-96.is
    (then _ _ _ _ c.mods-p-in-96.ensures
    (rw c.node-in-96.ensures
    (ends _ _ _)))))))))

pub atom-returns-in-93 : goal.atom-returns-in-93
unfolding A.atom_expr A.atom_of one_of
atom-returns-in-93 t c =
    then _ _ _ _ c.literal-p.ensures
    (rw c.in_default.is
    (peek _ _ _ _ _ c.nth-p.ensures
    (peek _ _ _ _ _ c.current-p.ensures
    (rw (sym c.is_classical_type.ensures ∙ c.if-is_classical_type.false)
    (peek _ _ _ _ _ c.current-p-2.ensures
    (rw c.in-93.is
    (then _ _ _ _ c.mods-p-in-93.ensures
    (rw c.node-in-93.ensures
    (ends _ _ _)))))))))

pub atom-returns-in-94 : goal.atom-returns-in-94
unfolding A.atom_expr A.atom_of one_of
atom-returns-in-94 t c =
    then _ _ _ _ c.literal-p.ensures
    (rw c.in_default.is
    (peek _ _ _ _ _ c.nth-p.ensures
    (peek _ _ _ _ _ c.current-p.ensures
    (rw (sym c.is_classical_type.ensures ∙ c.if-is_classical_type.false)
    (peek _ _ _ _ _ c.current-p-2.ensures
    (rw c.in-94.is
    (then _ _ _ _ c.mods-p-in-94.ensures
    (rw c.node-in-94.ensures
    (ends _ _ _)))))))))

pub atom-returns-in-71 : goal.atom-returns-in-71
unfolding A.atom_expr A.atom_of one_of
atom-returns-in-71 t c =
    then _ _ _ _ c.literal-p.ensures
    (rw c.in_default.is
    (peek _ _ _ _ _ c.nth-p.ensures
    (peek _ _ _ _ _ c.current-p.ensures
    (rw (sym c.is_classical_type.ensures ∙ c.if-is_classical_type.false)
    (peek _ _ _ _ _ c.current-p-2.ensures
    (rw c.in-71.is
    (then _ _ _ _ c.gph-p.ensures
    (rw c.node-in-71.ensures
    (ends _ _ _)))))))))

pub atom-returns-then-has : goal.atom-returns-then-has
unfolding A.atom_expr A.atom_of one_of
atom-returns-then-has t c =
    then _ _ _ _ c.literal-p.ensures
    (rw c.in_default.is
    (peek _ _ _ _ _ c.nth-p.ensures
    (peek _ _ _ _ _ c.current-p.ensures
    (rw (sym c.is_classical_type.ensures ∙ c.if-is_classical_type.false)
    (peek _ _ _ _ _ c.current-p-2.ensures
    (rw c.in-115.is
    (rw (sym c.has.ensures ∙ c.if-has.true)
    (then _ _ _ _ c.gate-p.ensures
    (rw c.node-then-has.ensures
    (ends _ _ _))))))))))

pub atom-returns-in-115 : goal.atom-returns-in-115
unfolding A.atom_expr A.atom_of one_of
atom-returns-in-115 t c =
    then _ _ _ _ c.literal-p.ensures
    (rw c.in_default.is
    (peek _ _ _ _ _ c.nth-p.ensures
    (peek _ _ _ _ _ c.current-p.ensures
    (rw (sym c.is_classical_type.ensures ∙ c.if-is_classical_type.false)
    (peek _ _ _ _ _ c.current-p-2.ensures
    (rw c.in-115.is
    (rw (sym c.has.ensures ∙ c.if-has.false)
    (then _ _ _ _ c.identifier-p.ensures
    (rw c.node-in-115.ensures
    (ends _ _ _))))))))))

pub atom-returns-in_default-first : goal.atom-returns-in_default-first
unfolding A.atom_expr A.atom_of one_of
atom-returns-in_default-first t c =
    then _ _ _ _ c.literal-p.ensures
    (rw c.in_default.is
    (peek _ _ _ _ _ c.nth-p.ensures
    (peek _ _ _ _ _ c.current-p.ensures
    (rw (sym c.is_classical_type.ensures ∙ c.if-is_classical_type.false)
    (peek _ _ _ _ _ c.current-p-2.ensures
    (rw (ne_eqb c.current-p-2.result.1 HARDWAREIDENT (search rules))
    (rw (ne_eqb c.current-p-2.result.1 L-PAREN (search rules))
    (rw (ne_eqb c.current-p-2.result.1 L-BRACK (search rules))
    (rw (ne_eqb c.current-p-2.result.1 BOX-KW (search rules))
    (rw (ne_eqb c.current-p-2.result.1 MEASURE-KW (search rules))
    (rw (ne_eqb c.current-p-2.result.1 RETURN-KW (search rules))
    (rw (ne_eqb c.current-p-2.result.1 L-CURLY (search rules))
    (rw (ne_eqb c.current-p-2.result.1 INV-KW (search rules))
    (rw (ne_eqb c.current-p-2.result.1 POW-KW (search rules))
    (rw (ne_eqb c.current-p-2.result.1 CTRL-KW (search rules))
    (rw (ne_eqb c.current-p-2.result.1 NEGCTRL-KW (search rules))
    (rw (ne_eqb c.current-p-2.result.1 GPHASE-KW (search rules))
    (rw (ne_eqb c.current-p-2.result.1 IDENT (search rules))
    (then _ _ _ _ c.err_and_bump-q.ensures
    (ends _ _ _))))))))))))))))))))

-- `blk`

pub blk-returns : goal.blk-returns
unfolding A.block_expr
blk-returns t c =
    then _ _ _ _ c.must-p.ensures
    (step _ _ _ _ c.start-p.ensures
    (then _ _ _ _ c.bump-p.ensures
    (then _ _ _ _ c.sts-p.ensures
    (past _ _ _ _ c.expected-p.ensures
    (any _ _ _ c.complete.ensures)))))

-- `body`

pub body-returns-then-at : goal.body-returns-then-at
unfolding A.try_block_expr
body-returns-then-at t c =
    see _ _ _ _ c.at.ensures
    (rw c.if-at.true
    (then _ _ _ _ c.blk-p.ensures
    (ends _ _ _)))

pub body-returns : goal.body-returns
unfolding A.try_block_expr
body-returns t c =
    see _ _ _ _ c.at.ensures
    (rw c.if-at.false
    (any _ _ _ c.error.ensures))

-- `bx`

pub bx-returns-then-begins : goal.bx-returns-then-begins
unfolding A.box_expr
bx-returns-then-begins t c =
    simp (assoc, cond-bind, done-bind)
    (then _ _ _ _ c.must-p.ensures
    (step _ _ _ _ c.start-p.ensures
    (then _ _ _ _ c.bump-p.ensures
    (peek _ _ _ _ _ c.at_ts-p.ensures
    (rw c.if-begins.true
    (then _ _ _ _ c.expr_bp-p.ensures
    (any _ _ _ c.complete.ensures)))))))

pub bx-returns : goal.bx-returns
unfolding A.box_expr
bx-returns t c =
    simp (assoc, cond-bind, done-bind)
    (then _ _ _ _ c.must-p.ensures
    (step _ _ _ _ c.start-p.ensures
    (then _ _ _ _ c.bump-p.ensures
    (peek _ _ _ _ _ c.at_ts-p.ensures
    (rw c.if-begins.false
    (any _ _ _ c.complete-2.ensures))))))

-- `call`

pub call-returns-then-has : goal.call-returns-then-has
unfolding E.call_expr P.arg_list_gate_call_qubits
call-returns-then-has t c =
    then _ _ _ _ c.must-p.ensures
    (step _ _ _ _ c.precede-p.ensures
    (then _ _ _ _ c.args-p.ensures
    (peek _ _ _ _ _ c.current-p.ensures
    (rw (sym c.has.ensures ∙ c.if-has.true)
    (then _ _ _ _ c.list-p.ensures
    (any _ _ _ c.complete.ensures))))))

pub call-returns : goal.call-returns
unfolding E.call_expr P.arg_list_gate_call_qubits
call-returns t c =
    then _ _ _ _ c.must-p.ensures
    (step _ _ _ _ c.precede-p.ensures
    (then _ _ _ _ c.args-p.ensures
    (peek _ _ _ _ _ c.current-p.ensures
    (rw (sym c.has.ensures ∙ c.if-has.false)
    (any _ _ _ c.complete-2.ensures)))))

-- `cast`

pub cast-returns : goal.cast-returns
unfolding A.cast_expr
cast-returns t c =
    step _ _ _ _ c.start-p.ensures
    (then _ _ _ _ c.spec-p.ensures
    (past _ _ _ _ c.expected-p.ensures
    (then _ _ _ _ c.expr_bp-p.ensures
    (past _ _ _ _ c.expected-p-2.ensures
    (any _ _ _ c.complete.ensures)))))

-- `cplx`

pub cplx-returns-then-level-eq0 : goal.cplx-returns-then-level-eq0
unfolding counted
cplx-returns-then-level-eq0 t c =
    rw c.if-level-eq0.true
    (any _ _ _ c.stop.ensures)

pub cplx-returns-then-at : goal.cplx-returns-then-at
unfolding E.complex_type_spec
cplx-returns-then-at t c =
    complex_type_spec-deeper _ _ _ _ c.if-level-eq0.false
    (simp (assoc, cond-bind, done-bind)
    (then _ _ _ _ c.must-p.ensures
    (step _ _ _ _ c.start-p.ensures
    (then _ _ _ _ c.bump_any-p.ensures
    (see _ _ _ _ c.at.ensures
    (rw c.if-at.true
    (then _ _ _ _ c.bump-p.ensures
    (then _ _ _ _ c.fail_unless_at-p.ensures
    (then _ _ _ _ c.scal-p.ensures
    c.close.ensures)))))))))

pub cplx-returns : goal.cplx-returns
unfolding E.complex_type_spec
cplx-returns t c =
    complex_type_spec-deeper _ _ _ _ c.if-level-eq0.false
    (simp (assoc, cond-bind, done-bind)
    (then _ _ _ _ c.must-p.ensures
    (step _ _ _ _ c.start-p.ensures
    (then _ _ _ _ c.bump_any-p.ensures
    (see _ _ _ _ c.at.ensures
    (rw c.if-at.false
    (any _ _ _ c.completed.ensures)))))))

-- `ctl`

pub ctl-returns-then-at : goal.ctl-returns-then-at
unfolding A.modifier
ctl-returns-then-at t c =
    simp (assoc, cond-bind, done-bind)
    (step _ _ _ _ c.start-p.ensures
    (then _ _ _ _ c.bump-p.ensures
    (see _ _ _ _ c.at.ensures
    (rw c.if-at.true
    (step _ _ _ _ c.start-p-then-at.ensures
    (past _ _ _ _ c.expected-p.ensures
    (then _ _ _ _ c.expr_bp-p.ensures
    (past _ _ _ _ c.expected-p-then-at.ensures
    (passed _ _ _ _ c.completed-p.ensures
    c.close.ensures)))))))))

pub ctl-returns : goal.ctl-returns
unfolding A.modifier
ctl-returns t c =
    simp (assoc, cond-bind, done-bind)
    (step _ _ _ _ c.start-p.ensures
    (then _ _ _ _ c.bump-p.ensures
    (see _ _ _ _ c.at.ensures
    (rw c.if-at.false
    (step _ _ _ _ c.no_argument-p.ensures
    c.close-2.ensures)))))

-- `dcal`

pub dcal-returns-then-at : goal.dcal-returns-then-at
unfolding I.defcal P.param_list_defcal_params P.param_list_defcal_qubits
dcal-returns-then-at t c =
    simp (assoc, cond-bind, done-bind)
    (then _ _ _ _ c.bump-p.ensures
    (then _ _ _ _ c.name_r-p.ensures
    (see _ _ _ _ c.at.ensures
    (rw c.if-at.true
    (then _ _ _ _ c.list-p.ensures
    (then _ _ _ _ c.list-p-then-at.ensures
    c.sig.ensures))))))

pub dcal-returns : goal.dcal-returns
unfolding I.defcal P.param_list_defcal_params P.param_list_defcal_qubits
dcal-returns t c =
    simp (assoc, cond-bind, done-bind)
    (then _ _ _ _ c.bump-p.ensures
    (then _ _ _ _ c.name_r-p.ensures
    (see _ _ _ _ c.at.ensures
    (rw c.if-at.false
    (then _ _ _ _ c.list-p-2.ensures
    c.sig-2.ensures)))))

-- `decl`

pub decl-returns-then-at : goal.decl-returns-then-at
unfolding I.classical_declaration_stmt
decl-returns-then-at t c =
    then _ _ _ _ c.eat-p.ensures
    (step _ _ _ _ c.start-p.ensures
    (then _ _ _ _ c.spec-p.ensures
    (peek _ _ _ _ _ c.current-p.ensures
    (rw (eq-eqb _ _ c.if-here-eq-L_PAREN.true)
    (past _ _ _ _ c.expected-p.ensures
    (then _ _ _ _ c.expr_bp-p.ensures
    (past _ _ _ _ c.expected-p-then-here-eq-L_PAREN.ensures
    (passed _ _ _ _ c.completed-p.ensures
    (see _ _ _ _ c.at.ensures
    (rw c.if-at.true
    c.close.ensures))))))))))

pub decl-returns-then-here-eq-L_PAREN : goal.decl-returns-then-here-eq-L_PAREN
unfolding I.classical_declaration_stmt
decl-returns-then-here-eq-L_PAREN t c =
    then _ _ _ _ c.eat-p.ensures
    (step _ _ _ _ c.start-p.ensures
    (then _ _ _ _ c.spec-p.ensures
    (peek _ _ _ _ _ c.current-p.ensures
    (rw (eq-eqb _ _ c.if-here-eq-L_PAREN.true)
    (past _ _ _ _ c.expected-p.ensures
    (then _ _ _ _ c.expr_bp-p.ensures
    (past _ _ _ _ c.expected-p-then-here-eq-L_PAREN.ensures
    (passed _ _ _ _ c.completed-p.ensures
    (see _ _ _ _ c.at.ensures
    (rw c.if-at.false
    (any _ _ _ c.abandon.ensures)))))))))))

pub decl-returns-then-eaten : goal.decl-returns-then-eaten
unfolding I.classical_declaration_stmt
decl-returns-then-eaten t c =
    then _ _ _ _ c.eat-p.ensures
    (step _ _ _ _ c.start-p.ensures
    (then _ _ _ _ c.spec-p.ensures
    (peek _ _ _ _ _ c.current-p.ensures
    (rw (ne_eqb _ _ c.if-here-eq-L_PAREN.false)
    (step _ _ _ _ c.abandon-p.ensures
    (then _ _ _ _ c.var_name-p.ensures
    (then _ _ _ _ c.eat-p-2.ensures
    (rw c.if-eaten.true
    (any _ _ _ c.completed.ensures)))))))))

pub decl-returns-then-met : goal.decl-returns-then-met
unfolding I.classical_declaration_stmt
decl-returns-then-met t c =
    then _ _ _ _ c.eat-p.ensures
    (step _ _ _ _ c.start-p.ensures
    (then _ _ _ _ c.spec-p.ensures
    (peek _ _ _ _ _ c.current-p.ensures
    (rw (ne_eqb _ _ c.if-here-eq-L_PAREN.false)
    (step _ _ _ _ c.abandon-p.ensures
    (then _ _ _ _ c.var_name-p.ensures
    (then _ _ _ _ c.eat-p-2.ensures
    (rw c.if-eaten.false
    (then _ _ _ _ c.expect-p.ensures
    (rw c.if-met.true
    (then _ _ _ _ c.expr_bp-p-then-met.ensures
    c.close-then-met.ensures)))))))))))

pub decl-returns : goal.decl-returns
unfolding I.classical_declaration_stmt
decl-returns t c =
    then _ _ _ _ c.eat-p.ensures
    (step _ _ _ _ c.start-p.ensures
    (then _ _ _ _ c.spec-p.ensures
    (peek _ _ _ _ _ c.current-p.ensures
    (rw (ne_eqb _ _ c.if-here-eq-L_PAREN.false)
    (step _ _ _ _ c.abandon-p.ensures
    (then _ _ _ _ c.var_name-p.ensures
    (then _ _ _ _ c.eat-p-2.ensures
    (rw c.if-eaten.false
    (then _ _ _ _ c.expect-p.ensures
    (rw c.if-met.false
    (any _ _ _ c.abandon-2.ensures)))))))))))

-- `def`

pub def-returns-then-at : goal.def-returns-then-at
unfolding I.def_stmt P.param_list_def_params
def-returns-then-at t c =
    simp (assoc, cond-bind, done-bind)
    (then _ _ _ _ c.must-p.ensures
    (then _ _ _ _ c.bump_any-p.ensures
    (then _ _ _ _ c.name_r-p.ensures
    (see _ _ _ _ c.at.ensures
    (rw c.if-at.true
    (then _ _ _ _ c.list-p.ensures
    c.sig.ensures))))))

pub def-returns : goal.def-returns
unfolding I.def_stmt P.param_list_def_params
def-returns t c =
    simp (assoc, cond-bind, done-bind)
    (then _ _ _ _ c.must-p.ensures
    (then _ _ _ _ c.bump_any-p.ensures
    (then _ _ _ _ c.name_r-p.ensures
    (see _ _ _ _ c.at.ensures
    (rw c.if-at.false
    (step _ _ _ _ c.error-p.ensures
    c.sig-2.ensures))))))

-- `els`

pub els-returns-then-level-eq0 : goal.els-returns-then-level-eq0
unfolding counted
els-returns-then-level-eq0 t c =
    rw c.if-level-eq0.true
    (any _ _ _ c.stop.ensures)

pub els-returns : goal.els-returns
unfolding P.expression_list
els-returns t c =
    expression_list-deeper _ _ _ _ c.if-level-eq0.false
    c.list.ensures

-- `expr_bp`

pub expr_bp-returns-then-level-eq0 : goal.expr_bp-returns-then-level-eq0
unfolding counted
expr_bp-returns-then-level-eq0 t c =
    rw c.if-level-eq0.true
    (step _ _ _ _ c.stop-q.ensures
    (ends _ _ _))

pub expr_bp-returns-then-lacks : goal.expr_bp-returns-then-lacks
unfolding E.expr_bp E.expr_bp_round
expr_bp-returns-then-lacks t c =
    expr_bp-deeper _ _ _ _ _ _ _ c.if-level-eq0.false
    (step _ _ _ _ c.marker-p.ensures
    (peek _ _ _ _ _ c.lacks_expr-p.ensures
    (rw c.if-lacks.true
    (then _ _ _ _ c.err_recover-p.ensures
    (step _ _ _ _ c.abandon-p.ensures
    (ends _ _ _))))))

pub expr_bp-returns-in-None : goal.expr_bp-returns-in-None
unfolding E.expr_bp E.expr_bp_round
expr_bp-returns-in-None t c =
    expr_bp-deeper _ _ _ _ _ _ _ c.if-level-eq0.false
    (step _ _ _ _ c.marker-p.ensures
    (peek _ _ _ _ _ c.lacks_expr-p.ensures
    (rw c.if-lacks.false
    (then _ _ _ _ c.lhs-p.ensures
    (rw c.in-None.is
    (step _ _ _ _ c.abandon-p-in-None.ensures
    (ends _ _ _)))))))

pub expr_bp-returns-then-both : goal.expr_bp-returns-then-both
unfolding E.expr_bp E.expr_bp_round
expr_bp-returns-then-both t c =
    expr_bp-deeper _ _ _ _ _ _ _ c.if-level-eq0.false
    (step _ _ _ _ c.marker-p.ensures
    (peek _ _ _ _ _ c.lacks_expr-p.ensures
    (rw c.if-lacks.false
    (then _ _ _ _ c.lhs-p.ensures
    (rw c.in-Some.is
    (step _ _ _ _ c.extend_to-q.ensures
    (rw (sym c.both.ensures ∙ c.if-both.true)
    (ends _ _ _))))))))

pub expr_bp-loop-d-init : goal.expr_bp-loop-d-init
expr_bp-loop-d-init t c = (refl, ran-none _ _ _ _)

pub expr_bp-returns-then-op-bp : goal.expr_bp-returns-then-op-bp
unfolding E.expr_bp E.expr_bp_round
expr_bp-returns-then-op-bp t c =
    expr_bp-deeper _ _ _ _ _ _ _ c.if-level-eq0.false
    (step _ _ _ _ c.marker-p.ensures
    (peek _ _ _ _ _ c.lacks_expr-p.ensures
    (rw c.if-lacks.false
    (then _ _ _ _ c.lhs-p.ensures
    (rw c.in-Some.is
    (step _ _ _ _ c.extend_to-q.ensures
    (rw (sym c.both.ensures ∙ c.if-both.false)
    (then _ _ _ _ (ran-done _ _ _ _ _ _ _ _ c.loop-d.invariant.1
    (peek _ _ _ _ _ c.current_op-p.ensures
    (rw (lt-ltb _ _ c.if-op-bp.true)
    (ends _ _ _))))
    (ends _ _ _)))))))))

pub expr_bp-expr_bp-p-requires : goal.expr_bp-expr_bp-p-requires
expr_bp-expr_bp-p-requires t c = (
  omega (arith, c.if-level-eq0.false),
  omega (
    arith,
    op-next _ (mode-fair _) _ c.current_op-p.ensures,
    c.if-op-bp.false,
    c.requires.le_bp,
  ),
)

pub expr_bp-loop-d-smaller : goal.expr_bp-loop-d-smaller
expr_bp-loop-d-smaller t c =
    lt_of_le_of_lt (spent-does _ _ _ c.close_op-p.ensures)
    (lt_of_le_of_lt (spent-does _ _ _ c.expr_bp-p.ensures)
    (lt_of_le_of_lt (spent-does _ _ _ c.bump-p.ensures)
    (lt_of_le_of_lt (spent-steps _ _ c.precede-p.ensures)
    (falls-peeks _ _ _ (op-spends _) (op-left _ (mode-fair _) _ c.current_op-p.ensures (omega
    (arith, c.if-op-bp.false, c.requires.le_bp))) c.current_op-p.ensures))))

pub expr_bp-loop-d-preserved : goal.expr_bp-loop-d-preserved
unfolding E.expr_bp E.expr_bp_round
expr_bp-loop-d-preserved t c = (
  c.close_op-p.auto.room ∙ c.expr_bp-p.auto.room ∙ c.bump-p.auto.room ∙ c.precede-p.auto.room ∙ c.loop-d.invariant.0,
  ran-more _
      _ _ _ _ _ _ _ c.loop-d.invariant.1
      (peek _ _ _ _ _ c.current_op-p.ensures
      (rw (le-ltb _ _ c.if-op-bp.false)
      (step _ _ _ _ c.precede-p.ensures
      (then _ _ _ _ c.bump-p.ensures
      (then _ _ _ _ c.expr_bp-p.ensures
      (then _ _ _ _ c.close_op-p.ensures
      (ends _ _ _)))))))
      (lt_of_le_of_lt (spent-does _ _ _ c.close_op-p.ensures)
      (lt_of_le_of_lt (spent-does _ _ _ c.expr_bp-p.ensures)
      (lt_of_le_of_lt (spent-does _ _ _ c.bump-p.ensures)
      (lt_of_le_of_lt (spent-steps _ _ c.precede-p.ensures)
      (falls-peeks _ _ _ (op-spends _) (op-left _ (mode-fair _) _ c.current_op-p.ensures (omega
      (arith, c.if-op-bp.false, c.requires.le_bp))) c.current_op-p.ensures))))),
)

-- `fors`

pub fors-returns-then-at : goal.fors-returns-then-at
unfolding I.for_stmt
fors-returns-then-at t c =
    simp (assoc, cond-bind, done-bind)
    (then _ _ _ _ c.must-p.ensures
    (then _ _ _ _ c.bump-p.ensures
    (then _ _ _ _ c.spec-p.ensures
    (then _ _ _ _ c.name_r-p.ensures
    (past _ _ _ _ c.expected-p.ensures
    (step _ _ _ _ c.start-p.ensures
    (see _ _ _ _ c.at.ensures
    (rw c.if-at.true
    (then _ _ _ _ c.set-p.ensures
    c.rest.ensures)))))))))

pub fors-returns-then-at-2 : goal.fors-returns-then-at-2
unfolding I.for_stmt
fors-returns-then-at-2 t c =
    simp (assoc, cond-bind, done-bind)
    (then _ _ _ _ c.must-p.ensures
    (then _ _ _ _ c.bump-p.ensures
    (then _ _ _ _ c.spec-p.ensures
    (then _ _ _ _ c.name_r-p.ensures
    (past _ _ _ _ c.expected-p.ensures
    (step _ _ _ _ c.start-p.ensures
    (see _ _ _ _ c.at.ensures
    (rw c.if-at.false
    (see _ _ _ _ c.at-2.ensures
    (rw c.if-at-2.true
    (then _ _ _ _ c.range-p.ensures
    c.rest-then-at-2.ensures)))))))))))

pub fors-returns : goal.fors-returns
unfolding I.for_stmt
fors-returns t c =
    simp (assoc, cond-bind, done-bind)
    (then _ _ _ _ c.must-p.ensures
    (then _ _ _ _ c.bump-p.ensures
    (then _ _ _ _ c.spec-p.ensures
    (then _ _ _ _ c.name_r-p.ensures
    (past _ _ _ _ c.expected-p.ensures
    (step _ _ _ _ c.start-p.ensures
    (see _ _ _ _ c.at.ensures
    (rw c.if-at.false
    (see _ _ _ _ c.at-2.ensures
    (rw c.if-at-2.false
    (then _ _ _ _ c.expr_bp-p.ensures
    c.rest-2.ensures)))))))))))

-- `gate`

pub gate-returns-then-at : goal.gate-returns-then-at
unfolding A.gate_call_expr P.arg_list_gate_call_qubits
gate-returns-then-at t c =
    simp (assoc, cond-bind, done-bind)
    (step _ _ _ _ c.start-p.ensures
    (then _ _ _ _ c.identifier-p.ensures
    (see _ _ _ _ c.at.ensures
    (rw c.if-at.true
    (then _ _ _ _ c.args-p.ensures
    (then _ _ _ _ c.list-p.ensures
    (any _ _ _ c.complete.ensures)))))))

pub gate-returns : goal.gate-returns
unfolding A.gate_call_expr P.arg_list_gate_call_qubits
gate-returns t c =
    simp (assoc, cond-bind, done-bind)
    (step _ _ _ _ c.start-p.ensures
    (then _ _ _ _ c.identifier-p.ensures
    (see _ _ _ _ c.at.ensures
    (rw c.if-at.false
    (then _ _ _ _ c.list-p-2.ensures
    (any _ _ _ c.complete-2.ensures))))))

-- `gdef`

pub gdef-returns-then-at : goal.gdef-returns-then-at
unfolding I.gate_definition P.param_list_gate_params P.param_list_gate_qubits
gdef-returns-then-at t c =
    simp (assoc, cond-bind, done-bind)
    (then _ _ _ _ c.bump-p.ensures
    (then _ _ _ _ c.name_r-p.ensures
    (see _ _ _ _ c.at.ensures
    (rw c.if-at.true
    (then _ _ _ _ c.list-p.ensures
    (then _ _ _ _ c.list-p-then-at.ensures
    (then _ _ _ _ c.body-p.ensures
    (any _ _ _ c.completed.ensures))))))))

pub gdef-returns : goal.gdef-returns
unfolding I.gate_definition P.param_list_gate_params P.param_list_gate_qubits
gdef-returns t c =
    simp (assoc, cond-bind, done-bind)
    (then _ _ _ _ c.bump-p.ensures
    (then _ _ _ _ c.name_r-p.ensures
    (see _ _ _ _ c.at.ensures
    (rw c.if-at.false
    (then _ _ _ _ c.list-p-2.ensures
    (then _ _ _ _ c.body-p-2.ensures
    (any _ _ _ c.completed-2.ensures)))))))

-- `gph`

pub gph-returns : goal.gph-returns
unfolding A.gphase_call_expr
gph-returns t c =
    then _ _ _ _ c.must-p.ensures
    (step _ _ _ _ c.start-p.ensures
    (then _ _ _ _ c.bump-p.ensures
    (then _ _ _ _ c.expr_bp-p.ensures
    (any _ _ _ c.complete.ensures))))

-- `ids`

pub ids-loop-level-init : goal.ids-loop-level-init
ids-loop-level-init t c = (refl, ran-none _ _ _ _)

pub ids-loop-level-smaller : goal.ids-loop-level-smaller
ids-loop-level-smaller t c =
    falls _ _ _ (index-spends _) (left-sees _ _ L-BRACK (λ z. omega arith)
    (sym c.at.ensures ∙ c.loop-level-test.true)) c.subs-q.ensures

pub ids-loop-level-preserved : goal.ids-loop-level-preserved
unfolding E.indexed_identifier E.indexed_identifier_round
ids-loop-level-preserved t c = (
  c.subs-q.auto.room ∙ c.loop-level.invariant.0,
  ran-more _ _ _ _ _ _ _ _ c.loop-level.invariant.1
      (see _ _ _ _ c.at.ensures
      (rw c.loop-level-test.true
      (then _ _ _ _ c.subs-q.ensures
      (ends _ _ _))))
      (falls _ _ _ (index-spends _) (left-sees _ _ L-BRACK (λ z. omega arith)
      (sym c.at.ensures ∙ c.loop-level-test.true)) c.subs-q.ensures),
)

pub ids-returns : goal.ids-returns
unfolding E.indexed_identifier E.indexed_identifier_round
ids-returns t c =
    then _ _ _ _ c.must-p.ensures
    (step _ _ _ _ c.precede-q.ensures
    (then _ _ _ _ (ran-done _ _ _ _ _ _ _ _ c.loop-level.invariant.1
    (see _ _ _ _ c.at.ensures
    (rw c.loop-level-test.false
    (ends _ _ _))))
    (any _ _ _ c.complete.ensures)))

-- `idx`

pub idx-returns-then-first-eq-IDENTIFIER : goal.idx-returns-then-first-eq-IDENTIFIER
unfolding E.indexed E.index_expr
idx-returns-then-first-eq-IDENTIFIER t c =
    rw (eq-eqb _ _ c.if-first-eq-IDENTIFIER.true)
    c.ids.ensures

pub idx-returns : goal.idx-returns
unfolding E.indexed E.index_expr
idx-returns t c =
    rw (ne_eqb _ _ c.if-first-eq-IDENTIFIER.false)
    (step _ _ _ _ c.unindexed-p.ensures
    (then _ _ _ _ c.must-p.ensures
    (step _ _ _ _ c.precede-p.ensures
    (then _ _ _ _ c.subs-p.ensures
    (any _ _ _ c.complete.ensures)))))

-- `ifs`

pub ifs-returns-then-level-eq0 : goal.ifs-returns-then-level-eq0
unfolding counted
ifs-returns-then-level-eq0 t c =
    rw c.if-level-eq0.true
    (any _ _ _ c.stop.ensures)

pub ifs-returns-then-at-2 : goal.ifs-returns-then-at-2
unfolding I.if_stmt
ifs-returns-then-at-2 t c =
    if_stmt-deeper _ _ _ _ _ c.if-level-eq0.false
    (simp (assoc, cond-bind, done-bind)
    (then _ _ _ _ c.must-p.ensures
    (then _ _ _ _ c.bump-p.ensures
    (past _ _ _ _ c.expected-p.ensures
    (then _ _ _ _ c.expr_bp-p.ensures
    (past _ _ _ _ c.expected-p-2.ensures
    (then _ _ _ _ c.body-p.ensures
    (see _ _ _ _ c.at.ensures
    (rw c.if-at.true
    (then _ _ _ _ c.bump-p-then-at.ensures
    (see _ _ _ _ c.at-then-at.ensures
    (rw c.if-at-2.true
    (step _ _ _ _ c.start-p.ensures
    (then _ _ _ _ c.ifs-p.ensures
    (any _ _ _ c.completed.ensures)))))))))))))))

pub ifs-returns-then-at : goal.ifs-returns-then-at
unfolding I.if_stmt
ifs-returns-then-at t c =
    if_stmt-deeper _ _ _ _ _ c.if-level-eq0.false
    (simp (assoc, cond-bind, done-bind)
    (then _ _ _ _ c.must-p.ensures
    (then _ _ _ _ c.bump-p.ensures
    (past _ _ _ _ c.expected-p.ensures
    (then _ _ _ _ c.expr_bp-p.ensures
    (past _ _ _ _ c.expected-p-2.ensures
    (then _ _ _ _ c.body-p.ensures
    (see _ _ _ _ c.at.ensures
    (rw c.if-at.true
    (then _ _ _ _ c.bump-p-then-at.ensures
    (see _ _ _ _ c.at-then-at.ensures
    (rw c.if-at-2.false
    (then _ _ _ _ c.body-p-then-at.ensures
    (any _ _ _ c.completed-then-at.ensures))))))))))))))

pub ifs-returns : goal.ifs-returns
unfolding I.if_stmt
ifs-returns t c =
    if_stmt-deeper _ _ _ _ _ c.if-level-eq0.false
    (simp (assoc, cond-bind, done-bind)
    (then _ _ _ _ c.must-p.ensures
    (then _ _ _ _ c.bump-p.ensures
    (past _ _ _ _ c.expected-p.ensures
    (then _ _ _ _ c.expr_bp-p.ensures
    (past _ _ _ _ c.expected-p-2.ensures
    (then _ _ _ _ c.body-p.ensures
    (see _ _ _ _ c.at.ensures
    (rw c.if-at.false
    (any _ _ _ c.completed-2.ensures))))))))))

-- `io`

pub io-returns : goal.io-returns
unfolding I.io_declaration_stmt
io-returns t c =
    then _ _ _ _ c.bump_any-p.ensures
    (then _ _ _ _ c.io_type-p.ensures
    (then _ _ _ _ c.spec-p.ensures
    (then _ _ _ _ c.var_name-p.ensures
    c.close.ensures)))

-- `lhs`

pub lhs-returns-then-has : goal.lhs-returns-then-has
unfolding E.lhs
lhs-returns-then-has t c =
    peek _ _ _ _ _ c.current-p.ensures
    (rw (sym c.has.ensures ∙ c.if-has.true)
    (step _ _ _ _ c.start-p.ensures
    (then _ _ _ _ c.bump_any-p.ensures
    (then _ _ _ _ c.expr_bp-p.ensures
    (step _ _ _ _ c.complete-p.ensures
    (ends _ _ _))))))

pub lhs-returns-in-None : goal.lhs-returns-in-None
unfolding E.lhs
lhs-returns-in-None t c =
    peek _ _ _ _ _ c.current-p.ensures
    (rw (sym c.has.ensures ∙ c.if-has.false)
    (then _ _ _ _ c.atom-p.ensures
    (rw c.in-None.is
    (ends _ _ _))))

pub lhs-returns-in-Some : goal.lhs-returns-in-Some
unfolding E.lhs
lhs-returns-in-Some t c =
    peek _ _ _ _ _ c.current-p.ensures
    (rw (sym c.has.ensures ∙ c.if-has.false)
    (then _ _ _ _ c.atom-p.ensures
    (rw c.in-Some.is
    (rw (sym c.not_both-calls.ensures)
    c.post.ensures))))

-- `list`

pub list-loop-level-init : goal.list-loop-level-init
list-loop-level-init t c = (refl, ran-none _ _ _ _, omega (arith, most-left c.list_open-q.result.0))

pub list-loop-level-smaller : goal.list-loop-level-smaller
list-loop-level-smaller t c =
    lt_of_le_of_lt (spent-does _ _ _ c.list_next-p.ensures)
    (lt_of_le_of_lt (spent-does _ _ _ c.par-p.ensures)
    (falls-after-peeks _ _ _ _ ahead-spends (left-list _ _ c.shape_of-shape.result
    (sym c.list_goes.ensures ∙ c.loop-level-test.true)) (spent-steps _ _ c.start-p.ensures) c.param_ahead-p.ensures))

pub list-loop-level-preserved : goal.list-loop-level-preserved
unfolding P.param_list_openqasm P.param_list_openqasm_round
list-loop-level-preserved t c = (
  c.list_next-p.auto.room ∙ c.par-p.auto.room ∙ c.start-p.auto.room ∙ c.loop-level.invariant.0,
  ran-more _ _ _ _ _ _ _ _
      c.loop-level.invariant.1
      (list-go _ _ _ _ c.list_goes.ensures
      (rw c.loop-level-test.true
      (step _ _ _ _ c.start-p.ensures
      (peek _ _ _ _ _ c.param_ahead-p.ensures
      (rw c.if-ahead.true
      (then _ _ _ _ c.par-p.ensures
      (rw c.if-found.true
      (then _ _ _ _ c.list_next-p.ensures
      (rw c.if-more.true
      (ends _ _ _))))))))))
      (lt_of_le_of_lt (spent-does _ _ _ c.list_next-p.ensures)
      (lt_of_le_of_lt (spent-does _ _ _ c.par-p.ensures)
      (falls-after-peeks _ _ _ _ ahead-spends (left-list _ _ c.shape_of-shape.result
      (sym c.list_goes.ensures ∙ c.loop-level-test.true)) (spent-steps _ _ c.start-p.ensures) c.param_ahead-p.ensures))),
  omega (
    arith,
    lt_of_le_of_lt (spent-does _ _ _ c.list_next-p.ensures)
        (lt_of_le_of_lt (spent-does _ _ _ c.par-p.ensures)
        (falls-after-peeks _ _ _ _ ahead-spends (left-list _ _ c.shape_of-shape.result
        (sym c.list_goes.ensures ∙ c.loop-level-test.true)) (spent-steps _ _ c.start-p.ensures) c.param_ahead-p.ensures)),
    c.loop-level.invariant.2,
  ),
)

pub list-returns-then-found : goal.list-returns-then-found
unfolding P.param_list_openqasm P.param_list_openqasm_round
list-returns-then-found t c =
    rw (sym c.shape_of-shape.ensures)
    (then _ _ _ _ c.list_open-q.ensures
    (then _ _ _ _ (ran-done _ _ _ _ _ _ _ _ c.loop-level.invariant.1
    (list-go _ _ _ _ c.list_goes.ensures
    (rw c.loop-level-test.true
    (step _ _ _ _ c.start-p.ensures
    (peek _ _ _ _ _ c.param_ahead-p.ensures
    (rw c.if-ahead.true
    (then _ _ _ _ c.par-p.ensures
    (rw c.if-found.true
    (then _ _ _ _ c.list_next-p.ensures
    (rw c.if-more.false
    (ends _ _ _)))))))))))
    c.list_end.ensures))

pub list-returns-then-ahead : goal.list-returns-then-ahead
unfolding P.param_list_openqasm P.param_list_openqasm_round
list-returns-then-ahead t c =
    rw (sym c.shape_of-shape.ensures)
    (then _ _ _ _ c.list_open-q.ensures
    (then _ _ _ _ (ran-done _ _ _ _ _ _ _ _ c.loop-level.invariant.1
    (list-go _ _ _ _ c.list_goes.ensures
    (rw c.loop-level-test.true
    (step _ _ _ _ c.start-p.ensures
    (peek _ _ _ _ _ c.param_ahead-p.ensures
    (rw c.if-ahead.true
    (then _ _ _ _ c.par-p.ensures
    (rw c.if-found.false
    (ends _ _ _)))))))))
    c.list_end-then-ahead.ensures))

pub list-returns-in-loop-level : goal.list-returns-in-loop-level
unfolding P.param_list_openqasm P.param_list_openqasm_round
list-returns-in-loop-level t c =
    rw (sym c.shape_of-shape.ensures)
    (then _ _ _ _ c.list_open-q.ensures
    (then _ _ _ _ (ran-done _ _ _ _ _ _ _ _ c.loop-level.invariant.1
    (list-go _ _ _ _ c.list_goes.ensures
    (rw c.loop-level-test.true
    (step _ _ _ _ c.start-p.ensures
    (peek _ _ _ _ _ c.param_ahead-p.ensures
    (rw c.if-ahead.false
    (step _ _ _ _ c.error-p.ensures
    (step _ _ _ _ c.abandon-p.ensures
    (ends _ _ _)))))))))
    c.list_end-in-loop-level.ensures))

pub list-returns : goal.list-returns
unfolding P.param_list_openqasm P.param_list_openqasm_round
list-returns t c =
    rw (sym c.shape_of-shape.ensures)
    (then _ _ _ _ c.list_open-q.ensures
    (then _ _ _ _ (ran-done _ _ _ _ _ _ _ _ c.loop-level.invariant.1
    (list-go _ _ _ _ c.list_goes.ensures
    (rw c.loop-level-test.false
    (ends _ _ _))))
    c.list_end-2.ensures))

-- `meas`

pub meas-returns-then-has : goal.meas-returns-then-has
unfolding A.measure_expression
meas-returns-then-has t c =
    simp (assoc, cond-bind, done-bind)
    (step _ _ _ _ c.start-p.ensures
    (then _ _ _ _ c.bump-p.ensures
    (peek _ _ _ _ _ c.current-p.ensures
    (rw (sym c.has.ensures ∙ c.if-has.true)
    (step _ _ _ _ c.start-p-then-has.ensures
    (then _ _ _ _ c.qarg-p.ensures
    (any _ _ _ c.complete.ensures)))))))

pub meas-returns : goal.meas-returns
unfolding A.measure_expression
meas-returns t c =
    simp (assoc, cond-bind, done-bind)
    (step _ _ _ _ c.start-p.ensures
    (then _ _ _ _ c.bump-p.ensures
    (peek _ _ _ _ _ c.current-p.ensures
    (rw (sym c.has.ensures ∙ c.if-has.false)
    (step _ _ _ _ c.error-p.ensures
    (any _ _ _ c.complete-2.ensures))))))

-- `mods`

pub mods-loop-room-init : goal.mods-loop-room-init
mods-loop-room-init t c = (refl, ran-none _ _ _ _)

pub mods-loop-room-smaller-in-95 : goal.mods-loop-room-smaller-in-95
mods-loop-room-smaller-in-95 t c =
    lt_of_le_of_lt (spent-does _ _ _ c.inv_modifier-q.ensures)
    (falls-peeks _ _ _ (spends-nth 0) (left-told _ 0 _ c.current-p.ensures (λ z. omega (arith, c.in-95.is))) c.current-p.ensures)

pub mods-loop-room-preserved-in-95 : goal.mods-loop-room-preserved-in-95
unfolding A.modified_gate_call_expr A.modified_gate_call_expr_round
mods-loop-room-preserved-in-95 t c = (
  c.inv_modifier-q.auto.room ∙ c.loop-room.invariant.0,
  ran-more _ _ _ _ _ _ _ _ c.loop-room.invariant.1
      (peek _ _ _ _ _ c.current-p.ensures
      (rw c.in-95.is
      (then _ _ _ _ c.inv_modifier-q.ensures
      (ends _ _ _))))
      (lt_of_le_of_lt (spent-does _ _ _ c.inv_modifier-q.ensures)
      (falls-peeks _ _ _ (spends-nth 0) (left-told _ 0 _ c.current-p.ensures (λ z. omega (arith, c.in-95.is))) c.current-p.ensures)),
)

pub mods-loop-room-smaller-in-96 : goal.mods-loop-room-smaller-in-96
mods-loop-room-smaller-in-96 t c =
    lt_of_le_of_lt (spent-does _ _ _ c.ctl-q.ensures)
    (falls-peeks _ _ _ (spends-nth 0) (left-told _ 0 _ c.current-p.ensures (λ z. omega (arith, c.in-96.is))) c.current-p.ensures)

pub mods-loop-room-preserved-in-96 : goal.mods-loop-room-preserved-in-96
unfolding A.modified_gate_call_expr A.modified_gate_call_expr_round
mods-loop-room-preserved-in-96 t c = (
  c.ctl-q.auto.room ∙ c.loop-room.invariant.0,
  ran-more _ _ _ _ _ _ _ _ c.loop-room.invariant.1
      (peek _ _ _ _ _ c.current-p.ensures
      (rw c.in-96.is
      (then _ _ _ _ c.ctl-q.ensures
      (ends _ _ _))))
      (lt_of_le_of_lt (spent-does _ _ _ c.ctl-q.ensures)
      (falls-peeks _ _ _ (spends-nth 0) (left-told _ 0 _ c.current-p.ensures (λ z. omega (arith, c.in-96.is))) c.current-p.ensures)),
)

pub mods-loop-room-smaller-in-93 : goal.mods-loop-room-smaller-in-93
mods-loop-room-smaller-in-93 t c =
    lt_of_le_of_lt (spent-does _ _ _ c.ctl-q-in-93.ensures)
    (falls-peeks _ _ _ (spends-nth 0) (left-told _ 0 _ c.current-p.ensures (λ z. omega (arith, c.in-93.is))) c.current-p.ensures)

pub mods-loop-room-preserved-in-93 : goal.mods-loop-room-preserved-in-93
unfolding A.modified_gate_call_expr A.modified_gate_call_expr_round
mods-loop-room-preserved-in-93 t c = (
  c.ctl-q-in-93.auto.room ∙ c.loop-room.invariant.0,
  ran-more _ _ _ _ _ _ _ _ c.loop-room.invariant.1
      (peek _ _ _ _ _ c.current-p.ensures
      (rw c.in-93.is
      (then _ _ _ _ c.ctl-q-in-93.ensures
      (ends _ _ _))))
      (lt_of_le_of_lt (spent-does _ _ _ c.ctl-q-in-93.ensures)
      (falls-peeks _ _ _ (spends-nth 0) (left-told _ 0 _ c.current-p.ensures (λ z. omega (arith, c.in-93.is))) c.current-p.ensures)),
)

pub mods-loop-room-smaller : goal.mods-loop-room-smaller
mods-loop-room-smaller t c =
    lt_of_le_of_lt (spent-does _ _ _ c.ctl-q-in-94.ensures)
    (falls-peeks _ _ _ (spends-nth 0) (left-told _ 0 _ c.current-p.ensures (λ z. omega (arith, c.in-94.is))) c.current-p.ensures)

pub mods-loop-room-preserved : goal.mods-loop-room-preserved
unfolding A.modified_gate_call_expr A.modified_gate_call_expr_round
mods-loop-room-preserved t c = (
  c.ctl-q-in-94.auto.room ∙ c.loop-room.invariant.0,
  ran-more _ _ _ _ _ _ _ _ c.loop-room.invariant.1
      (peek _ _ _ _ _ c.current-p.ensures
      (rw c.in-94.is
      (then _ _ _ _ c.ctl-q-in-94.ensures
      (ends _ _ _))))
      (lt_of_le_of_lt (spent-does _ _ _ c.ctl-q-in-94.ensures)
      (falls-peeks _ _ _ (spends-nth 0) (left-told _ 0 _ c.current-p.ensures (λ z. omega (arith, c.in-94.is))) c.current-p.ensures)),
)

pub mods-returns-then-at : goal.mods-returns-then-at
unfolding A.modified_gate_call_expr A.modified_gate_call_expr_round
mods-returns-then-at t c =
    simp (assoc, cond-bind, done-bind)
    (step _ _ _ _ c.start-q.ensures
    (then _ _ _ _ (ran-done _ _ _ _ _ _ _ (view c.current-p.result.0 c.loop-room.room) c.loop-room.invariant.1
    (peek _ _ _ _ _ c.current-p.ensures
    (rw (ne_eqb c.current-p.result.1 INV-KW (search rules))
    (rw (ne_eqb c.current-p.result.1 POW-KW (search rules))
    (rw (ne_eqb c.current-p.result.1 CTRL-KW (search rules))
    (rw (ne_eqb c.current-p.result.1 NEGCTRL-KW (search rules))
    (ends _ _ _)))))))
    (see _ _ _ _ c.at.ensures
    (rw c.if-at.true
    (then _ _ _ _ c.gph-p.ensures
    (any _ _ _ c.complete.ensures))))))

pub mods-returns-in_default : goal.mods-returns-in_default
unfolding A.modified_gate_call_expr A.modified_gate_call_expr_round
mods-returns-in_default t c =
    simp (assoc, cond-bind, done-bind)
    (step _ _ _ _ c.start-q.ensures
    (then _ _ _ _ (ran-done _ _ _ _ _ _ _ (view c.current-p.result.0 c.loop-room.room) c.loop-room.invariant.1
    (peek _ _ _ _ _ c.current-p.ensures
    (rw (ne_eqb c.current-p.result.1 INV-KW (search rules))
    (rw (ne_eqb c.current-p.result.1 POW-KW (search rules))
    (rw (ne_eqb c.current-p.result.1 CTRL-KW (search rules))
    (rw (ne_eqb c.current-p.result.1 NEGCTRL-KW (search rules))
    (ends _ _ _)))))))
    (see _ _ _ _ c.at.ensures
    (rw c.if-at.false
    (then _ _ _ _ c.gate-p.ensures
    (any _ _ _ c.complete-in_default.ensures))))))

-- `more`

pub more-returns-then-has : goal.more-returns-then-has
unfolding I.reset_stmt I.barrier I.alias_stmt I.delay_stmt P.arg_list_gate_call_qubits
more-returns-then-has t c =
    rw c.in-64.is
    (simp (assoc, cond-bind, done-bind)
    (then _ _ _ _ c.bump-p.ensures
    (peek _ _ _ _ _ c.current-p.ensures
    (rw (sym c.has.ensures ∙ c.if-has.true)
    (step _ _ _ _ c.start-p.ensures
    (then _ _ _ _ c.qarg-p.ensures
    (past _ _ _ _ c.expected-p.ensures
    (passed _ _ _ _ c.completed-p.ensures
    (ends _ _ _)))))))))

pub more-returns-in-64 : goal.more-returns-in-64
unfolding I.reset_stmt I.barrier I.alias_stmt I.delay_stmt P.arg_list_gate_call_qubits
more-returns-in-64 t c =
    rw c.in-64.is
    (simp (assoc, cond-bind, done-bind)
    (then _ _ _ _ c.bump-p.ensures
    (peek _ _ _ _ _ c.current-p.ensures
    (rw (sym c.has.ensures ∙ c.if-has.false)
    (step _ _ _ _ c.error-p.ensures
    (step _ _ _ _ c.abandon-p.ensures
    (ends _ _ _)))))))

pub more-returns-then-at : goal.more-returns-then-at
unfolding I.reset_stmt I.barrier I.alias_stmt I.delay_stmt P.arg_list_gate_call_qubits
more-returns-then-at t c =
    rw c.in-70.is
    (simp (assoc, cond-bind, done-bind)
    (then _ _ _ _ c.bump-p-in-70.ensures
    (see _ _ _ _ c.at.ensures
    (rw c.if-at.true
    (past _ _ _ _ c.expected-p-then-at.ensures
    (passed _ _ _ _ c.completed-p-then-at.ensures
    (ends _ _ _)))))))

pub more-returns-in-70 : goal.more-returns-in-70
unfolding I.reset_stmt I.barrier I.alias_stmt I.delay_stmt P.arg_list_gate_call_qubits
more-returns-in-70 t c =
    rw c.in-70.is
    (simp (assoc, cond-bind, done-bind)
    (then _ _ _ _ c.bump-p-in-70.ensures
    (see _ _ _ _ c.at.ensures
    (rw c.if-at.false
    (then _ _ _ _ c.list-p.ensures
    (past _ _ _ _ c.expected-p-in-70.ensures
    (passed _ _ _ _ c.completed-p-in-70.ensures
    (ends _ _ _))))))))

pub more-returns-in-55 : goal.more-returns-in-55
unfolding I.reset_stmt I.barrier I.alias_stmt I.delay_stmt P.arg_list_gate_call_qubits
more-returns-in-55 t c =
    rw c.in-55.is
    (then _ _ _ _ c.version_string-p.ensures
    (ends _ _ _))

pub more-returns-in-56 : goal.more-returns-in-56
unfolding I.reset_stmt I.barrier I.alias_stmt I.delay_stmt P.arg_list_gate_call_qubits
more-returns-in-56 t c =
    rw c.in-56.is
    (then _ _ _ _ c.include-p.ensures
    (ends _ _ _))

pub more-returns-in-81 : goal.more-returns-in-81
unfolding I.reset_stmt I.barrier I.alias_stmt I.delay_stmt P.arg_list_gate_call_qubits
more-returns-in-81 t c =
    rw c.in-81.is
    (then _ _ _ _ c.sw-p.ensures
    (ends _ _ _))

pub more-returns-in-66 : goal.more-returns-in-66
unfolding I.reset_stmt I.barrier I.alias_stmt I.delay_stmt P.arg_list_gate_call_qubits
more-returns-in-66 t c =
    rw c.in-66.is
    (simp (assoc, cond-bind, done-bind)
    (then _ _ _ _ c.must-p.ensures
    (then _ _ _ _ c.bump_any-p.ensures
    (then _ _ _ _ c.name_r-p.ensures
    (past _ _ _ _ c.expected-p-in-66.ensures
    (then _ _ _ _ c.expr_bp-p.ensures
    (past _ _ _ _ c.expected-p-in-66-2.ensures
    (passed _ _ _ _ c.completed-p-in-66.ensures
    (ends _ _ _)))))))))

pub more-returns-in-63 : goal.more-returns-in-63
unfolding I.reset_stmt I.barrier I.alias_stmt I.delay_stmt P.arg_list_gate_call_qubits
more-returns-in-63 t c =
    rw c.in-63.is
    (simp (assoc, cond-bind, done-bind)
    (then _ _ _ _ c.bump-p-in-63.ensures
    (then _ _ _ _ c.width-p.ensures
    (then _ _ _ _ c.list-p-in-63.ensures
    (past _ _ _ _ c.expected-p-in-63.ensures
    (passed _ _ _ _ c.completed-p-in-63.ensures
    (ends _ _ _)))))))

pub more-returns-in-84 : goal.more-returns-in-84
unfolding I.reset_stmt I.barrier I.alias_stmt I.delay_stmt P.arg_list_gate_call_qubits
more-returns-in-84 t c =
    rw c.in-84.is
    (then _ _ _ _ c.io-p.ensures
    (ends _ _ _))

pub more-returns-in-85 : goal.more-returns-in-85
unfolding I.reset_stmt I.barrier I.alias_stmt I.delay_stmt P.arg_list_gate_call_qubits
more-returns-in-85 t c =
    rw c.in-85.is
    (then _ _ _ _ c.io-p-in-85.ensures
    (ends _ _ _))

pub more-returns-in_default : goal.more-returns-in_default
unfolding I.reset_stmt I.barrier I.alias_stmt I.delay_stmt P.arg_list_gate_call_qubits
more-returns-in_default t c =
    rw (ne_eqb c.args.first RESET-KW (search rules))
    (rw (ne_eqb c.args.first BARRIER-KW (search rules))
    (rw (ne_eqb c.args.first O-P-E-N-Q-A-S-M-KW (search rules))
    (rw (ne_eqb c.args.first INCLUDE-KW (search rules))
    (rw (ne_eqb c.args.first SWITCH-KW (search rules))
    (rw (ne_eqb c.args.first LET-KW (search rules))
    (rw (ne_eqb c.args.first DELAY-KW (search rules))
    (rw (ne_eqb c.args.first INPUT-KW (search rules))
    (rw (ne_eqb c.args.first OUTPUT-KW (search rules))
    (ends _ _ _)))))))))

-- `opt`

pub opt-returns-then-declares : goal.opt-returns-then-declares
unfolding I.opt_item I.qubit_declaration_stmt E.qubit_type_spec I.while_stmt I.cal
opt-returns-then-declares t c =
    peek _ _ _ _ _ c.nth-p.ensures
    (peek _ _ _ _ _ c.current-p.ensures
    (rw (sym c.declares.ensures ∙ c.if-declares.true)
    (then _ _ _ _ c.decl-p.ensures
    (ends _ _ _))))

pub opt-returns-then-at : goal.opt-returns-then-at
unfolding I.opt_item I.qubit_declaration_stmt E.qubit_type_spec I.while_stmt I.cal
opt-returns-then-at t c =
    peek _ _ _ _ _ c.nth-p.ensures
    (peek _ _ _ _ _ c.current-p.ensures
    (rw (sym c.declares.ensures ∙ c.if-declares.false)
    (peek _ _ _ _ _ c.current-p-2.ensures
    (rw c.in-90.is
    (simp (assoc, cond-bind, done-bind)
    (then _ _ _ _ c.must-p.ensures
    (then _ _ _ _ c.must-p-in-90.ensures
    (step _ _ _ _ c.start-p.ensures
    (then _ _ _ _ c.type_name-p.ensures
    (see _ _ _ _ c.at.ensures
    (rw c.if-at.true
    (then _ _ _ _ c.width-p.ensures
    (then _ _ _ _ c.fail_if_at-p.ensures
    (passed _ _ _ _ c.completed-p.ensures
    (then _ _ _ _ c.qubit_end-p.ensures
    (ends _ _ _))))))))))))))))

pub opt-returns-in-90 : goal.opt-returns-in-90
unfolding I.opt_item I.qubit_declaration_stmt E.qubit_type_spec I.while_stmt I.cal
opt-returns-in-90 t c =
    peek _ _ _ _ _ c.nth-p.ensures
    (peek _ _ _ _ _ c.current-p.ensures
    (rw (sym c.declares.ensures ∙ c.if-declares.false)
    (peek _ _ _ _ _ c.current-p-2.ensures
    (rw c.in-90.is
    (simp (assoc, cond-bind, done-bind)
    (then _ _ _ _ c.must-p.ensures
    (then _ _ _ _ c.must-p-in-90.ensures
    (step _ _ _ _ c.start-p.ensures
    (then _ _ _ _ c.type_name-p.ensures
    (see _ _ _ _ c.at.ensures
    (rw c.if-at.false
    (passed _ _ _ _ c.completed-p-in-90.ensures
    (then _ _ _ _ c.qubit_end-p-in-90.ensures
    (ends _ _ _))))))))))))))

pub opt-returns-in-69 : goal.opt-returns-in-69
unfolding I.opt_item I.qubit_declaration_stmt E.qubit_type_spec I.while_stmt I.cal
opt-returns-in-69 t c =
    peek _ _ _ _ _ c.nth-p.ensures
    (peek _ _ _ _ _ c.current-p.ensures
    (rw (sym c.declares.ensures ∙ c.if-declares.false)
    (peek _ _ _ _ _ c.current-p-2.ensures
    (rw c.in-69.is
    (then _ _ _ _ c.decl-p-in-69.ensures
    (ends _ _ _))))))

pub opt-returns-in-62 : goal.opt-returns-in-62
unfolding I.opt_item I.qubit_declaration_stmt E.qubit_type_spec I.while_stmt I.cal
opt-returns-in-62 t c =
    peek _ _ _ _ _ c.nth-p.ensures
    (peek _ _ _ _ _ c.current-p.ensures
    (rw (sym c.declares.ensures ∙ c.if-declares.false)
    (peek _ _ _ _ _ c.current-p-2.ensures
    (rw c.in-62.is
    (then _ _ _ _ c.gdef-p.ensures
    (ends _ _ _))))))

pub opt-returns-in-79 : goal.opt-returns-in-79
unfolding I.opt_item I.qubit_declaration_stmt E.qubit_type_spec I.while_stmt I.cal
opt-returns-in-79 t c =
    peek _ _ _ _ _ c.nth-p.ensures
    (peek _ _ _ _ _ c.current-p.ensures
    (rw (sym c.declares.ensures ∙ c.if-declares.false)
    (peek _ _ _ _ _ c.current-p-2.ensures
    (rw c.in-79.is
    (then _ _ _ _ c.break_-p.ensures
    (ends _ _ _))))))

pub opt-returns-in-77 : goal.opt-returns-in-77
unfolding I.opt_item I.qubit_declaration_stmt E.qubit_type_spec I.while_stmt I.cal
opt-returns-in-77 t c =
    peek _ _ _ _ _ c.nth-p.ensures
    (peek _ _ _ _ _ c.current-p.ensures
    (rw (sym c.declares.ensures ∙ c.if-declares.false)
    (peek _ _ _ _ _ c.current-p-2.ensures
    (rw c.in-77.is
    (then _ _ _ _ c.continue_-p.ensures
    (ends _ _ _))))))

pub opt-returns-in-80 : goal.opt-returns-in-80
unfolding I.opt_item I.qubit_declaration_stmt E.qubit_type_spec I.while_stmt I.cal
opt-returns-in-80 t c =
    peek _ _ _ _ _ c.nth-p.ensures
    (peek _ _ _ _ _ c.current-p.ensures
    (rw (sym c.declares.ensures ∙ c.if-declares.false)
    (peek _ _ _ _ _ c.current-p-2.ensures
    (rw c.in-80.is
    (then _ _ _ _ c.end_-p.ensures
    (ends _ _ _))))))

pub opt-returns-in-72 : goal.opt-returns-in-72
unfolding I.opt_item I.qubit_declaration_stmt E.qubit_type_spec I.while_stmt I.cal
opt-returns-in-72 t c =
    peek _ _ _ _ _ c.nth-p.ensures
    (peek _ _ _ _ _ c.current-p.ensures
    (rw (sym c.declares.ensures ∙ c.if-declares.false)
    (peek _ _ _ _ _ c.current-p-2.ensures
    (rw c.in-72.is
    (then _ _ _ _ c.ifs-p.ensures
    (ends _ _ _))))))

pub opt-returns-in-76 : goal.opt-returns-in-76
unfolding I.opt_item I.qubit_declaration_stmt E.qubit_type_spec I.while_stmt I.cal
opt-returns-in-76 t c =
    peek _ _ _ _ _ c.nth-p.ensures
    (peek _ _ _ _ _ c.current-p.ensures
    (rw (sym c.declares.ensures ∙ c.if-declares.false)
    (peek _ _ _ _ _ c.current-p-2.ensures
    (rw c.in-76.is
    (simp (assoc, cond-bind, done-bind)
    (then _ _ _ _ c.must-p-in-76.ensures
    (then _ _ _ _ c.bump-p.ensures
    (past _ _ _ _ c.expected-p.ensures
    (then _ _ _ _ c.expr_bp-p.ensures
    (past _ _ _ _ c.expected-p-in-76.ensures
    (then _ _ _ _ c.body-p.ensures
    (passed _ _ _ _ c.completed-p-in-76.ensures
    (ends _ _ _)))))))))))))

pub opt-returns-in-74 : goal.opt-returns-in-74
unfolding I.opt_item I.qubit_declaration_stmt E.qubit_type_spec I.while_stmt I.cal
opt-returns-in-74 t c =
    peek _ _ _ _ _ c.nth-p.ensures
    (peek _ _ _ _ _ c.current-p.ensures
    (rw (sym c.declares.ensures ∙ c.if-declares.false)
    (peek _ _ _ _ _ c.current-p-2.ensures
    (rw c.in-74.is
    (then _ _ _ _ c.fors-p.ensures
    (ends _ _ _))))))

pub opt-returns-in-58 : goal.opt-returns-in-58
unfolding I.opt_item I.qubit_declaration_stmt E.qubit_type_spec I.while_stmt I.cal
opt-returns-in-58 t c =
    peek _ _ _ _ _ c.nth-p.ensures
    (peek _ _ _ _ _ c.current-p.ensures
    (rw (sym c.declares.ensures ∙ c.if-declares.false)
    (peek _ _ _ _ _ c.current-p-2.ensures
    (rw c.in-58.is
    (then _ _ _ _ c.def-p.ensures
    (ends _ _ _))))))

pub opt-returns-in-61 : goal.opt-returns-in-61
unfolding I.opt_item I.qubit_declaration_stmt E.qubit_type_spec I.while_stmt I.cal
opt-returns-in-61 t c =
    peek _ _ _ _ _ c.nth-p.ensures
    (peek _ _ _ _ _ c.current-p.ensures
    (rw (sym c.declares.ensures ∙ c.if-declares.false)
    (peek _ _ _ _ _ c.current-p-2.ensures
    (rw c.in-61.is
    (then _ _ _ _ c.dcal-p.ensures
    (ends _ _ _))))))

pub opt-returns-in-60 : goal.opt-returns-in-60
unfolding I.opt_item I.qubit_declaration_stmt E.qubit_type_spec I.while_stmt I.cal
opt-returns-in-60 t c =
    peek _ _ _ _ _ c.nth-p.ensures
    (peek _ _ _ _ _ c.current-p.ensures
    (rw (sym c.declares.ensures ∙ c.if-declares.false)
    (peek _ _ _ _ _ c.current-p-2.ensures
    (rw c.in-60.is
    (simp (assoc, cond-bind, done-bind)
    (then _ _ _ _ c.bump-p-in-60.ensures
    (then _ _ _ _ c.body-p-in-60.ensures
    (passed _ _ _ _ c.completed-p-in-60.ensures
    (ends _ _ _)))))))))

pub opt-returns-in-59 : goal.opt-returns-in-59
unfolding I.opt_item I.qubit_declaration_stmt E.qubit_type_spec I.while_stmt I.cal
opt-returns-in-59 t c =
    peek _ _ _ _ _ c.nth-p.ensures
    (peek _ _ _ _ _ c.current-p.ensures
    (rw (sym c.declares.ensures ∙ c.if-declares.false)
    (peek _ _ _ _ _ c.current-p-2.ensures
    (rw c.in-59.is
    (then _ _ _ _ c.defcalgrammar_-p.ensures
    (ends _ _ _))))))

pub opt-returns-in_default : goal.opt-returns-in_default
unfolding I.opt_item I.qubit_declaration_stmt E.qubit_type_spec I.while_stmt I.cal
opt-returns-in_default t c =
    peek _ _ _ _ _ c.nth-p.ensures
    (peek _ _ _ _ _ c.current-p.ensures
    (rw (sym c.declares.ensures ∙ c.if-declares.false)
    (peek _ _ _ _ _ c.current-p-2.ensures
    (rw (ne_eqb c.current-p-2.result.1 QUBIT-KW (search rules))
    (rw (ne_eqb c.current-p-2.result.1 CONST-KW (search rules))
    (rw (ne_eqb c.current-p-2.result.1 GATE-KW (search rules))
    (rw (ne_eqb c.current-p-2.result.1 BREAK-KW (search rules))
    (rw (ne_eqb c.current-p-2.result.1 CONTINUE-KW (search rules))
    (rw (ne_eqb c.current-p-2.result.1 END-KW (search rules))
    (rw (ne_eqb c.current-p-2.result.1 IF-KW (search rules))
    (rw (ne_eqb c.current-p-2.result.1 WHILE-KW (search rules))
    (rw (ne_eqb c.current-p-2.result.1 FOR-KW (search rules))
    (rw (ne_eqb c.current-p-2.result.1 DEF-KW (search rules))
    (rw (ne_eqb c.current-p-2.result.1 DEFCAL-KW (search rules))
    (rw (ne_eqb c.current-p-2.result.1 CAL-KW (search rules))
    (rw (ne_eqb c.current-p-2.result.1 DEFCALGRAMMAR-KW (search rules))
    c.more.ensures))))))))))))))))

-- `par`

pub par-returns-then-at-2 : goal.par-returns-then-at-2
unfolding P.found_param P.param_typed E.expr_or_range_expr
par-returns-then-at-2 t c =
    rw c.in-Expr.is
    (simp (assoc, cond-bind, done-bind)
    (step _ _ _ _ c.abandon-p.ensures
    (step _ _ _ _ c.start-p.ensures
    (then _ _ _ _ c.expr_bp-p.ensures
    (see _ _ _ _ c.at.ensures
    (rw c.if-at.true
    (then _ _ _ _ c.bump-p.ensures
    (then _ _ _ _ c.expr_bp-p-then-at.ensures
    (see _ _ _ _ c.at-then-at.ensures
    (rw c.if-at-2.true
    (then _ _ _ _ c.bump-p-then-at-2.ensures
    (then _ _ _ _ c.expr_bp-p-then-at-2.ensures
    (passed _ _ _ _ c.completed-p.ensures
    (ends _ _ _))))))))))))))

pub par-returns-then-at : goal.par-returns-then-at
unfolding P.found_param P.param_typed E.expr_or_range_expr
par-returns-then-at t c =
    rw c.in-Expr.is
    (simp (assoc, cond-bind, done-bind)
    (step _ _ _ _ c.abandon-p.ensures
    (step _ _ _ _ c.start-p.ensures
    (then _ _ _ _ c.expr_bp-p.ensures
    (see _ _ _ _ c.at.ensures
    (rw c.if-at.true
    (then _ _ _ _ c.bump-p.ensures
    (then _ _ _ _ c.expr_bp-p-then-at.ensures
    (see _ _ _ _ c.at-then-at.ensures
    (rw c.if-at-2.false
    (passed _ _ _ _ c.completed-p-then-at.ensures
    (ends _ _ _))))))))))))

pub par-returns-in-Expr : goal.par-returns-in-Expr
unfolding P.found_param P.param_typed E.expr_or_range_expr
par-returns-in-Expr t c =
    rw c.in-Expr.is
    (simp (assoc, cond-bind, done-bind)
    (step _ _ _ _ c.abandon-p.ensures
    (step _ _ _ _ c.start-p.ensures
    (then _ _ _ _ c.expr_bp-p.ensures
    (see _ _ _ _ c.at.ensures
    (rw c.if-at.false
    (step _ _ _ _ c.abandon-p-in-Expr.ensures
    (ends _ _ _))))))))

pub par-returns-in-Qubit : goal.par-returns-in-Qubit
unfolding P.found_param P.param_typed E.expr_or_range_expr
par-returns-in-Qubit t c =
    rw c.in-Qubit.is
    c.qarg.ensures

pub par-returns-in-Typed : goal.par-returns-in-Typed
unfolding P.found_param P.param_typed E.expr_or_range_expr
par-returns-in-Typed t c =
    rw c.in-Typed.is
    (then _ _ _ _ c.spec-p.ensures
    (then _ _ _ _ c.var_name-p.ensures
    (passed _ _ _ _ c.completed-p-in-Typed.ensures
    (ends _ _ _))))

pub par-returns-in-Untyped : goal.par-returns-in-Untyped
unfolding P.found_param P.param_typed E.expr_or_range_expr
par-returns-in-Untyped t c =
    rw c.in-Untyped.is
    c.param_untyped.ensures

-- `post`

pub post-loop-calls-init : goal.post-loop-calls-init
post-loop-calls-init t c = (refl, ran-none _ _ _ _)

pub post-returns-then-not-calls : goal.post-returns-then-not-calls
unfolding E.postfix_expr E.postfix_expr_round
post-returns-then-not-calls t c =
    then _ _ _ _ (ran-done _ _ _ _ (c.loop-calls.cm, c.loop-calls.blocky, c.loop-calls.calls) _ _ _ c.loop-calls.invariant.1
    (peek _ _ _ _ _ c.current-p.ensures
    (rw c.if-not-calls.true
    (ends _ _ _))))
    (ends _ _ _)

pub post-loop-calls-smaller-then-here-eq-L_PAREN : goal.post-loop-calls-smaller-then-here-eq-L_PAREN
post-loop-calls-smaller-then-here-eq-L_PAREN t c =
    lt_of_le_of_lt (spent-does _ _ _ c.call-p.ensures)
    (falls-peeks _ _ _ (spends-nth 0) (left-told _ 0 _ c.current-p.ensures (λ z. omega
    (arith, c.if-here-eq-L_PAREN.true))) c.current-p.ensures)

pub post-loop-calls-preserved-then-here-eq-L_PAREN : goal.post-loop-calls-preserved-then-here-eq-L_PAREN
unfolding E.postfix_expr E.postfix_expr_round
post-loop-calls-preserved-then-here-eq-L_PAREN t c = (
  c.call-p.auto.room ∙ c.loop-calls.invariant.0,
  ran-more _ _ _ _ _ _ _ _ c.loop-calls.invariant.1
      (peek _ _ _ _ _ c.current-p.ensures
      (rw c.if-not-calls.false
      (rw (eq-eqb _ _ c.if-here-eq-L_PAREN.true)
      (then _ _ _ _ c.call-p.ensures
      (ends _ _ _)))))
      (lt_of_le_of_lt (spent-does _ _ _ c.call-p.ensures)
      (falls-peeks _ _ _ (spends-nth 0) (left-told _ 0 _ c.current-p.ensures (λ z. omega
      (arith, c.if-here-eq-L_PAREN.true))) c.current-p.ensures)),
)

pub post-loop-calls-smaller : goal.post-loop-calls-smaller
post-loop-calls-smaller t c =
    lt_of_le_of_lt (spent-does _ _ _ c.idx-p.ensures)
    (falls-peeks _ _ _ (spends-nth 0) (left-told _ 0 _ c.current-p.ensures (λ z. omega
    (arith, c.if-here-eq-L_BRACK.true))) c.current-p.ensures)

pub post-loop-calls-preserved : goal.post-loop-calls-preserved
unfolding E.postfix_expr E.postfix_expr_round
post-loop-calls-preserved t c = (
  c.idx-p.auto.room ∙ c.loop-calls.invariant.0,
  ran-more _ _ _ _ _ _ _ _ c.loop-calls.invariant.1
      (peek _ _ _ _ _ c.current-p.ensures
      (rw c.if-not-calls.false
      (rw (ne_eqb _ _ c.if-here-eq-L_PAREN.false)
      (rw (eq-eqb _ _ c.if-here-eq-L_BRACK.true)
      (then _ _ _ _ c.idx-p.ensures
      (ends _ _ _))))))
      (lt_of_le_of_lt (spent-does _ _ _ c.idx-p.ensures)
      (falls-peeks _ _ _ (spends-nth 0) (left-told _ 0 _ c.current-p.ensures (λ z. omega
      (arith, c.if-here-eq-L_BRACK.true))) c.current-p.ensures)),
)

pub post-returns-in-loop-calls : goal.post-returns-in-loop-calls
unfolding E.postfix_expr E.postfix_expr_round
post-returns-in-loop-calls t c =
    then _ _ _ _ (ran-done _ _ _ _ (c.loop-calls.cm, c.loop-calls.blocky, c.loop-calls.calls) _ _ _ c.loop-calls.invariant.1
    (peek _ _ _ _ _ c.current-p.ensures
    (rw c.if-not-calls.false
    (rw (ne_eqb _ _ c.if-here-eq-L_PAREN.false)
    (rw (ne_eqb _ _ c.if-here-eq-L_BRACK.false)
    (ends _ _ _))))))
    (ends _ _ _)

-- `qarg`

pub qarg-returns-then-at : goal.qarg-returns-then-at
unfolding P.arg_gate_call_qubit
qarg-returns-then-at t c =
    simp (assoc, cond-bind, done-bind)
    (see _ _ _ _ c.at.ensures
    (rw c.if-at.true
    (then _ _ _ _ c.bump-p.ensures
    (passed _ _ _ _ c.completed-p.ensures
    (ends _ _ _)))))

pub qarg-returns-then-at-3 : goal.qarg-returns-then-at-3
unfolding P.arg_gate_call_qubit
qarg-returns-then-at-3 t c =
    simp (assoc, cond-bind, done-bind)
    (see _ _ _ _ c.at.ensures
    (rw c.if-at.false
    (see _ _ _ _ c.at-2.ensures
    (rw c.if-at-2.true
    (then _ _ _ _ c.bump-p-then-at-2.ensures
    (step _ _ _ _ c.complete-p.ensures
    (see _ _ _ _ c.at-then-at-2.ensures
    (rw c.if-at-3.true
    (then _ _ _ _ c.ids-p.ensures
    (ends _ _ _))))))))))

pub qarg-returns-then-at-2 : goal.qarg-returns-then-at-2
unfolding P.arg_gate_call_qubit
qarg-returns-then-at-2 t c =
    simp (assoc, cond-bind, done-bind)
    (see _ _ _ _ c.at.ensures
    (rw c.if-at.false
    (see _ _ _ _ c.at-2.ensures
    (rw c.if-at-2.true
    (then _ _ _ _ c.bump-p-then-at-2.ensures
    (step _ _ _ _ c.complete-p.ensures
    (see _ _ _ _ c.at-then-at-2.ensures
    (rw c.if-at-3.false
    (ends _ _ _)))))))))

pub qarg-returns : goal.qarg-returns
unfolding P.arg_gate_call_qubit
qarg-returns t c =
    simp (assoc, cond-bind, done-bind)
    (see _ _ _ _ c.at.ensures
    (rw c.if-at.false
    (see _ _ _ _ c.at-2.ensures
    (rw c.if-at-2.false
    (step _ _ _ _ c.error-p.ensures
    (step _ _ _ _ c.abandon-p.ensures
    (ends _ _ _)))))))

-- `range`

pub range-returns-then-at-2 : goal.range-returns-then-at-2
unfolding E.range_expr
range-returns-then-at-2 t c =
    simp (assoc, cond-bind, done-bind)
    (step _ _ _ _ c.start-p.ensures
    (then _ _ _ _ c.must-p.ensures
    (then _ _ _ _ c.bump-p.ensures
    (then _ _ _ _ c.expr_bp-p.ensures
    (see _ _ _ _ c.at.ensures
    (rw c.if-at.true
    (then _ _ _ _ c.bump-p-then-at.ensures
    (then _ _ _ _ c.expr_bp-p-then-at.ensures
    (see _ _ _ _ c.at-then-at.ensures
    (rw c.if-at-2.true
    (then _ _ _ _ c.bump-p-then-at-2.ensures
    (then _ _ _ _ c.expr_bp-p-then-at-2.ensures
    c.close.ensures))))))))))))

pub range-returns-then-at : goal.range-returns-then-at
unfolding E.range_expr
range-returns-then-at t c =
    simp (assoc, cond-bind, done-bind)
    (step _ _ _ _ c.start-p.ensures
    (then _ _ _ _ c.must-p.ensures
    (then _ _ _ _ c.bump-p.ensures
    (then _ _ _ _ c.expr_bp-p.ensures
    (see _ _ _ _ c.at.ensures
    (rw c.if-at.true
    (then _ _ _ _ c.bump-p-then-at.ensures
    (then _ _ _ _ c.expr_bp-p-then-at.ensures
    (see _ _ _ _ c.at-then-at.ensures
    (rw c.if-at-2.false
    c.close-then-at.ensures))))))))))

pub range-returns : goal.range-returns
unfolding E.range_expr
range-returns t c =
    simp (assoc, cond-bind, done-bind)
    (step _ _ _ _ c.start-p.ensures
    (then _ _ _ _ c.must-p.ensures
    (then _ _ _ _ c.bump-p.ensures
    (then _ _ _ _ c.expr_bp-p.ensures
    (see _ _ _ _ c.at.ensures
    (rw c.if-at.false
    (step _ _ _ _ c.error-p.ensures
    c.close-2.ensures)))))))

-- `rest`

pub rest-returns-then-at : goal.rest-returns-then-at
unfolding I.for_rest
rest-returns-then-at t c =
    simp (assoc, cond-bind, done-bind)
    (passed _ _ _ _ c.completed-p.ensures
    (see _ _ _ _ c.at.ensures
    (rw c.if-at.true
    (then _ _ _ _ c.blk-p.ensures
    (any _ _ _ c.completed.ensures)))))

pub rest-returns : goal.rest-returns
unfolding I.for_rest
rest-returns t c =
    simp (assoc, cond-bind, done-bind)
    (passed _ _ _ _ c.completed-p.ensures
    (see _ _ _ _ c.at.ensures
    (rw c.if-at.false
    (then _ _ _ _ c.stmt-p.ensures
    (any _ _ _ c.completed-2.ensures)))))

-- `ret`

pub ret-returns-then-begins : goal.ret-returns-then-begins
unfolding A.return_expr
ret-returns-then-begins t c =
    simp (assoc, cond-bind, done-bind)
    (then _ _ _ _ c.must-p.ensures
    (step _ _ _ _ c.start-p.ensures
    (then _ _ _ _ c.bump_any-p.ensures
    (peek _ _ _ _ _ c.at_ts-p.ensures
    (rw c.if-begins.true
    (then _ _ _ _ c.expr_bp-p.ensures
    (any _ _ _ c.complete.ensures)))))))

pub ret-returns : goal.ret-returns
unfolding A.return_expr
ret-returns t c =
    simp (assoc, cond-bind, done-bind)
    (then _ _ _ _ c.must-p.ensures
    (step _ _ _ _ c.start-p.ensures
    (then _ _ _ _ c.bump_any-p.ensures
    (peek _ _ _ _ _ c.at_ts-p.ensures
    (rw c.if-begins.false
    (any _ _ _ c.complete-2.ensures))))))

-- `scal`

pub scal-returns-then-at : goal.scal-returns-then-at
unfolding E.non_array_type_spec
scal-returns-then-at t c =
    simp (assoc, cond-bind, done-bind)
    (see _ _ _ _ c.at.ensures
    (rw c.if-at.true
    c.cplx.ensures))

pub scal-returns-then-at-2 : goal.scal-returns-then-at-2
unfolding E.non_array_type_spec
scal-returns-then-at-2 t c =
    simp (assoc, cond-bind, done-bind)
    (see _ _ _ _ c.at.ensures
    (rw c.if-at.false
    (step _ _ _ _ c.start-p.ensures
    (then _ _ _ _ c.type_name-p.ensures
    (see _ _ _ _ c.at-2.ensures
    (rw c.if-at-2.true
    (then _ _ _ _ c.width-p.ensures
    (any _ _ _ c.completed.ensures))))))))

pub scal-returns : goal.scal-returns
unfolding E.non_array_type_spec
scal-returns t c =
    simp (assoc, cond-bind, done-bind)
    (see _ _ _ _ c.at.ensures
    (rw c.if-at.false
    (step _ _ _ _ c.start-p.ensures
    (then _ _ _ _ c.type_name-p.ensures
    (see _ _ _ _ c.at-2.ensures
    (rw c.if-at-2.false
    (any _ _ _ c.completed-2.ensures)))))))

-- `set`

pub set-returns : goal.set-returns
unfolding E.set_expression
set-returns t c =
    then _ _ _ _ c.must-p.ensures
    (step _ _ _ _ c.start-p.ensures
    (then _ _ _ _ c.bump-p.ensures
    (then _ _ _ _ c.els-p.ensures
    (then _ _ _ _ c.bump-p-2.ensures
    (any _ _ _ c.completed.ensures)))))

-- `sig`

pub sig-returns-then-is_type : goal.sig-returns-then-is_type
unfolding I.signature G.opt_ret_type
sig-returns-then-is_type t c =
    simp (assoc, cond-bind, done-bind)
    (see _ _ _ _ c.at.ensures
    (rw c.if-at.true
    (step _ _ _ _ c.start-p.ensures
    (then _ _ _ _ c.bump-p.ensures
    (then _ _ _ _ c.scalar_return-p.ensures
    (peek _ _ _ _ _ c.current-p.ensures
    (rw (sym c.is_type.ensures ∙ c.if-is_type.true)
    (then _ _ _ _ c.spec-p.ensures
    (passed _ _ _ _ c.completed-p.ensures
    (then _ _ _ _ c.body-p.ensures
    (any _ _ _ c.completed.ensures)))))))))))

pub sig-returns-then-at : goal.sig-returns-then-at
unfolding I.signature G.opt_ret_type
sig-returns-then-at t c =
    simp (assoc, cond-bind, done-bind)
    (see _ _ _ _ c.at.ensures
    (rw c.if-at.true
    (step _ _ _ _ c.start-p.ensures
    (then _ _ _ _ c.bump-p.ensures
    (then _ _ _ _ c.scalar_return-p.ensures
    (peek _ _ _ _ _ c.current-p.ensures
    (rw (sym c.is_type.ensures ∙ c.if-is_type.false)
    (step _ _ _ _ c.abandon-p.ensures
    (then _ _ _ _ c.body-p-then-at.ensures
    (any _ _ _ c.completed-then-at.ensures))))))))))

pub sig-returns : goal.sig-returns
unfolding I.signature G.opt_ret_type
sig-returns t c =
    simp (assoc, cond-bind, done-bind)
    (see _ _ _ _ c.at.ensures
    (rw c.if-at.false
    (then _ _ _ _ c.body-p-2.ensures
    (any _ _ _ c.completed-2.ensures))))

-- `spec`

pub spec-returns-then-level-eq0 : goal.spec-returns-then-level-eq0
unfolding counted
spec-returns-then-level-eq0 t c =
    rw c.if-level-eq0.true
    (any _ _ _ c.stop.ensures)

pub spec-loop-d-init : goal.spec-loop-d-init
spec-loop-d-init t c = (refl, ran-none _ _ _ _)

pub spec-returns-then-at-2 : goal.spec-returns-then-at-2
unfolding E.type_spec E.array_type_spec E.array_type_spec_round
spec-returns-then-at-2 t c =
    type_spec-deeper _ _ _ _ c.if-level-eq0.false
    (see _ _ _ _ c.at.ensures
    (rw c.if-at.true
    (then _ _ _ _ c.must-p.ensures
    (step _ _ _ _ c.start-p.ensures
    (then _ _ _ _ c.bump_any-p.ensures
    (then _ _ _ _ c.expect-p.ensures
    (then _ _ _ _ c.array_base-p.ensures
    (then _ _ _ _ c.spec-p.ensures
    (then _ _ _ _ c.expect-q.ensures
    (then _ _ _ _ (ran-done _ _ _ _ _ _ _ _ c.loop-d.invariant.1
    (then _ _ _ _ c.expr_bp-p.ensures
    (see _ _ _ _ c.at-in-loop-d.ensures
    (rw c.if-at-2.true
    (then _ _ _ _ c.bump_any-p-then-at-2.ensures
    (ends _ _ _))))))
    (step _ _ _ _ c.complete-p.ensures
    (ends _ _ _))))))))))))

pub spec-returns-then-stopped : goal.spec-returns-then-stopped
unfolding E.type_spec E.array_type_spec E.array_type_spec_round
spec-returns-then-stopped t c =
    type_spec-deeper _ _ _ _ c.if-level-eq0.false
    (see _ _ _ _ c.at.ensures
    (rw c.if-at.true
    (then _ _ _ _ c.must-p.ensures
    (step _ _ _ _ c.start-p.ensures
    (then _ _ _ _ c.bump_any-p.ensures
    (then _ _ _ _ c.expect-p.ensures
    (then _ _ _ _ c.array_base-p.ensures
    (then _ _ _ _ c.spec-p.ensures
    (then _ _ _ _ c.expect-q.ensures
    (then _ _ _ _ (ran-done _ _ _ _ _ _ _ _ c.loop-d.invariant.1
    (then _ _ _ _ c.expr_bp-p.ensures
    (see _ _ _ _ c.at-in-loop-d.ensures
    (rw c.if-at-2.false
    (then _ _ _ _ c.expect-p-in-loop-d.ensures
    (ask _ _ _ c.stopped.ensures
    (rw c.if-stopped.true
    (ends _ _ _))))))))
    (step _ _ _ _ c.complete-p-then-stopped.ensures
    (ends _ _ _))))))))))))

pub spec-loop-d-smaller : goal.spec-loop-d-smaller
spec-loop-d-smaller t c =
    lt_of_le_of_lt (spent-does _ _ _ c.expect-p-in-loop-d.ensures)
    (falls _ _ _ (expr_bp-spends _ _ _ _ _) (omega (
      arith,
      left-asked c.expect-p-in-loop-d.result.0
          (sym c.stopped.ensures ∙ c.if-stopped.false),
      spent-does _ _ _ c.expect-p-in-loop-d.ensures,
      spent-does _ _ _
          c.expr_bp-p.ensures,
    )) c.expr_bp-p.ensures)

pub spec-loop-d-preserved : goal.spec-loop-d-preserved
unfolding E.type_spec E.array_type_spec E.array_type_spec_round
spec-loop-d-preserved t c = (
  c.expect-p-in-loop-d.auto.room ∙ c.expr_bp-p.auto.room ∙ c.loop-d.invariant.0,
  ran-more _ _ _ _ _ _ _ _ c.loop-d.invariant.1
      (then _ _ _ _ c.expr_bp-p.ensures
      (see _ _ _ _ c.at-in-loop-d.ensures
      (rw c.if-at-2.false
      (then _ _ _ _ c.expect-p-in-loop-d.ensures
      (ask _ _ _ c.stopped.ensures
      (rw c.if-stopped.false
      (ends _ _ _)))))))
      (lt_of_le_of_lt (spent-does _ _ _ c.expect-p-in-loop-d.ensures)
      (falls _ _ _ (expr_bp-spends _ _ _ _ _) (omega (
        arith,
        left-asked c.expect-p-in-loop-d.result.0
            (sym c.stopped.ensures ∙ c.if-stopped.false),
        spent-does _ _ _ c.expect-p-in-loop-d.ensures,
        spent-does _ _ _
            c.expr_bp-p.ensures,
      )) c.expr_bp-p.ensures)),
)

pub spec-returns : goal.spec-returns
unfolding E.type_spec E.array_type_spec E.array_type_spec_round
spec-returns t c =
    type_spec-deeper _ _ _ _ c.if-level-eq0.false
    (see _ _ _ _ c.at.ensures
    (rw c.if-at.false
    c.scal.ensures))

-- `stmt`

pub stmt-returns-then-level-eq0 : goal.stmt-returns-then-level-eq0
unfolding counted
stmt-returns-then-level-eq0 t c =
    rw c.if-level-eq0.true
    (any _ _ _ c.stop.ensures)

pub stmt-returns-then-eaten : goal.stmt-returns-then-eaten
unfolding E.stmt E.let_stmt E.no_item
stmt-returns-then-eaten t c =
    stmt-deeper _ _ _ _ c.if-level-eq0.false
    (then _ _ _ _ c.eat-p.ensures
    (rw c.if-eaten.true
    (ends _ _ _)))

pub stmt-returns-then-at : goal.stmt-returns-then-at
unfolding E.stmt E.let_stmt E.no_item
stmt-returns-then-at t c =
    stmt-deeper _ _ _ _ c.if-level-eq0.false
    (then _ _ _ _ c.eat-p.ensures
    (rw c.if-eaten.false
    (see _ _ _ _ c.at.ensures
    (rw c.if-at.true
    (step _ _ _ _ c.start-p.ensures
    (then _ _ _ _ c.bump-p.ensures
    (past _ _ _ _ c.expected-p.ensures
    (past _ _ _ _ c.expected-p-then-at.ensures
    (then _ _ _ _ c.expr_bp-p.ensures
    c.close.ensures)))))))))

pub stmt-returns-then-at-2 : goal.stmt-returns-then-at-2
unfolding E.stmt E.let_stmt E.no_item
stmt-returns-then-at-2 t c =
    stmt-deeper _ _ _ _ c.if-level-eq0.false
    (then _ _ _ _ c.eat-p.ensures
    (rw c.if-eaten.false
    (see _ _ _ _ c.at.ensures
    (rw c.if-at.false
    (step _ _ _ _ c.start-p-2.ensures
    (then _ _ _ _ c.opt-p.ensures
    (rw c.in-Err.is
    (see _ _ _ _ c.at-in-Err.ensures
    (rw c.if-at-2.true
    (then _ _ _ _ c.bump_any-p.ensures
    (any _ _ _ c.completed.ensures)))))))))))

pub stmt-returns-then-at-3 : goal.stmt-returns-then-at-3
unfolding E.stmt E.let_stmt E.no_item
stmt-returns-then-at-3 t c =
    stmt-deeper _ _ _ _ c.if-level-eq0.false
    (then _ _ _ _ c.eat-p.ensures
    (rw c.if-eaten.false
    (see _ _ _ _ c.at.ensures
    (rw c.if-at.false
    (step _ _ _ _ c.start-p-2.ensures
    (then _ _ _ _ c.opt-p.ensures
    (rw c.in-Err.is
    (see _ _ _ _ c.at-in-Err.ensures
    (rw c.if-at-2.false
    (see _ _ _ _ c.at-in-Err-2.ensures
    (rw c.if-at-3.true
    (then _ _ _ _ c.bump_any-p-then-at-3.ensures
    (any _ _ _ c.completed-then-at-3.ensures)))))))))))))

pub stmt-returns-then-lacks : goal.stmt-returns-then-lacks
unfolding E.stmt E.let_stmt E.no_item
stmt-returns-then-lacks t c =
    stmt-deeper _ _ _ _ c.if-level-eq0.false
    (then _ _ _ _ c.eat-p.ensures
    (rw c.if-eaten.false
    (see _ _ _ _ c.at.ensures
    (rw c.if-at.false
    (step _ _ _ _ c.start-p-2.ensures
    (then _ _ _ _ c.opt-p.ensures
    (rw c.in-Err.is
    (see _ _ _ _ c.at-in-Err.ensures
    (rw c.if-at-2.false
    (see _ _ _ _ c.at-in-Err-2.ensures
    (rw c.if-at-3.false
    (peek _ _ _ _ _ c.stmt_lacks_expr-p.ensures
    (rw c.if-lacks.true
    (then _ _ _ _ c.err_and_bump-p.ensures
    (any _ _ _ c.abandon.ensures)))))))))))))))

pub stmt-returns-in-Ok : goal.stmt-returns-in-Ok
unfolding E.stmt E.let_stmt E.no_item
stmt-returns-in-Ok t c =
    stmt-deeper _ _ _ _ c.if-level-eq0.false
    (then _ _ _ _ c.eat-p.ensures
    (rw c.if-eaten.false
    (see _ _ _ _ c.at.ensures
    (rw c.if-at.false
    (step _ _ _ _ c.start-p-2.ensures
    (then _ _ _ _ c.opt-p.ensures
    (rw c.in-Ok.is
    (ends _ _ _))))))))

pub stmt-returns-in-None : goal.stmt-returns-in-None
unfolding E.stmt E.let_stmt E.no_item
stmt-returns-in-None t c =
    stmt-deeper _ _ _ _ c.if-level-eq0.false
    (then _ _ _ _ c.eat-p.ensures
    (rw c.if-eaten.false
    (see _ _ _ _ c.at.ensures
    (rw c.if-at.false
    (step _ _ _ _ c.start-p-2.ensures
    (then _ _ _ _ c.opt-p.ensures
    (rw c.in-Err.is
    (see _ _ _ _ c.at-in-Err.ensures
    (rw c.if-at-2.false
    (see _ _ _ _ c.at-in-Err-2.ensures
    (rw c.if-at-3.false
    (peek _ _ _ _ _ c.stmt_lacks_expr-p.ensures
    (rw c.if-lacks.false
    (then _ _ _ _ c.expr_bp-p-in-Err.ensures
    (rw c.in-None.is
    (ends _ _ _))))))))))))))))

pub stmt-returns-in-Some : goal.stmt-returns-in-Some
unfolding E.stmt E.let_stmt E.no_item
stmt-returns-in-Some t c =
    stmt-deeper _ _ _ _ c.if-level-eq0.false
    (then _ _ _ _ c.eat-p.ensures
    (rw c.if-eaten.false
    (see _ _ _ _ c.at.ensures
    (rw c.if-at.false
    (step _ _ _ _ c.start-p-2.ensures
    (then _ _ _ _ c.opt-p.ensures
    (rw c.in-Err.is
    (see _ _ _ _ c.at-in-Err.ensures
    (rw c.if-at-2.false
    (see _ _ _ _ c.at-in-Err-2.ensures
    (rw c.if-at-3.false
    (peek _ _ _ _ _ c.stmt_lacks_expr-p.ensures
    (rw c.if-lacks.false
    (then _ _ _ _ c.expr_bp-p-in-Err.ensures
    (rw c.in-Some.is
    c.stmt_end.ensures)))))))))))))))

-- `sts`

pub sts-loop-level-init : goal.sts-loop-level-init
sts-loop-level-init t c = (refl, ran-none _ _ _ _)

pub sts-loop-level-smaller : goal.sts-loop-level-smaller
sts-loop-level-smaller t c =
    falls _ _ _ (stmt-spends _ _) (left-goes _ _ _ (sym c.goes_on.ensures ∙ c.loop-level-test.true)) c.stmt-q.ensures

pub sts-loop-level-preserved : goal.sts-loop-level-preserved
unfolding E.expr_block_contents E.expr_block_contents_round
sts-loop-level-preserved t c = (
  c.stmt-q.auto.room ∙ c.loop-level.invariant.0,
  ran-more _ _ _ _ _ _ _ _ c.loop-level.invariant.1
      (go _ _ _ _ c.goes_on.ensures
      (rw c.loop-level-test.true
      (then _ _ _ _ c.stmt-q.ensures
      (ends _ _ _))))
      (falls _ _ _ (stmt-spends _ _) (left-goes _ _ _ (sym c.goes_on.ensures ∙ c.loop-level-test.true)) c.stmt-q.ensures),
)

pub sts-returns : goal.sts-returns
unfolding E.expr_block_contents E.expr_block_contents_round
sts-returns t c =
    ran-done _ _ _ _ _ _ _ _ c.loop-level.invariant.1
    (go _ _ _ _ c.goes_on.ensures
    (rw c.loop-level-test.false
    (ends _ _ _)))

-- `subs`

pub subs-returns-then-at : goal.subs-returns-then-at
unfolding E.index_operator
subs-returns-then-at t c =
    simp (assoc, cond-bind, done-bind)
    (then _ _ _ _ c.must-p.ensures
    (step _ _ _ _ c.start-p.ensures
    (past _ _ _ _ c.expected-p.ensures
    (see _ _ _ _ c.at.ensures
    (rw c.if-at.true
    (then _ _ _ _ c.set-p.ensures
    c.close.ensures))))))

pub subs-returns : goal.subs-returns
unfolding E.index_operator
subs-returns t c =
    simp (assoc, cond-bind, done-bind)
    (then _ _ _ _ c.must-p.ensures
    (step _ _ _ _ c.start-p.ensures
    (past _ _ _ _ c.expected-p.ensures
    (see _ _ _ _ c.at.ensures
    (rw c.if-at.false
    (then _ _ _ _ c.els-p.ensures
    c.close-2.ensures))))))

-- `sw`

pub sw-loop-room-init : goal.sw-loop-room-init
sw-loop-room-init t c = (refl, ran-none _ _ _ _)

pub sw-loop-room-smaller : goal.sw-loop-room-smaller
sw-loop-room-smaller t c =
    lt_of_le_of_lt (spent-steps _ _ c.completed-q.ensures)
    (lt_of_le_of_lt (spent-does _ _ _ c.body-p.ensures)
    (lt_of_le_of_lt (spent-does _ _ _ c.els-p.ensures)
    (falls-after _ _ _ _ (spends-bump _) (left-sees _ _ CASE-KW (λ z. omega arith) (sym c.at.ensures ∙ c.loop-room-test.true))
    (spent-steps _ _ c.start-p.ensures) c.bump-p-in-loop-room.ensures)))

pub sw-loop-room-preserved : goal.sw-loop-room-preserved
unfolding I.switch_case_stmt I.switch_case_stmt_round
sw-loop-room-preserved t c = (
  c.completed-q.auto.room ∙ c.body-p.auto.room ∙ c.els-p.auto.room ∙ c.bump-p-in-loop-room.auto.room ∙ c.start-p.auto.room ∙
      c.loop-room.invariant.0,
  ran-more _ _ _ _ _ _ _ _ c.loop-room.invariant.1
      (see _ _ _ _ c.at.ensures
      (rw c.loop-room-test.true
      (step _ _ _ _ c.start-p.ensures
      (then _ _ _ _ c.bump-p-in-loop-room.ensures
      (then _ _ _ _ c.els-p.ensures
      (then _ _ _ _ c.body-p.ensures
      (passed _ _ _ _ c.completed-q.ensures
      (ends _ _ _))))))))
      (lt_of_le_of_lt (spent-steps _ _ c.completed-q.ensures)
      (lt_of_le_of_lt (spent-does _ _ _ c.body-p.ensures)
      (lt_of_le_of_lt (spent-does _ _ _ c.els-p.ensures)
      (falls-after _ _ _ _ (spends-bump _) (left-sees _ _ CASE-KW (λ z. omega arith) (sym c.at.ensures ∙ c.loop-room-test.true))
      (spent-steps _ _ c.start-p.ensures) c.bump-p-in-loop-room.ensures)))),
)

pub sw-returns-then-eaten : goal.sw-returns-then-eaten
unfolding I.switch_case_stmt I.switch_case_stmt_round
sw-returns-then-eaten t c =
    simp (assoc, cond-bind, done-bind)
    (then _ _ _ _ c.must-p.ensures
    (then _ _ _ _ c.bump-p.ensures
    (past _ _ _ _ c.expected-p.ensures
    (then _ _ _ _ c.expr_bp-p.ensures
    (past _ _ _ _ c.expected-p-2.ensures
    (past _ _ _ _ c.expected-p-3.ensures
    (then _ _ _ _ c.fail_unless_at-q.ensures
    (then _ _ _ _ (ran-done _ _ _ _ _ _ _ _ c.loop-room.invariant.1
    (see _ _ _ _ c.at.ensures
    (rw c.loop-room-test.false
    (ends _ _ _))))
    (then _ _ _ _ c.eat-p.ensures
    (rw c.if-eaten.true
    (then _ _ _ _ c.body-p-then-eaten.ensures
    c.close.ensures)))))))))))

pub sw-returns : goal.sw-returns
unfolding I.switch_case_stmt I.switch_case_stmt_round
sw-returns t c =
    simp (assoc, cond-bind, done-bind)
    (then _ _ _ _ c.must-p.ensures
    (then _ _ _ _ c.bump-p.ensures
    (past _ _ _ _ c.expected-p.ensures
    (then _ _ _ _ c.expr_bp-p.ensures
    (past _ _ _ _ c.expected-p-2.ensures
    (past _ _ _ _ c.expected-p-3.ensures
    (then _ _ _ _ c.fail_unless_at-q.ensures
    (then _ _ _ _ (ran-done _ _ _ _ _ _ _ _ c.loop-room.invariant.1
    (see _ _ _ _ c.at.ensures
    (rw c.loop-room-test.false
    (ends _ _ _))))
    (then _ _ _ _ c.eat-p.ensures
    (rw c.if-eaten.false
    c.close-2.ensures))))))))))

-- `tup`

pub tup-loop-saw-init : goal.tup-loop-saw-init
tup-loop-saw-init t c = (refl, ran-none _ _ _ _)

pub tup-returns-in_default : goal.tup-returns-in_default
unfolding A.tuple_expr A.tuple_expr_round
tup-returns-in_default t c =
    then _ _ _ _ c.must-p.ensures
    (step _ _ _ _ c.start-p.ensures
    (past _ _ _ _ c.expected-p.ensures
    (then _ _ _ _ c.tuple_comma-q.ensures
    (then _ _ _ _ (ran-done _ _ _ _ _ _ _ _ c.loop-saw.invariant.1
    (go _ _ _ _ c.goes_on.ensures
    (rw c.loop-saw-test.true
    (then _ _ _ _ c.expr_bp-p.ensures
    (rw c.in_default.is
    (ends _ _ _))))))
    c.tuple_end.ensures))))

pub tup-loop-saw-smaller : goal.tup-loop-saw-smaller
tup-loop-saw-smaller t c =
    lt_of_le_of_lt (spent-does _ _ _ c.tuple_next-p.ensures)
    (falls _ _ _ (expr_bp-spends _ _ _ _ _) (left-goes _ _ _ (sym c.goes_on.ensures ∙ c.loop-saw-test.true)) c.expr_bp-p.ensures)

pub tup-loop-saw-preserved : goal.tup-loop-saw-preserved
unfolding A.tuple_expr A.tuple_expr_round
tup-loop-saw-preserved t c = (
  c.tuple_next-p.auto.room ∙ c.expr_bp-p.auto.room ∙ c.loop-saw.invariant.0,
  ran-more _ _ _ _ _ _ _ _ c.loop-saw.invariant.1
      (go _ _ _ _ c.goes_on.ensures
      (rw c.loop-saw-test.true
      (then _ _ _ _ c.expr_bp-p.ensures
      (rw c.in-Some.is
      (then _ _ _ _ c.tuple_next-p.ensures
      (ends _ _ _))))))
      (lt_of_le_of_lt (spent-does _ _ _ c.tuple_next-p.ensures)
      (falls _ _ _ (expr_bp-spends _ _ _ _ _) (left-goes _ _ _ (sym c.goes_on.ensures ∙ c.loop-saw-test.true)) c.expr_bp-p.ensures)),
)

pub tup-returns : goal.tup-returns
unfolding A.tuple_expr A.tuple_expr_round
tup-returns t c =
    then _ _ _ _ c.must-p.ensures
    (step _ _ _ _ c.start-p.ensures
    (past _ _ _ _ c.expected-p.ensures
    (then _ _ _ _ c.tuple_comma-q.ensures
    (then _ _ _ _ (ran-done _ _ _ _ _ _ _ _ c.loop-saw.invariant.1
    (go _ _ _ _ c.goes_on.ensures
    (rw c.loop-saw-test.false
    (ends _ _ _))))
    c.tuple_end-2.ensures))))

-- `width`

pub width-returns : goal.width-returns
unfolding E.designator
width-returns t c =
    then _ _ _ _ c.must-p.ensures
    (step _ _ _ _ c.start-p.ensures
    (then _ _ _ _ c.bump-p.ensures
    (then _ _ _ _ c.literal_designator-p.ensures
    (then _ _ _ _ c.expr_bp-p.ensures
    c.close.ensures))))
