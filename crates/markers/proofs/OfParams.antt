-- src/grammar/params.rs handles its markers well: a lemma for each definition. Assumes nothing.
use mathlib.Core.List.{[], ◌∷◌}
use mathlib.Core.Bool.{Bool, true, false, ◌&&◌}
use Prim.Native.Nat.{ℕ}
use lib.Dec.{T, ltb}
use Rattle.kinds.specs.Membership.{one_of}
use Rattle.kinds.specs.Kinds.{EOF, COMMA, L-PAREN, R-PAREN, L-BRACK, IDENT, HARDWAREIDENT, HARDWARE-QUBIT, IDENTIFIER, PARAM, TYPED-PARAM}
use Rattle.kinds.specs.Sets.{TYPES, PARAM-FIRST}
use Rattle.grammar.specs.declared.DefFlavor.{DefFlavor}
use Rattle.grammar.specs.declared.DefFlavor.TheVariants.{GateParams, GateQubits, GateCallQubits, DefParams, DefCalParams, DefCalQubits, ExpressionList}
use Rattle.grammar.specs.declared.Shape.{Shape}
use Rattle.grammar.specs.declared.How.{How}
use Rattle.grammar.specs.declared.How.TheVariants.{Expr, Qubit, Typed, Untyped}
use Rattle.grammar.specs.Grammar.{Counted}
use Rattle.grammar.specs.Params.{param_untyped, shape_of, list_open, at_list_end, list_goes, param_ahead, list_next, list_empty, list_end, param_typed, arg_gate_call_qubit, found_param, param_list_openqasm_round, param_list_openqasm, param_list_gate_params, param_list_gate_qubits, arg_list_gate_call_qubits, param_list_def_params, param_list_defcal_params, param_list_defcal_qubits, expression_list}
use Rattle.markers.proofs.Marks.{Marker.fresh}
use Rattle.markers.proofs.Safe.{node_kind}
use Rattle.markers.proofs.Calculus.{Run, none, then, also, ends, if, forget, run_look, run_at, run-at-ts, run-bump, run-expect, run-error, run-repeats, opening, closing, dropping, closed, made_of, answered, unread, unasked, perhaps}
use Rattle.markers.proofs.Counted.{Tidy}
use Rattle.markers.proofs.OfExpressions.{var-name, expr-or-range-expr, indexed-identifier}

param-untyped : (m : ℕ) → Run (fresh m ∷ []) (param_untyped m) none
unfolding param_untyped
param-untyped m =
    also _ _ (run_at 0 IDENT)
    (λ b. if b _ _ (also _ _ (run-bump IDENT) (λ u. closing m PARAM _ tt (λ c. ends true none))) (also _ _ (run-error _ 0 tt) (λ u. dropping m _ (ends false none))))

run-list_open : (sh : Shape) → Run [] (list_open sh) (λ i. fresh i ∷ [])
unfolding list_open
run-list_open sh = opening _ (λ list. also _ _ (perhaps sh.parens _ (run-bump L-PAREN)) (λ u. ends list (λ i. fresh i ∷ [])))

at-list-end : (sh : Shape) → Run [] (at_list_end sh) none
unfolding at_list_end
at-list-end sh = also _ _ (run_at 0 sh.end) (λ b. if b _ _ (ends true none) (run_at 0 sh.end2))

list-goes : (sh : Shape) → Run [] (list_goes sh) none
unfolding list_goes
list-goes sh = also _ _ (run_at 0 EOF) (λ b. if b _ _ (ends false none) (also _ _ (at-list-end sh) (λ end. ends _ none)))

param-ahead : Run [] param_ahead none
unfolding param_ahead
param-ahead = also _ _ (run_look 0) (λ k. if (one_of TYPES k) _ _ (ends true none) (run-at-ts PARAM-FIRST))

list-next : (sh : Shape) → Run [] (list_next sh) none
unfolding list_next
list-next sh =
    also _ _ (at-list-end sh)
    (λ end. if end _ _ (ends false none)
    (also _ _ (run_at 0 COMMA)
    (λ b. if b _ _ (also _ _ (run-bump COMMA) (λ u. ends true none))
    (also _ _ (run-at-ts PARAM-FIRST) (λ b. if b _ _ (also _ _ (run-error _ 0 tt) (λ u. ends true none)) (ends false none))))))

list-empty : (one : Bool) (n : ℕ) → Run [] (list_empty one n) none
unfolding list_empty
list-empty one n = perhaps (one && ltb n 1) _ (run-error _ 0 tt)

list-end : (list : ℕ) (sh : Shape) (n : ℕ) → T (node_kind sh.node) → Run (fresh list ∷ []) (list_end list sh n) none
unfolding list_end
list-end list sh n t = also _ _ (list-empty sh.one n) (λ u. also _ _ (perhaps sh.parens _ (unread _ (run-expect R-PAREN tt))) (λ u. closed list sh.node t))

-- each list's node has a kind
node-kind : (f : DefFlavor) → T (node_kind (shape_of f).node)
node-kind GateParams = tt
node-kind GateQubits = tt
node-kind GateCallQubits = tt
node-kind DefParams = tt
node-kind DefCalParams = tt
node-kind DefCalQubits = tt
node-kind ExpressionList = tt

module _ (deeper : Counted) (h : Tidy deeper) where
  param-typed : (m : ℕ) → Run (fresh m ∷ []) (param_typed deeper m) none
  unfolding param_typed
  param-typed m = also _ _ h.type-spec (λ u. also _ _ var-name (λ u. closing m TYPED-PARAM _ tt (λ c. ends true none)))

  pub arg-gate-call-qubit : (m : ℕ) → Run (fresh m ∷ []) (arg_gate_call_qubit deeper m) none
  unfolding arg_gate_call_qubit
  arg-gate-call-qubit m =
      also _ _ (run_at 0 HARDWAREIDENT)
      (λ b. if b _ _ (also _ _ (run-bump HARDWAREIDENT) (λ u. closing m HARDWARE-QUBIT _ tt (λ c. ends true none)))
      (also _ _ (run_at 0 IDENT)
      (λ b. if b _ _
      (also _ _ (run-bump IDENT) (λ u. then _ _ made_of (answered m IDENTIFIER tt) (λ mcomp. also _ _ (run_at 0 L-BRACK)
      (λ b. then _ _ none (if b _ _ (unread _ (unasked _ (indexed-identifier deeper h mcomp))) (forget _ (ends tt none))) (λ u. ends true none)))))
      (also _ _ (run-error _ 0 tt) (λ u. dropping m _ (ends false none))))))

  found-param : (how : How) (m : ℕ) → Run (fresh m ∷ []) (found_param deeper how m) none
  unfolding found_param
  found-param Expr m = dropping m _ (also _ _ (expr-or-range-expr deeper h) (λ u. ends true none))
  found-param Qubit m = arg-gate-call-qubit m
  found-param Typed m = param-typed m
  found-param Untyped m = param-untyped m

  param-list : (flavor : DefFlavor) → Run [] (param_list_openqasm deeper flavor) none
  unfolding param_list_openqasm param_list_openqasm_round
  param-list flavor =
      then _ _ (λ i. fresh i ∷ []) (run-list_open (shape_of flavor))
      (λ list. also _ _ (run-repeats _ none (λ n. also _ _ (list-goes (shape_of flavor))
      (λ go. if go _ _
      (opening _ (λ m. also _ _ param-ahead
      (λ first. if first _ _
      (then _ _ none (found-param (shape_of flavor).how m) (λ found. if found _ _ (also _ _ (list-next (shape_of flavor)) (λ another. if another _ _ (ends _ _) (ends _ _))) (ends _ _)))
      (also _ _ (run-error _ 0 tt) (λ u. dropping m _ (ends _ _))))))
      (ends _ _))) 0)
      (λ n. list-end list (shape_of flavor) n (node-kind flavor)))

  pub gate-params : Run [] (param_list_gate_params deeper) none
  unfolding param_list_gate_params
  gate-params = param-list GateParams

  pub gate-qubits : Run [] (param_list_gate_qubits deeper) none
  unfolding param_list_gate_qubits
  gate-qubits = param-list GateQubits

  pub gate-call-qubits : Run [] (arg_list_gate_call_qubits deeper) none
  unfolding arg_list_gate_call_qubits
  gate-call-qubits = param-list GateCallQubits

  pub def-params : Run [] (param_list_def_params deeper) none
  unfolding param_list_def_params
  def-params = param-list DefParams

  pub defcal-params : Run [] (param_list_defcal_params deeper) none
  unfolding param_list_defcal_params
  defcal-params = param-list DefCalParams

  pub defcal-qubits : Run [] (param_list_defcal_qubits deeper) none
  unfolding param_list_defcal_qubits
  defcal-qubits = param-list DefCalQubits

  pub expression-list : Run [] (expression_list deeper) none
  unfolding expression_list
  expression-list = param-list ExpressionList
