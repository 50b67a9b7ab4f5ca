-- src/grammar/expressions/atom.rs handles its markers well: a lemma for each definition. Assumes nothing.
use Rattle.std.specs.Prelude.{Option, Some, None}
use mathlib.Core.List.{[], ◌∷◌}
use mathlib.Core.Bool.{Bool, true, false, not, ◌&&◌, cond}
use Prim.Native.Nat.{ℕ}
use lib.Dec.{T, eqb}
use Rattle.kinds.specs.Membership.{one_of}
use Rattle.kinds.specs.Kinds.{SEMICOLON, COMMA, AT, L-PAREN, R-PAREN, L-BRACK, R-BRACK, L-CURLY, R-CURLY, IDENT, HARDWAREIDENT, STRING, GPHASE-KW, INV-KW, POW-KW, CTRL-KW, NEGCTRL-KW, MEASURE-KW, RETURN-KW, BOX-KW, LITERAL, TIMING-LITERAL, IDENTIFIER, HARDWARE-QUBIT, PAREN-EXPR, ARRAY-EXPR, CAST-EXPRESSION, G-PHASE-CALL-EXPR, GATE-CALL-EXPR, MODIFIED-GATE-CALL-EXPR, INV-MODIFIER, POW-MODIFIER, CTRL-MODIFIER, NEG-CTRL-MODIFIER, MEASURE-EXPRESSION, BLOCK-EXPR, RETURN-EXPR, BOX-EXPR}
use Rattle.kinds.specs.Sets.{EXPR-FIRST, CLASSICAL-TYPES, QUBIT-FIRST, LITERAL-FIRST, TIMING-LITERAL-FIRST}
use Rattle.kinds.specs.Messages.{UNEXPECTED-STRING-LITERAL, ATOM-EXPR-EXPECTED-EXPRESSION}
use Rattle.runtime.specs.declared.parser.Completed.{Completed}
use Rattle.runtime.specs.Acts.{Acts, Acts.done, ◌>>=◌, current, nth, Turn, Turn.more, Turn.last}
use Rattle.grammar.specs.declared.Next.{Next}
use Rattle.grammar.specs.declared.Next.TheVariants.{Semi, Comma, Stop}
use Rattle.grammar.specs.Grammar.{Counted}
use Rattle.grammar.specs.Atom.{identifier, hardware_qubit, timing, node, literal, inv_modifier, no_argument, tuple_comma, tuple_next, tuple_kind, tuple_end, first_semicolon, array_next, array_end, cast_expr, gphase_call_expr, gate_call_expr, modifier, modified_gate_call_expr_round, modified_gate_call_expr, measure_expression, tuple_expr_round, tuple_expr, array_expr_round, array_expr, block_expr, try_block_expr, return_expr, box_expr, atom_of, atom_expr}
use Rattle.markers.proofs.Marks.{Marker.fresh}
use Rattle.markers.proofs.Safe.{node_kind}
use Rattle.markers.proofs.Calculus.{Run, none, then, also, ends, if, run_look, run_at, run-at-ts, run-eat, run-bump, run-bump-any, run-expect, run-error, run-must, run-goes-on, turns, run-repeats, run-err-recover, opening, closing-under, closed, made_of, answered, unread, unasked, perhaps}
use Rattle.markers.proofs.Counted.{gotten, Tidy}
use Rattle.markers.proofs.OfGrammar.{fail-if-at}
use Rattle.markers.proofs.OfExpressions.{expr-tidy, expr-block-contents, call-arg-list}
use Rattle.markers.proofs.OfParams.{gate-call-qubits, arg-gate-call-qubit}

identifier-made : Run [] identifier made_of
unfolding identifier
identifier-made = opening _ (λ m. also _ _ (run-expect IDENT tt) (λ b. answered m IDENTIFIER tt))

pub hardware-qubit : Run [] hardware_qubit made_of
unfolding hardware_qubit
hardware-qubit = opening _ (λ m. also _ _ (run-bump HARDWAREIDENT) (λ u. answered m HARDWARE-QUBIT tt))

timing-tidy : Run [] timing none
unfolding timing
timing-tidy = also _ _ (run-at-ts TIMING-LITERAL-FIRST) (λ b. perhaps (not b) _ (run-error _ 0 tt))

node-got : (m : Acts Completed) → Run [] m made_of → Run [] (node m) gotten
node-got m h = then m _ made_of h (λ cm. ends _ gotten)

literal-got : Run [] literal gotten
unfolding literal
literal-got =
    also _ _ (run-at-ts LITERAL-FIRST)
    (λ first. if first _ _
    (also _ _ (fail-if-at STRING UNEXPECTED-STRING-LITERAL tt) (λ u. opening _ (λ m. also _ _ (run_look 1)
    (λ k. if (eqb k IDENT) _ _
    (also _ _ timing-tidy (λ u. opening _ (λ m2. also _ _ run-bump-any (λ u. closing-under m LITERAL _ tt (λ c. also _ _ (unasked _ identifier-made) (λ c. then _ _ made_of (answered m2 TIMING-LITERAL tt) (λ cm. ends (Some (cm, false)) gotten)))))))
    (also _ _ run-bump-any (λ u. then _ _ made_of (answered m LITERAL tt) (λ cm. ends (Some (cm, false)) gotten)))))))
    (ends None gotten))

inv-modifier : Run [] inv_modifier none
unfolding inv_modifier
inv-modifier =
    opening _ (λ m1. also _ _ (run-bump INV-KW) (λ u. also _ _ (run_at 0 AT)
    (λ b. also _ _ (if b _ _ (run-bump AT) (also _ _ (run_at 0 L-PAREN) (λ b. if b _ _ (run-error _ 0 tt) (run-error _ 0 tt)))) (λ u. closed m1 INV-MODIFIER tt))))

no-argument : (kw : ℕ) → Run [] (no_argument kw) none
unfolding no_argument
no-argument kw = perhaps (eqb kw POW-KW) _ (run-error _ 0 tt)

tuple-comma : Run [] tuple_comma none
unfolding tuple_comma
tuple-comma = also _ _ (run-eat COMMA) (λ comma. also _ _ (perhaps comma _ (run-error _ 0 tt)) (λ u. ends comma none))

tuple-next : (comma : Bool) → Run [] (tuple_next comma) none
unfolding tuple_next
tuple-next comma = also _ _ (run_at 0 R-PAREN) (λ b. if b _ _ (ends comma none) (also _ _ (run-expect COMMA tt) (λ b. ends true none)))

tuple-kind : (saw comma : Bool) → T (node_kind (tuple_kind saw comma))
unfolding tuple_kind
tuple-kind true true = tt
tuple-kind true false = tt
tuple-kind false true = tt
tuple-kind false false = tt

tuple-end : (m : ℕ) (saw comma : Bool) → Run (fresh m ∷ []) (tuple_end m saw comma) made_of
unfolding tuple_end
tuple-end m saw comma = also _ _ (run-expect R-PAREN tt) (λ b. answered m (tuple_kind saw comma) (tuple-kind saw comma))

first-semicolon : (first : Bool) → Run [] (first_semicolon first) none
unfolding first_semicolon
first-semicolon first = if first _ _ (run-eat SEMICOLON) (ends false none)

array-next : (first semi : Bool) → Run [] (array_next first semi) none
unfolding array_next
array-next first semi =
    also _ _ (first-semicolon first)
    (λ now. if now _ _ (ends Semi none)
    (if semi _ _ (ends Stop none)
    (also _ _ (run_at 0 R-BRACK) (λ b. if b _ _ (ends Comma none) (also _ _ (run-expect COMMA tt) (λ comma. if comma _ _ (ends Comma none) (ends Stop none)))))))

array-end : (m : ℕ) → Run (fresh m ∷ []) (array_end m) made_of
unfolding array_end
array-end m = also _ _ (run-expect R-BRACK tt) (λ b. answered m ARRAY-EXPR tt)

module _ (deeper : Counted) (h : Tidy deeper) where
  cast-expr : Run [] (cast_expr deeper) made_of
  unfolding cast_expr
  cast-expr = opening _ (λ m. also _ _ h.type-spec (λ u. also _ _ (run-expect L-PAREN tt) (λ b. also _ _ (expr-tidy deeper h) (λ g. also _ _ (run-expect R-PAREN tt) (λ b. answered m CAST-EXPRESSION tt)))))

  gphase-call-expr : Run [] (gphase_call_expr deeper) made_of
  unfolding gphase_call_expr
  gphase-call-expr = also _ _ (run-must GPHASE-KW) (λ u. opening _ (λ m. also _ _ (run-bump GPHASE-KW) (λ u. also _ _ (expr-tidy deeper h) (λ g. answered m G-PHASE-CALL-EXPR tt))))

  gate-call-expr : Run [] (gate_call_expr deeper) made_of
  unfolding gate_call_expr
  gate-call-expr =
      opening _ (λ m. also _ _ (unasked _ identifier-made) (λ c. also _ _ (run_at 0 L-PAREN) (λ b. also _ _ (perhaps b _ (call-arg-list deeper h)) (λ u. also _ _ (gate-call-qubits deeper h) (λ u. answered m GATE-CALL-EXPR tt)))))

  modifier-tidy : (kw kind : ℕ) → T (node_kind kind) → Run [] (modifier deeper kw kind) none
  unfolding modifier
  modifier-tidy kw kind t =
      opening _ (λ m1. also _ _ (run-bump kw) (λ u. also _ _ (run_at 0 L-PAREN)
      (λ b. also _ _
      (if b _ _ (opening _ (λ m2. also _ _ (run-expect L-PAREN tt) (λ b. also _ _ (expr-tidy deeper h) (λ g. also _ _ (run-expect R-PAREN tt) (λ b. closed m2 PAREN-EXPR tt))))) (no-argument kw))
      (λ u. also _ _ (run-expect AT tt) (λ b. closed m1 kind t)))))

  modified-round : (x : Unit {0}) → Run [] (modified_gate_call_expr_round deeper x) (turns none)
  unfolding modified_gate_call_expr_round
  modified-round x =
      also _ _ (run_look 0)
      (λ k. if (eqb k INV-KW) _ _ (also _ _ inv-modifier (λ u. ends _ _))
      (if (eqb k POW-KW) _ _ (also _ _ (modifier-tidy POW-KW POW-MODIFIER tt) (λ u. ends _ _))
      (if (eqb k CTRL-KW) _ _ (also _ _ (modifier-tidy CTRL-KW CTRL-MODIFIER tt) (λ u. ends _ _))
      (if (eqb k NEGCTRL-KW) _ _ (also _ _ (modifier-tidy NEGCTRL-KW NEG-CTRL-MODIFIER tt) (λ u. ends _ _)) (ends _ _)))))

  modified-gate-call-expr : Run [] (modified_gate_call_expr deeper) made_of
  unfolding modified_gate_call_expr
  modified-gate-call-expr =
      opening _ (λ m. also _ _ (run-repeats _ none modified-round tt) (λ u. also _ _ (run_at 0 GPHASE-KW) (λ b. also _ _ (if b _ _ (unasked _ gphase-call-expr) (unasked _ gate-call-expr)) (λ c. answered m MODIFIED-GATE-CALL-EXPR tt))))

  measure-expression : Run [] (measure_expression deeper) made_of
  unfolding measure_expression
  measure-expression =
      opening _ (λ m. also _ _ (run-bump MEASURE-KW) (λ u. also _ _ (run_look 0)
      (λ k. also _ _ (if (one_of QUBIT-FIRST k) _ _ (opening _ (λ m1. unread _ (arg-gate-call-qubit deeper h m1))) (run-error _ 0 tt)) (λ u. answered m MEASURE-EXPRESSION tt))))

  tuple-round : (x : Bool × Bool) → Run [] (tuple_expr_round deeper x) (turns none)
  unfolding tuple_expr_round
  tuple-round x = also _ _ (run-goes-on R-PAREN) (λ go. if go _ _ (also _ _ (expr-tidy deeper h) by) (ends _ _))
    where
      by : (g : (Option (Completed × Bool))) → Run {A = Turn (Bool × Bool)} [] (elim g [
        | None ↦ done (last (true, x.1))
        | Some (cm, block) ↦ (tuple_next x.1 >>= (λ comma. done (more (true, comma))))
      ]) (turns none)
      by None = ends _ _
      by (Some (cm, block)) = also _ _ (tuple-next x.1) (λ comma. ends _ _)

  tuple-expr : Run [] (tuple_expr deeper) made_of
  unfolding tuple_expr
  tuple-expr = also _ _ (run-must L-PAREN) (λ u. opening _ (λ m. also _ _ (run-expect L-PAREN tt) (λ b. also _ _ tuple-comma (λ comma. also _ _ (run-repeats _ none tuple-round (false, comma)) (λ x. tuple-end m x.0 x.1)))))

  array-round : (x : Bool × Bool) → Run [] (array_expr_round deeper x) (turns none)
  unfolding array_expr_round
  array-round x = also _ _ (run-goes-on R-BRACK) (λ go. if go _ _ (also _ _ (expr-tidy deeper h) by) (ends _ _))
    where
      on : (next : Next) → Run {A = Turn (Bool × Bool)} [] (elim next [ Semi ↦ done (more (false, true)) | Comma ↦ done (more (false, x.1)) | Stop ↦ done (last x) ]) (turns none)
      on Semi = ends _ _
      on Comma = ends _ _
      on Stop = ends _ _

      by : (g : (Option (Completed × Bool))) → Run {A = Turn (Bool × Bool)} [] (elim g [
        | None ↦ done (last x)
        | Some (cm, block) ↦ (array_next x.0 x.1 >>= (λ next. elim next [ Semi ↦ done (more (false, true)) | Comma ↦ done (more (false, x.1)) | Stop ↦ done (last x) ]))
      ]) (turns none)
      by None = ends _ _
      by (Some (cm, block)) = also _ _ (array-next x.0 x.1) on

  array-expr : Run [] (array_expr deeper) made_of
  unfolding array_expr
  array-expr = also _ _ (run-must L-BRACK) (λ u. opening _ (λ m. also _ _ (run-bump L-BRACK) (λ u. also _ _ (run-repeats _ none array-round (true, false)) (λ x. array-end m))))

  pub block-expr : Run [] (block_expr deeper) made_of
  unfolding block_expr
  block-expr = also _ _ (run-must L-CURLY) (λ u. opening _ (λ m. also _ _ (run-bump L-CURLY) (λ u. also _ _ (expr-block-contents deeper h) (λ u. also _ _ (run-expect R-CURLY tt) (λ b. answered m BLOCK-EXPR tt)))))

  pub try-block-expr : Run [] (try_block_expr deeper) none
  unfolding try_block_expr
  try-block-expr = also _ _ (run_at 0 L-CURLY) (λ b. if b _ _ (unread _ (unasked _ block-expr)) (run-error _ 0 tt))

  return-expr : Run [] (return_expr deeper) made_of
  unfolding return_expr
  return-expr = also _ _ (run-must RETURN-KW) (λ u. opening _ (λ m. also _ _ run-bump-any (λ u. also _ _ (run-at-ts EXPR-FIRST) (λ b. also _ _ (perhaps b _ (unread _ (expr-tidy deeper h))) (λ u. answered m RETURN-EXPR tt)))))

  box-expr : Run [] (box_expr deeper) made_of
  unfolding box_expr
  box-expr = also _ _ (run-must BOX-KW) (λ u. opening _ (λ m. also _ _ (run-bump BOX-KW) (λ u. also _ _ (run-at-ts EXPR-FIRST) (λ b. also _ _ (perhaps b _ (unread _ (expr-tidy deeper h))) (λ u. answered m BOX-EXPR tt)))))

  atom-of : (k la : ℕ) → Run [] (atom_of deeper k la) gotten
  unfolding atom_of
  atom-of k la =
      if (eqb k HARDWAREIDENT) _ _ (node-got _ hardware-qubit)
      (if (eqb k L-PAREN) _ _ (node-got _ tuple-expr)
      (if (eqb k L-BRACK) _ _ (node-got _ array-expr)
      (if (eqb k BOX-KW) _ _ (node-got _ box-expr)
      (if (eqb k MEASURE-KW) _ _ (node-got _ measure-expression)
      (if (eqb k RETURN-KW) _ _ (node-got _ return-expr)
      (if (eqb k L-CURLY) _ _ (node-got _ block-expr)
      (if (one_of (INV-KW ∷ POW-KW ∷ CTRL-KW ∷ NEGCTRL-KW ∷ []) k) _ _ (node-got _ modified-gate-call-expr)
      (if (eqb k GPHASE-KW) _ _ (node-got _ gphase-call-expr)
      (if (eqb k IDENT && one_of QUBIT-FIRST la) _ _ (node-got _ gate-call-expr)
      (if (eqb k IDENT) _ _ (node-got _ identifier-made) (also _ _ (run-err-recover ATOM-EXPR-EXPECTED-EXPRESSION _ tt) (λ u. ends None gotten))))))))))))

  pub atom-expr : Run [] (atom_expr deeper) gotten
  unfolding atom_expr
  atom-expr = then _ _ gotten literal-got by
    where
      by : (g : (Option (Completed × Bool))) → Run (gotten g) (elim g [
        | Some (cm, block) ↦ done (Some (cm, false))
        | None ↦ (nth 1 >>= (λ la. current >>= (λ k. cond (one_of CLASSICAL-TYPES k) (cast_expr deeper >>= (λ cm. done (Some (cm, false)))) (current >>= (λ k. atom_of deeper k la)))))
      ]) gotten
      by (Some (cm, block)) = ends (Some (cm, false)) gotten
      by None =
          also _ _ (run_look 1) (λ la. also _ _ (run_look 0)
          (λ k. if (one_of CLASSICAL-TYPES k) _ _ (then _ _ made_of cast-expr (λ cm. ends (Some (cm, false)) gotten)) (also _ _ (run_look 0) (λ k. atom-of k la))))
