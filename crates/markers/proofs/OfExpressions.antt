-- src/grammar/expressions.rs handles its markers well: a lemma for each definition. Assumes nothing.
use Rattle.std.specs.Prelude.{Option, Some, None, Result, Ok, Err}
use mathlib.Core.List.{List, [], ◌∷◌, ◌++◌}
use mathlib.Core.Bool.{Bool, true, false, not, ◌&&◌, cond}
use Prim.Native.Nat.{ℕ}
use lib.Dec.{eqb, ltb}
use Rattle.kinds.specs.Membership.{one_of}
use Rattle.kinds.specs.Kinds.{SEMICOLON, COMMA, COLON, EQ, L-PAREN, R-PAREN, L-BRACK, R-BRACK, L-CURLY, R-CURLY, IDENT, HARDWAREIDENT, PRAGMA, ANNOTATION, LET-KW, ARRAY-KW, QUBIT-KW, COMPLEX-TY, FLOAT-TY, RANGE-EXPR, PRAGMA-STATEMENT, ANNOTATION-STATEMENT, ASSIGNMENT-STMT, EXPR-STMT, LET-STMT, IDENTIFIER, INDEXED-IDENTIFIER, BIN-EXPR, PREFIX-EXPR, GATE-CALL-EXPR, CALL-EXPR, ARRAY-TYPE, SCALAR-TYPE, QUBIT-TYPE, DESIGNATOR, NAME, INDEX-EXPR, SET-EXPRESSION, INDEX-OPERATOR, EXPRESSION-LIST, ARG-LIST}
use Rattle.kinds.specs.Sets.{EXPR-FIRST, EXPR-RECOVERY-SET, CLASSICAL-TYPES, TYPES, QUBIT-FIRST, PREFIX-OPS, ASSIGNABLE, UNINDEXED, ARRAY-BASES, NO-INTEGERS}
use Rattle.kinds.specs.Messages.{EXPR-BP-EXPECTED-EXPRESSION, STMT-EXPECTED-EXPRESSION-TYPE-DECLARATION-OR-LET, EXPECTING-FLOAT-IN-COMPLEX-DESIGNATOR, FOUND-DESIGNATOR-IN-HARDWARE-QUBIT-DECLARATION}
use Rattle.runtime.specs.declared.parser.Completed.{Completed}
use Rattle.runtime.specs.Acts.{Acts.done, ◌>>=◌, ◌>>◌, abandon, extend_to, repeats, Turn.more, Turn.last}
use Rattle.grammar.specs.Grammar.{Counted}
use Rattle.operators.specs.Operators.{Guards, Table, arms, first_at, arm_of, current_op}
use Rattle.grammar.specs.Expressions.{Later, type_name, marker, lacks_expr, assigned, no_assignment, close_op, cast_ahead, stmt_lacks_expr, no_semicolon, stmt_end, literal_designator, array_base, unindexed, args_end, var_name, expr, range_expr, expr_or_range_expr, let_stmt, expr_block_contents_round, expr_block_contents, designator, non_array_type_spec, array_type_spec_round, array_type_spec, type_spec, complex_type_spec, qubit_type_spec, set_expression, index_operator, index_expr, indexed_identifier_round, indexed_identifier, indexed, call_arg_list, call_expr, postfix_expr_round, postfix_expr, lhs, expr_bp_round, expr_bp, no_item, stmt}
use Rattle.markers.proofs.Marks.{Marker.fresh, Marker.made, Marker.shut, Marks}
use Rattle.markers.proofs.Calculus.{Run, none, then, also, from, ends, if, forget, run-start, run-precede, run-extend, run_look, run_at, run-at-ts, run-eat, run-refused, run-bump, run-bump-any, run-expect, run-error, run-must, run-goes-on, turns, run-repeats, run-err-recover, opening, closing, dropping, closed, closed-around, dropped, made_of, answered, answered-around, unread, perhaps}
use Rattle.markers.proofs.Counted.{gotten, handed, unseen, Tidy}
use Rattle.markers.proofs.OfGrammar.{fail-if-at, fail-unless-at, delimited-tidy}

-- the operators
first-at : (ks : List ℕ) (plain : ℕ) → Run [] (first_at ks plain) none
first-at [] plain = ends plain none
first-at (k ∷ ks) plain = also _ _ (run_at 0 k) (λ b. if b _ _ (ends k none) (first-at ks plain))

arm-of : (gs : List Guards) (k : ℕ) → Run [] (arm_of gs k) none
arm-of [] k = ends _ none
arm-of (g ∷ gs) k = if (eqb k g.first) _ _ (first-at g.tried g.plain) (arm-of gs k)

pub current-op : (ops : Table) → Run [] (current_op ops) none
unfolding current_op
current-op ops = also _ _ (run_look 0) (λ k. also _ _ (arm-of arms k) (λ op. ends _ none))

pub type-name : Run [] type_name none
unfolding type_name
type-name = also _ _ (run_look 0) (λ k. if (one_of TYPES k) _ _ (also _ _ (run_look 0) (λ k. run-bump k)) (run-error _ 0 tt))

marker-of : (given : Option ℕ) → Run (handed given) (marker given) (λ m. fresh m ∷ [])
unfolding marker
marker-of (Some m) = ends m (λ i. fresh i ∷ [])
marker-of None = run-start []

lacks-expr : Run [] lacks_expr none
unfolding lacks_expr
lacks-expr =
    also _ _ (run-at-ts EXPR-FIRST)
    (λ b. if b _ _ (ends false none)
    (also _ _ (run_look 0) (λ k. if (one_of CLASSICAL-TYPES k) _ _ (also _ _ (run_look 1) (λ k. ends _ none)) (ends true none))))

assigned-tidy : (prefer : Bool) → Run [] (assigned prefer) none
unfolding assigned
assigned-tidy prefer = perhaps prefer _ (unread _ (run-expect SEMICOLON tt))

no-assignment : (prefer : Bool) → Run [] (no_assignment prefer) none
unfolding no_assignment
no-assignment prefer = perhaps (not prefer) _ (run-error _ 0 tt)

close-op : (prefer : Bool) (k op m : ℕ) → Run (made m ∷ []) (close_op prefer k op m) made_of
unfolding close_op
close-op prefer k op m =
    if (eqb op EQ) _ _
    (also _ _ (no-assignment prefer)
    (λ u. if (one_of ASSIGNABLE k) _ _ (also _ _ (assigned-tidy prefer) (λ v. answered-around m ASSIGNMENT-STMT tt)) (also _ _ (run-error _ 0 tt) (λ v. answered-around m BIN-EXPR tt))))
    (answered-around m BIN-EXPR tt)

cast-ahead : Run [] cast_ahead none
unfolding cast_ahead
cast-ahead =
    also _ _ (run_look 0)
    (λ k. if (one_of CLASSICAL-TYPES k) _ _ (also _ _ (run_look 1) (λ k. if (eqb k L-PAREN) _ _ (ends true none) (also _ _ (run_look 1) (λ k. ends _ none)))) (ends false none))

stmt-lacks-expr : Run [] stmt_lacks_expr none
unfolding stmt_lacks_expr
stmt-lacks-expr = also _ _ cast-ahead (λ b. if b _ _ (ends false none) (also _ _ (run-at-ts EXPR-FIRST) (λ c. ends _ none)))

no-semicolon : (block semi : Bool) → Run [] (no_semicolon block semi) none
unfolding no_semicolon
no-semicolon block semi = perhaps (not block && not semi) _ (run-error _ 0 tt)

stmt-end : (cm : Completed) (block : Bool) → Run (shut cm.pos ∷ []) (stmt_end cm block) none
unfolding stmt_end
stmt-end cm block =
    if (eqb cm.kind ASSIGNMENT-STMT) _ _ (forget _ (ends tt none))
    (also _ _ (run_at 0 R-CURLY)
    (λ b. if b _ _ (forget _ (ends tt none))
    (then _ _ _ (run-precede cm []) (λ m. also _ _ (run-eat SEMICOLON) (λ semi. also _ _ (no-semicolon block semi) (λ u. closed-around m EXPR-STMT tt))))))

literal-designator : Run [] literal_designator none
unfolding literal_designator
literal-designator =
    also _ _ (run_look 0) (λ k. if (one_of NO-INTEGERS k) _ _ (also _ _ (run_look 1) (λ k. perhaps (eqb k R-BRACK) _ (run-error _ 0 tt))) (ends tt none))

array-base : Run [] array_base none
unfolding array_base
array-base = also _ _ (run_look 0) (λ k. perhaps (not (one_of ARRAY-BASES k)) _ (run-error _ 0 tt))

unindexed-tidy : (k : ℕ) → Run [] (unindexed k) none
unfolding unindexed
unindexed-tidy k = perhaps (one_of UNINDEXED k) _ (run-error _ 0 tt)

run-args_end : (m m1 : ℕ) → Run (fresh m1 ∷ fresh m ∷ []) (args_end m m1) none
unfolding args_end
run-args_end m m1 = also _ _ (run-expect R-PAREN tt) (λ b. closing m1 EXPRESSION-LIST _ tt (λ c. closed m ARG-LIST tt))

pub var-name : Run [] var_name none
unfolding var_name
var-name = opening _ (λ m. also _ _ (run_at 0 IDENT) (λ b. also _ _ (if b _ _ run-bump-any (run-error _ 0 tt)) (λ u. closed m NAME tt)))

module _ (deeper : Counted) (h : Tidy deeper) where
  pub expr-got : Run [] (expr deeper) gotten
  expr-got = h.expr-bp None false 1

  pub expr-tidy : Run [] (expr deeper) none
  expr-tidy = unseen _ expr-got

  pub range-expr : Run [] (range_expr deeper) none
  unfolding range_expr
  range-expr =
      opening _ (λ m. also _ _ (run-must L-BRACK) (λ u. also _ _ (run-bump L-BRACK) (λ u. also _ _ expr-tidy (λ g. also _ _ (run_at 0 COLON)
      (λ b. also _ _
      (if b _ _
      (also _ _ (run-bump COLON) (λ u. also _ _ expr-tidy (λ g. also _ _ (run_at 0 COLON) (λ b. perhaps b _ (also _ _ (run-bump COLON) (λ u. unread _ expr-tidy))))))
      (run-error _ 0 tt))
      (λ u. also _ _ (run-expect R-BRACK tt) (λ b. closed m RANGE-EXPR tt)))))))

  pub expr-or-range-expr : Run [] (expr_or_range_expr deeper) none
  unfolding expr_or_range_expr
  expr-or-range-expr =
      opening _ (λ m. also _ _ expr-tidy (λ g. also _ _ (run_at 0 COLON)
      (λ b. if b _ _
      (also _ _ (run-bump COLON) (λ u. also _ _ expr-tidy (λ g. also _ _ (run_at 0 COLON) (λ b. also _ _ (perhaps b _ (also _ _ (run-bump COLON) (λ u. unread _ expr-tidy))) (λ u. closed m RANGE-EXPR tt)))))
      (dropped m))))

  let-stmt : (m : ℕ) → Run (fresh m ∷ []) (let_stmt deeper m) none
  unfolding let_stmt
  let-stmt m = also _ _ (run-bump LET-KW) (λ u. also _ _ (run-expect IDENT tt) (λ b. also _ _ (run-expect EQ tt) (λ b. also _ _ expr-tidy (λ g. also _ _ (run-expect SEMICOLON tt) (λ b. closed m LET-STMT tt)))))

  pub expr-block-contents : Run [] (expr_block_contents deeper) none
  unfolding expr_block_contents expr_block_contents_round
  expr-block-contents = run-repeats _ none (λ x. also _ _ (run-goes-on R-CURLY) (λ go. if go _ _ (also _ _ h.stmt (λ u. ends _ _)) (ends _ _))) tt

  pub designator-tidy : Run [] (designator deeper) none
  unfolding designator
  designator-tidy =
      also _ _ (run-must L-BRACK) (λ u. opening _ (λ m. also _ _ (run-bump L-BRACK) (λ u. also _ _ literal-designator (λ u. also _ _ expr-tidy (λ g. also _ _ (run-expect R-BRACK tt) (λ b. closed m DESIGNATOR tt))))))

  non-array-type-spec : Run [] (non_array_type_spec deeper) none
  unfolding non_array_type_spec
  non-array-type-spec =
      also _ _ (run_at 0 COMPLEX-TY)
      (λ b. if b _ _ h.complex-type-spec
      (opening _ (λ m. also _ _ type-name (λ u. also _ _ (run_at 0 L-BRACK) (λ b. also _ _ (perhaps b _ designator-tidy) (λ u. closed m SCALAR-TYPE tt))))))

  array-type-spec : Run [] (array_type_spec deeper) none
  unfolding array_type_spec array_type_spec_round
  array-type-spec =
      also _ _ (run-must ARRAY-KW) (λ u. opening _ (λ m. also _ _ run-bump-any (λ u. also _ _ (run-expect L-BRACK tt) (λ b. also _ _ array-base (λ u. also _ _ h.type-spec (λ u. also _ _ (run-expect COMMA tt)
      (λ b. also _ _
      (run-repeats _ none (λ x. also _ _ expr-tidy (λ g. also _ _ (run_at 0 R-BRACK) (λ b. if b _ _ (also _ _ run-bump-any (λ u. ends _ _)) (also _ _ (run-expect COMMA tt) (λ b. also _ _ run-refused (λ over. if over _ _ (ends _ _) (ends _ _))))))) tt)
      (λ u. closed m ARRAY-TYPE tt))))))))

  pub type-spec : Run [] (type_spec deeper) none
  unfolding type_spec
  type-spec = also _ _ (run_at 0 ARRAY-KW) (λ b. if b _ _ array-type-spec non-array-type-spec)

  pub complex-type-spec : Run [] (complex_type_spec deeper) none
  unfolding complex_type_spec
  complex-type-spec =
      also _ _ (run-must COMPLEX-TY) (λ u. opening _ (λ m. also _ _ run-bump-any (λ u. also _ _ (run_at 0 L-BRACK)
      (λ b. also _ _
      (perhaps b _ (also _ _ (run-bump L-BRACK) (λ u. also _ _ (fail-unless-at FLOAT-TY EXPECTING-FLOAT-IN-COMPLEX-DESIGNATOR tt) (λ u. also _ _ non-array-type-spec (λ u. unread _ (run-expect R-BRACK tt))))))
      (λ u. closed m SCALAR-TYPE tt)))))

  pub qubit-type-spec : Run [] (qubit_type_spec deeper) none
  unfolding qubit_type_spec
  qubit-type-spec =
      also _ _ (run-must QUBIT-KW) (λ u. opening _ (λ m. also _ _ type-name (λ u. also _ _ (run_at 0 L-BRACK)
      (λ b. also _ _ (perhaps b _ (also _ _ designator-tidy (λ u. fail-if-at HARDWAREIDENT FOUND-DESIGNATOR-IN-HARDWARE-QUBIT-DECLARATION tt))) (λ u. closed m QUBIT-TYPE tt)))))

  pub set-expression : Run [] (set_expression deeper) none
  unfolding set_expression
  set-expression = also _ _ (run-must L-CURLY) (λ u. opening _ (λ m. also _ _ (run-bump L-CURLY) (λ u. also _ _ h.expression-list (λ u. also _ _ (run-bump R-CURLY) (λ u. closed m SET-EXPRESSION tt)))))

  index-operator : Run [] (index_operator deeper) none
  unfolding index_operator
  index-operator =
      also _ _ (run-must L-BRACK) (λ u. opening _ (λ m. also _ _ (run-expect L-BRACK tt) (λ b. also _ _ (run_at 0 L-CURLY) (λ b. also _ _ (if b _ _ set-expression h.expression-list) (λ u. also _ _ (run-expect R-BRACK tt) (λ b. closed m INDEX-OPERATOR tt))))))

  index-expr : (lhs : Completed) → Run (shut lhs.pos ∷ []) (index_expr deeper lhs) made_of
  unfolding index_expr
  index-expr lhs = also _ _ (run-must L-BRACK) (λ u. then _ _ _ (run-precede lhs []) (λ m. also _ _ index-operator (λ u. answered-around m INDEX-EXPR tt)))

  pub indexed-identifier : (lhs : Completed) → Run (shut lhs.pos ∷ []) (indexed_identifier deeper lhs) made_of
  unfolding indexed_identifier indexed_identifier_round
  indexed-identifier lhs =
      also _ _ (run-must L-BRACK) (λ u. then _ _ _ (run-precede lhs []) (λ m. also _ _ (run-repeats _ none (λ x. also _ _ (run_at 0 L-BRACK) (λ b. if b _ _ (also _ _ index-operator (λ u. ends _ _)) (ends _ _))) tt) (λ u. answered-around m INDEXED-IDENTIFIER tt)))

  indexed-tidy : (lhs : Completed) → Run (shut lhs.pos ∷ []) (indexed deeper lhs) made_of
  unfolding indexed
  indexed-tidy lhs = if (eqb lhs.kind IDENTIFIER) _ _ (indexed-identifier lhs) (also _ _ (unindexed-tidy lhs.kind) (λ u. index-expr lhs))

  pub call-arg-list : Run [] (call_arg_list deeper) none
  unfolding call_arg_list
  call-arg-list =
      also _ _ (run-must L-PAREN) (λ u. opening _ (λ m. opening _ (λ m1. also _ _ (run-bump L-PAREN) (λ u. also _ _ (delimited-tidy L-PAREN R-PAREN false COMMA EXPR-FIRST _ tt tt expr-got) (λ u. run-args_end m m1)))))

-- an item that was read took its marker; else it is handed back as it was
abbrev pub untaken : Result (Unit {0}) ℕ → Marks
untaken (Ok x) = []
untaken (Err m) = fresh m ∷ []

-- what is asked of the files that come after
pub record Tidies (l : Later) : Type 0 where
  pub atom-expr : Run [] l.atom_expr gotten
  pub arg-list : Run [] l.arg_list_gate_call_qubits none
  pub opt-item : (m : ℕ) → Run (fresh m ∷ []) (l.opt_item m) untaken

module _ (deeper : Counted) (h : Tidy deeper) (later : Later) (g : Tidies later) where
  call-expr : (cm : Completed) → Run (shut cm.pos ∷ []) (call_expr deeper later cm) made_of
  unfolding call_expr
  call-expr cm =
      also _ _ (run-must L-PAREN) (λ u. then _ _ _ (run-precede cm []) (λ m. also _ _ (call-arg-list deeper h) (λ u. also _ _ (run_look 0)
      (λ k. if (one_of QUBIT-FIRST k) _ _ (also _ _ g.arg-list (λ u. answered-around m GATE-CALL-EXPR tt)) (answered-around m CALL-EXPR tt)))))

  abbrev carried : Completed × Bool × Bool → Marks
  carried x = shut x.0.pos ∷ []

  postfix-round : (x : Completed × Bool × Bool) → Run (carried x) (postfix_expr_round deeper later x) (turns carried)
  unfolding postfix_expr_round
  postfix-round x =
      also _ _ (run_look 0)
      (λ k. if x.2 _ _
      (if (eqb k L-PAREN) _ _ (then _ _ made_of (call-expr x.0) (λ cm. ends (more (cm, false, true)) (turns carried)))
      (if (eqb k L-BRACK) _ _ (then _ _ made_of (indexed-tidy deeper h x.0) (λ cm. ends (more (cm, false, true)) (turns carried))) (ends (last x) (turns carried))))
      (ends (last x) (turns carried)))

  postfix-expr : (cm : Completed) (block calls : Bool) → Run (shut cm.pos ∷ []) (postfix_expr deeper later cm block calls) gotten
  unfolding postfix_expr
  postfix-expr cm block calls = then _ _ carried (run-repeats _ carried postfix-round (cm, block, calls)) (λ x. ends (Some (x.0, x.1)) gotten)

  lhs-got : (prefer : Bool) → Run [] (lhs deeper later prefer) gotten
  unfolding lhs
  lhs-got prefer =
      also _ _ (run_look 0)
      (λ k. if (one_of PREFIX-OPS k) _ _
      (opening _ (λ m. also _ _ run-bump-any (λ u. also _ _ (unseen _ (h.expr-bp None prefer 255)) (λ x. then _ _ made_of (answered m PREFIX-EXPR tt) (λ cm. ends (Some (cm, false)) gotten)))))
      (then _ _ gotten g.atom-expr by))
    where
      by : (x : (Option (Completed × Bool))) → Run (gotten x) (elim x [ None ↦ done None | Some (cm, block) ↦ postfix_expr deeper later cm block (not (prefer && block)) ]) gotten
      by None = ends None gotten
      by (Some (cm, block)) = postfix-expr cm block (not (prefer && block))

  module _ (ops : Table) where
    bp-round : (prefer : Bool) (bp : ℕ) (cm : Completed) → Run (made_of cm) (expr_bp_round deeper later ops prefer bp cm) (turns made_of)
    unfolding expr_bp_round
    bp-round prefer bp cm =
        also _ _ (current-op ops)
        (λ o. if (ltb o.power bp) _ _ (ends (last cm) (turns made_of))
        (then _ _ _ (run-precede cm []) (λ m. also _ _ (run-bump o.kind) (λ u. also _ _ (unseen _ (h.expr-bp None false o.next)) (λ x. then _ _ made_of (close-op prefer cm.kind o.kind m) (λ cm. ends (more cm) (turns made_of)))))))

    pub expr-bp : (given : Option ℕ) (prefer : Bool) (bp : ℕ) → Run (handed given) (expr_bp deeper later ops given prefer bp) gotten
    unfolding expr_bp
    expr-bp given prefer bp =
        then _ _ (λ m. fresh m ∷ []) (marker-of given)
        (λ m. also _ _ lacks-expr
        (λ lacks. if lacks _ _ (also _ _ (run-err-recover EXPR-BP-EXPECTED-EXPRESSION EXPR-RECOVERY-SET tt) (λ u. dropping m _ (ends None gotten)))
        (from _ _ gotten (lhs-got prefer) (by m))))
      where
        by : (m : ℕ) (x : (Option (Completed × Bool))) → Run (gotten x ++ fresh m ∷ []) (elim x [
          | None ↦ (abandon m >> done None)
          | Some (cm, block) ↦ (extend_to cm m >>= (λ cm. cond (prefer && block) (done (Some (cm, true))) (repeats (expr_bp_round deeper later ops prefer bp) cm >>= (λ cm. done (Some (cm, false))))))
        ]) gotten
        by m None = dropping m _ (ends None gotten)
        by m (Some (cm, block)) =
            then _ _ (λ a. shut a.pos ∷ []) (run-extend cm m [])
            (λ cm. if (prefer && block) _ _ (ends (Some (cm, true)) gotten) (then _ _ made_of (run-repeats _ made_of (bp-round prefer bp) cm) (λ cm. ends (Some (cm, false)) gotten)))

  no-item : (m : ℕ) → Run (fresh m ∷ []) (no_item deeper later m) none
  unfolding no_item
  no-item m =
      also _ _ (run_at 0 PRAGMA)
      (λ b. if b _ _ (also _ _ run-bump-any (λ u. closed m PRAGMA-STATEMENT tt))
      (also _ _ (run_at 0 ANNOTATION)
      (λ b. if b _ _ (also _ _ run-bump-any (λ u. closed m ANNOTATION-STATEMENT tt))
      (also _ _ stmt-lacks-expr
      (λ lacks. if lacks _ _ (also _ _ (run-err-recover STMT-EXPECTED-EXPRESSION-TYPE-DECLARATION-OR-LET _ tt) (λ u. dropped m))
      (then _ _ gotten (h.expr-bp (Some m) true 1) by))))))
    where
      by : (x : (Option (Completed × Bool))) → Run {A = Unit {0}} (gotten x) (elim x [ None ↦ done tt | Some (cm, block) ↦ stmt_end cm block ]) none
      by None = ends tt none
      by (Some (cm, block)) = stmt-end cm block

  pub stmt-tidy : Run [] (stmt deeper later) none
  unfolding stmt
  stmt-tidy =
      also _ _ (run-eat SEMICOLON)
      (λ b. if b _ _ (ends tt none)
      (also _ _ (run_at 0 LET-KW)
      (λ b. if b _ _ (opening _ (λ m. let-stmt deeper h m))
      (opening _ (λ m. then _ _ untaken (g.opt-item m) offered)))))
    where
      offered : (x : (Result (Unit {0}) ℕ)) → Run {A = Unit {0}} (untaken x) (elim x [ Ok x ↦ done tt | Err m ↦ no_item deeper later m ]) none
      offered (Ok x) = ends tt none
      offered (Err m) = no-item m
