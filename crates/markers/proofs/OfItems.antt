-- src/grammar/items.rs handles its markers well: a lemma for each definition. Assumes nothing.
use Rattle.std.specs.Prelude.{Result, Ok, Err}
use mathlib.Core.List.{List, [], ◌∷◌}
use mathlib.Core.Bool.{Bool, not, ◌&&◌}
use Prim.Native.Nat.{ℕ}
use lib.Dec.{T, eqb}
use Rattle.kinds.specs.Membership.{one_of}
use Rattle.kinds.specs.Kinds.{EOF, SEMICOLON, EQ, L-PAREN, R-PAREN, L-BRACK, L-CURLY, R-CURLY, HARDWAREIDENT, STRING, FLOAT-NUMBER, BREAK-KW, CONTINUE-KW, END-KW, DEFCALGRAMMAR-KW, INCLUDE-KW, O-P-E-N-Q-A-S-M-KW, CASE-KW, SWITCH-KW, DEFAULT-KW, IF-KW, ELSE-KW, WHILE-KW, FOR-KW, IN-KW, QUBIT-KW, RESET-KW, GATE-KW, DEFCAL-KW, CONST-KW, DEF-KW, CAL-KW, BARRIER-KW, DELAY-KW, LET-KW, BREAK-STMT, CONTINUE-STMT, END-STMT, FILE-PATH, DEF-CAL-GRAMMAR, INCLUDE, VERSION, VERSION-STRING, QUANTUM-DECLARATION-STATEMENT, CASE-EXPR, SWITCH-CASE-STMT, IF-STMT, WHILE-STMT, FOR-ITERABLE, FOR-STMT, RESET, GATE, DEF-CAL, CAST-EXPRESSION, EXPR-STMT, CLASSICAL-DECLARATION-STATEMENT, I-O-DECLARATION-STATEMENT, DEF, CAL, BARRIER, DELAY-STMT, ALIAS-DECLARATION-STATEMENT, ERROR}
use Rattle.kinds.specs.Sets.{ITEM-RECOVERY-SET, CLASSICAL-TYPES, QUBIT-FIRST}
use Rattle.kinds.specs.Messages.{EXPECTED-A-PATH-TO-A-FILE, EXPECTING-CASE-KEYWORD, EXPECTED-STATEMENT-FOUND-SEMICOLON}
use Rattle.runtime.specs.Acts.{Acts}
use Rattle.grammar.specs.Grammar.{Counted}
use Rattle.grammar.specs.Items.{break, continue, end, filepath_r, defcalgrammar, include, skip_to_semicolon, version, version_string, io_type, qubit_end, declares, switch_case_stmt_round, switch_case_stmt, if_stmt, while_stmt, for_rest, for_stmt, qubit_declaration_stmt, reset_stmt, gate_definition, signature, defcal, classical_declaration_stmt, io_declaration_stmt, def_stmt, cal, barrier, delay_stmt, alias_stmt, statements, beginning, opt_item, unmatched, after_item, item, source_file_contents_round, source_file_contents}
use Rattle.markers.proofs.Marks.{Marker.fresh}
use Rattle.markers.proofs.Safe.{node_kind}
use Rattle.markers.proofs.Calculus.{Run, none, frame, then, also, ends, if, run_look, run_at, run-eat, run-bump, run-bump-any, run-expect, run-error, run-must, run-repeats, run-err-recover, opening, closing, dropping, closed, dropped, unread, unasked, perhaps}
use Rattle.markers.proofs.Counted.{Tidy}
use Rattle.markers.proofs.OfGrammar.{fail-unless-at, name-r, opt-ret-type}
use Rattle.markers.proofs.OfExpressions.{var-name, expr-tidy, range-expr, expr-block-contents, designator-tidy, qubit-type-spec, set-expression, untaken}
use Rattle.markers.proofs.OfParams.{arg-gate-call-qubit, gate-params, gate-qubits, gate-call-qubits, def-params, defcal-params, defcal-qubits}
use Rattle.markers.proofs.OfAtom.{hardware-qubit, block-expr, try-block-expr}

break-ends : (m : ℕ) → Run (fresh m ∷ []) (break m) none
unfolding break
break-ends m = also _ _ (run-bump BREAK-KW) (λ u. also _ _ (run-expect SEMICOLON tt) (λ b. closed m BREAK-STMT tt))

continue-ends : (m : ℕ) → Run (fresh m ∷ []) (continue m) none
unfolding continue
continue-ends m = also _ _ (run-must CONTINUE-KW) (λ u. also _ _ (run-bump CONTINUE-KW) (λ u. also _ _ (run-expect SEMICOLON tt) (λ b. closed m CONTINUE-STMT tt)))

end-ends : (m : ℕ) → Run (fresh m ∷ []) (end m) none
unfolding end
end-ends m = also _ _ (run-must END-KW) (λ u. also _ _ (run-bump END-KW) (λ u. also _ _ (run-expect SEMICOLON tt) (λ b. closed m END-STMT tt)))

filepath-r : (recovery : List ℕ) → Run [] (filepath_r recovery) none
unfolding filepath_r
filepath-r recovery = also _ _ (run_at 0 STRING) (λ b. if b _ _ (opening _ (λ m. also _ _ (run-bump STRING) (λ u. closed m FILE-PATH tt))) (run-err-recover EXPECTED-A-PATH-TO-A-FILE recovery tt))

defcalgrammar-ends : (m : ℕ) → Run (fresh m ∷ []) (defcalgrammar m) none
unfolding defcalgrammar
defcalgrammar-ends m = also _ _ (run-bump DEFCALGRAMMAR-KW) (λ u. also _ _ (filepath-r ITEM-RECOVERY-SET) (λ u. also _ _ (run-expect SEMICOLON tt) (λ b. closed m DEF-CAL-GRAMMAR tt)))

include-ends : (m : ℕ) → Run (fresh m ∷ []) (include m) none
unfolding include
include-ends m = also _ _ (run-bump INCLUDE-KW) (λ u. also _ _ (filepath-r ITEM-RECOVERY-SET) (λ u. also _ _ (run-expect SEMICOLON tt) (λ b. closed m INCLUDE tt)))

skip-to-semicolon : (number : Bool) → Run [] (skip_to_semicolon number) none
unfolding skip_to_semicolon
skip-to-semicolon number = if number _ _ (ends tt none) (also _ _ (run_at 0 SEMICOLON) (λ b. perhaps (not b) _ run-bump-any))

version-tidy : Run [] version none
unfolding version
version-tidy = opening _ (λ m. also _ _ (run-expect FLOAT-NUMBER tt) (λ number. also _ _ (skip-to-semicolon number) (λ u. also _ _ (run-expect SEMICOLON tt) (λ b. closed m VERSION tt))))

version-string : (m : ℕ) → Run (fresh m ∷ []) (version_string m) none
unfolding version_string
version-string m = also _ _ (run-bump O-P-E-N-Q-A-S-M-KW) (λ u. also _ _ version-tidy (λ u. closed m VERSION-STRING tt))

io-type : Run [] io_type none
unfolding io_type
io-type = also _ _ (run_look 0) (λ k. perhaps (not (one_of CLASSICAL-TYPES k)) _ (run-error _ 0 tt))

qubit-end : (m : ℕ) → Run (fresh m ∷ []) (qubit_end m) none
unfolding qubit_end
qubit-end m = also _ _ (run_at 0 HARDWAREIDENT) (λ b. also _ _ (if b _ _ (unread _ (unasked _ hardware-qubit)) var-name) (λ u. also _ _ (run-expect SEMICOLON tt) (λ b. closed m QUANTUM-DECLARATION-STATEMENT tt)))

after-item : Run [] after_item none
unfolding after_item
after-item = also _ _ (run_at 0 SEMICOLON) (λ b. perhaps b _ (run-err-recover EXPECTED-STATEMENT-FOUND-SEMICOLON _ tt))

-- each statement takes its marker
abbrev Each : ℕ → List (ℕ × Acts (Unit {0})) → Type 0
Each m [] = Unit {0}
Each m (r ∷ rs) = Run (fresh m ∷ []) r.1 none × Each m rs

module _ (deeper : Counted) (h : Tidy deeper) where
  beginning-ends : (m : ℕ) (rs : List (ℕ × Acts (Unit {0}))) (k : ℕ) → Each m rs → Run (fresh m ∷ []) (beginning deeper m rs k) untaken
  beginning-ends m [] k e = ends (Err m) untaken
  beginning-ends m (r ∷ rs) k e = if (eqb k r.0) _ _ (then _ _ none e.0 (λ u. ends (Ok tt) untaken)) (beginning-ends m rs k e.1)

  switch-case-stmt : (m : ℕ) → Run (fresh m ∷ []) (switch_case_stmt deeper m) none
  unfolding switch_case_stmt switch_case_stmt_round
  switch-case-stmt m =
      also _ _ (run-must SWITCH-KW) (λ u. also _ _ (run-bump SWITCH-KW) (λ u. also _ _ (run-expect L-PAREN tt) (λ b. also _ _ (expr-tidy deeper h) (λ g. also _ _ (run-expect R-PAREN tt) (λ b. also _ _ (run-expect L-CURLY tt)
      (λ b. also _ _ (fail-unless-at CASE-KW EXPECTING-CASE-KEYWORD tt)
      (λ u. also _ _ (run-repeats _ none (λ x. also _ _ (run_at 0 CASE-KW) (λ b. if b _ _ (opening _ (λ m1. also _ _ (run-bump CASE-KW) (λ u. also _ _ h.expression-list (λ u. also _ _ (try-block-expr deeper h) (λ u. closing m1 CASE-EXPR _ tt (λ c. ends _ _)))))) (ends _ _))) tt)
      (λ u. also _ _ (run-eat DEFAULT-KW) (λ b. also _ _ (perhaps b _ (try-block-expr deeper h)) (λ u. also _ _ (run-expect R-CURLY tt) (λ b. closed m SWITCH-CASE-STMT tt)))))))))))

  pub if-stmt : (m : ℕ) → Run (fresh m ∷ []) (if_stmt deeper m) none
  unfolding if_stmt
  if-stmt m =
      also _ _ (run-must IF-KW) (λ u. also _ _ (run-bump IF-KW) (λ u. also _ _ (run-expect L-PAREN tt) (λ b. also _ _ (expr-tidy deeper h) (λ g. also _ _ (run-expect R-PAREN tt) (λ b. also _ _ (try-block-expr deeper h) (λ u. also _ _ (run_at 0 ELSE-KW)
      (λ b. also _ _ (perhaps b _ (also _ _ (run-bump ELSE-KW) (λ u. also _ _ (run_at 0 IF-KW) (λ b. if b _ _ (opening _ (λ m. h.if-stmt m)) (try-block-expr deeper h))))) (λ u. closed m IF-STMT tt))))))))

  while-stmt : (m : ℕ) → Run (fresh m ∷ []) (while_stmt deeper m) none
  unfolding while_stmt
  while-stmt m =
      also _ _ (run-must WHILE-KW) (λ u. also _ _ (run-bump WHILE-KW) (λ u. also _ _ (run-expect L-PAREN tt) (λ b. also _ _ (expr-tidy deeper h) (λ g. also _ _ (run-expect R-PAREN tt) (λ b. also _ _ (try-block-expr deeper h) (λ u. closed m WHILE-STMT tt))))))

  for-rest : (m m1 : ℕ) → Run (fresh m1 ∷ fresh m ∷ []) (for_rest deeper m m1) none
  unfolding for_rest
  for-rest m m1 = closing m1 FOR-ITERABLE _ tt (λ c. also _ _ (run_at 0 L-CURLY) (λ b. also _ _ (if b _ _ (unread _ (unasked _ (block-expr deeper h))) h.stmt) (λ u. closed m FOR-STMT tt)))

  for-stmt : (m : ℕ) → Run (fresh m ∷ []) (for_stmt deeper m) none
  unfolding for_stmt
  for-stmt m =
      also _ _ (run-must FOR-KW) (λ u. also _ _ (run-bump FOR-KW) (λ u. also _ _ h.type-spec (λ u. also _ _ (name-r _) (λ u. also _ _ (run-expect IN-KW tt) (λ b. opening _
      (λ m1. also _ _ (run_at 0 L-CURLY) (λ b. also _ _ (if b _ _ (set-expression deeper h) (also _ _ (run_at 0 L-BRACK) (λ b. if b _ _ (range-expr deeper h) (unread _ (expr-tidy deeper h))))) (λ u. for-rest m m1))))))))

  qubit-declaration-stmt : (m : ℕ) → Run (fresh m ∷ []) (qubit_declaration_stmt deeper m) none
  unfolding qubit_declaration_stmt
  qubit-declaration-stmt m = also _ _ (run-must QUBIT-KW) (λ u. also _ _ (qubit-type-spec deeper h) (λ u. qubit-end m))

  reset-stmt : (m : ℕ) → Run (fresh m ∷ []) (reset_stmt deeper m) none
  unfolding reset_stmt
  reset-stmt m =
      also _ _ (run-bump RESET-KW) (λ u. also _ _ (run_look 0)
      (λ k. if (one_of QUBIT-FIRST k) _ _ (opening _ (λ m1. then _ _ (λ b. fresh m ∷ []) (frame (fresh m1 ∷ []) (fresh m ∷ []) _ none (arg-gate-call-qubit deeper h m1)) (λ b. also _ _ (run-expect SEMICOLON tt) (λ b. closed m RESET tt))))
      (also _ _ (run-error _ 0 tt) (λ u. dropped m))))

  gate-definition : (m : ℕ) → Run (fresh m ∷ []) (gate_definition deeper m) none
  unfolding gate_definition
  gate-definition m =
      also _ _ (run-bump GATE-KW) (λ u. also _ _ (name-r ITEM-RECOVERY-SET) (λ u. also _ _ (run_at 0 L-PAREN) (λ b. also _ _ (perhaps b _ (gate-params deeper h)) (λ u. also _ _ (gate-qubits deeper h) (λ u. also _ _ (try-block-expr deeper h) (λ u. closed m GATE tt))))))

  signature-ends : (m kind : ℕ) → T (node_kind kind) → Run (fresh m ∷ []) (signature deeper m kind) none
  unfolding signature
  signature-ends m kind t = also _ _ (opt-ret-type deeper h) (λ u. also _ _ (try-block-expr deeper h) (λ u. closed m kind t))

  defcal-ends : (m : ℕ) → Run (fresh m ∷ []) (defcal deeper m) none
  unfolding defcal
  defcal-ends m =
      also _ _ (run-bump DEFCAL-KW) (λ u. also _ _ (name-r ITEM-RECOVERY-SET) (λ u. also _ _ (run_at 0 L-PAREN) (λ b. also _ _ (perhaps b _ (defcal-params deeper h)) (λ u. also _ _ (defcal-qubits deeper h) (λ u. signature-ends m DEF-CAL tt)))))

  classical-declaration-stmt : (m : ℕ) → Run (fresh m ∷ []) (classical_declaration_stmt deeper m) none
  unfolding classical_declaration_stmt
  classical-declaration-stmt m =
      also _ _ (run-eat CONST-KW) (λ b. opening _ (λ mexpr. also _ _ h.type-spec (λ u. also _ _ (run_look 0)
      (λ k. if (eqb k L-PAREN) _ _
      (also _ _ (run-expect L-PAREN tt) (λ b. also _ _ (expr-tidy deeper h) (λ g. also _ _ (run-expect R-PAREN tt) (λ b. closing mexpr CAST-EXPRESSION _ tt (λ c. also _ _ (run_at 0 SEMICOLON)
      (λ b. if b _ _ (also _ _ (run-expect SEMICOLON tt) (λ b. closed m EXPR-STMT tt)) (dropped m)))))))
      (dropping mexpr _ (also _ _ var-name (λ u. also _ _ (run-eat SEMICOLON)
      (λ b. if b _ _ (closed m CLASSICAL-DECLARATION-STATEMENT tt)
      (also _ _ (run-expect EQ tt)
      (λ b. if b _ _ (also _ _ (expr-tidy deeper h) (λ g. also _ _ (run-expect SEMICOLON tt) (λ b. closed m CLASSICAL-DECLARATION-STATEMENT tt))) (dropped m)))))))))))

  io-declaration-stmt : (m : ℕ) → Run (fresh m ∷ []) (io_declaration_stmt deeper m) none
  unfolding io_declaration_stmt
  io-declaration-stmt m = also _ _ run-bump-any (λ u. also _ _ io-type (λ u. also _ _ h.type-spec (λ u. also _ _ var-name (λ u. also _ _ (run-expect SEMICOLON tt) (λ b. closed m I-O-DECLARATION-STATEMENT tt)))))

  def-stmt : (m : ℕ) → Run (fresh m ∷ []) (def_stmt deeper m) none
  unfolding def_stmt
  def-stmt m =
      also _ _ (run-must DEF-KW) (λ u. also _ _ run-bump-any (λ u. also _ _ (name-r ITEM-RECOVERY-SET) (λ u. also _ _ (run_at 0 L-PAREN) (λ b. also _ _ (if b _ _ (def-params deeper h) (run-error _ 0 tt)) (λ u. signature-ends m DEF tt)))))

  cal-ends : (m : ℕ) → Run (fresh m ∷ []) (cal deeper m) none
  unfolding cal
  cal-ends m = also _ _ (run-bump CAL-KW) (λ u. also _ _ (try-block-expr deeper h) (λ u. closed m CAL tt))

  barrier-ends : (m : ℕ) → Run (fresh m ∷ []) (barrier deeper m) none
  unfolding barrier
  barrier-ends m = also _ _ (run-bump BARRIER-KW) (λ u. also _ _ (run_at 0 SEMICOLON) (λ b. also _ _ (perhaps (not b) _ (gate-call-qubits deeper h)) (λ u. also _ _ (run-expect SEMICOLON tt) (λ b. closed m BARRIER tt))))

  delay-stmt : (m : ℕ) → Run (fresh m ∷ []) (delay_stmt deeper m) none
  unfolding delay_stmt
  delay-stmt m = also _ _ (run-bump DELAY-KW) (λ u. also _ _ (designator-tidy deeper h) (λ u. also _ _ (gate-call-qubits deeper h) (λ u. also _ _ (run-expect SEMICOLON tt) (λ b. closed m DELAY-STMT tt))))

  alias-stmt : (m : ℕ) → Run (fresh m ∷ []) (alias_stmt deeper m) none
  unfolding alias_stmt
  alias-stmt m = also _ _ (run-must LET-KW) (λ u. also _ _ run-bump-any (λ u. also _ _ (name-r ITEM-RECOVERY-SET) (λ u. also _ _ (run-expect EQ tt) (λ b. also _ _ (expr-tidy deeper h) (λ g. also _ _ (run-expect SEMICOLON tt) (λ b. closed m ALIAS-DECLARATION-STATEMENT tt))))))

  each-statement : (m : ℕ) → Each m (statements deeper m)
  each-statement m = (qubit-declaration-stmt m, (classical-declaration-stmt m, (gate-definition m, (break-ends m, (continue-ends m, (end-ends m, (h.if-stmt m, (while-stmt m, (for-stmt m, (def-stmt m, (defcal-ends m, (cal-ends m, (defcalgrammar-ends m, (reset-stmt m, (barrier-ends m, (version-string m, (include-ends m, (switch-case-stmt m, (alias-stmt m, (delay-stmt m, (io-declaration-stmt m, (io-declaration-stmt m, tt))))))))))))))))))))))

  pub opt-item : (m : ℕ) → Run (fresh m ∷ []) (opt_item deeper m) untaken
  unfolding opt_item
  opt-item m =
      also _ _ (run_look 1) (λ la. also _ _ (run_look 0)
      (λ k. if (declares k la) _ _ (then _ _ none (classical-declaration-stmt m) (λ u. ends (Ok tt) untaken)) (also _ _ (run_look 0) (λ k. beginning-ends m (statements deeper m) k (each-statement m)))))

  unmatched-tidy : (stop : Bool) (m : ℕ) → Run (fresh m ∷ []) (unmatched deeper stop m) none
  unfolding unmatched
  unmatched-tidy stop m =
      also _ _ (run_look 0)
      (λ k. if (eqb k R-CURLY && not stop) _ _ (dropping m _ (opening _ (λ e. also _ _ (run-error _ 0 tt) (λ u. also _ _ (run-bump R-CURLY) (λ u. closed e ERROR tt)))))
      (if (one_of (EOF ∷ R-CURLY ∷ []) k) _ _ (dropped m) (dropping m _ (expr-block-contents deeper h))))

  pub item-tidy : (stop : Bool) → Run [] (item deeper stop) none
  unfolding item
  item-tidy stop = opening _ (λ m. then _ _ untaken (opt-item m) offered)
    where
      offered : (x : (Result (Unit {0}) ℕ)) → Run {A = Unit {0}} (untaken x) (elim x [ Ok x ↦ after_item | Err m ↦ unmatched deeper stop m ]) none
      offered (Ok x) = after-item
      offered (Err m) = unmatched-tidy stop m

  pub source-file-contents : (stop : Bool) → Run [] (source_file_contents deeper stop) none
  unfolding source_file_contents source_file_contents_round
  source-file-contents stop =
      run-repeats _ none (λ x. also _ _ (run_at 0 EOF) (λ end. if end _ _ (ends _ _) (also _ _ (run_at 0 R-CURLY) (λ b. if (stop && b) _ _ (ends _ _) (also _ _ (item-tidy stop) (λ u. ends _ _)))))) tt
