-- The twelve loops of the grammar's definition: none of them ends because its rounds run out, whatever it is run on. Assumes nothing.
use Rattle.runtime.specs.declared.parser.Completed.{Completed}
use Rattle.std.specs.Prelude.{Option, None}
use mathlib.Core.Path.{◌≡◌, refl, sym, ap, ◌∙◌}
use mathlib.Core.Bool.{Bool, true, false, not, ◌&&◌, cond}
use mathlib.Core.List.{List}
use Prim.Native.Nat.{ℕ, ◌≤◌, ◌<◌}
use native.Mathlib.Omega.{arith}
use lib.Dec.{ltb}
use borrow.Author.Tests.{eqb-true, lt-ltb}
use Rattle.kinds.specs.Kinds.{EOF, R-PAREN, R-BRACK, L-BRACK, R-CURLY, COMMA, CASE-KW}
use Rattle.input.specs.Input.{Env}
use Rattle.runtime.specs.State.{St, live}
use Rattle.runtime.specs.Acts.{Acts, Acts.done, ◌>>=◌, ◌>>◌, run, step, at, start, current, goes_on, is_refused, bump_any, expect, sees, stopped, Turn, Turn.more, Turn.last, left}
use Rattle.runtime.proofs.Laws.{run_bind, goes_same, left-goes, left-sees, left-on, left-live, left-asked, Spends, spends-first, spends-rest, spends-bump}
use Rattle.laws.proofs.Tests.{apart}
use Rattle.operators.specs.declared.Op.{Op}
use Rattle.operators.specs.Operators.{Table, Fair, current_op, arms, arm_of}
use Rattle.grammar.specs.declared.Shape.{Shape}
use Rattle.grammar.specs.Grammar as G
use Rattle.grammar.specs.Expressions as E
use Rattle.grammar.specs.Params as P
use Rattle.grammar.specs.Atom as A
use Rattle.grammar.specs.Items as I
use Rattle.grammar.specs.Entry.{counted, later}
use Rattle.grammar.proofs.Spends.{expr_bp-spends, stmt-spends, item-spends, index-spends, ahead-spends, op-spends, no_power}
use Rattle.rounds.proofs.Onward.{On, Less, Onward, Tells, on-last, on-more, on-spent, on-alive, on-cond, on_then, guarded, dead-look, looking}

-- the tests that change nothing
goes-tells : (k : ℕ) → Tells (goes_on k)
goes-tells k = record { still = λ e s. ap (λ (o : Bool × St). o.1) (goes_same e k s); there = λ e s q. left-goes e s.p k (sym (ap (λ (o : Bool × St). o.0) (goes_same e k s)) ∙ q) }

at-tells : (k : ℕ) → (k ≡ EOF → ⊥) → Tells (at k)
at-tells k n = record { still = λ e s. unfold run step in refl; there = λ e s q. left-sees e s.p k n (unfold run step in q) }

ends-still : (sh : Shape) (e : Env) (s : St) (b : Bool) → (run e (cond b (done true) (at sh.end2) >>= (λ end. done (not end))) s).1 ≡ s
unfolding run step ◌>>=◌
ends-still sh e s true = refl
ends-still sh e s false = refl

list_tells : (sh : Shape) → Tells (P.list_goes sh)
unfolding run step ◌>>=◌ P.list_goes P.at_list_end
list_tells sh = record { still = λ e s. still e s (sees e s.p EOF); there = λ e s q. left-on e s.p (told e s (sees e s.p EOF) q) }
  where
    still : (e : Env) (s : St) (b : Bool) → (run e (cond b (done false) (P.at_list_end sh >>= (λ end. done (not end)))) s).1 ≡ s
    still e s true = refl
    still e s false = ends-still sh e s (sees e s.p sh.end)

    told : (e : Env) (s : St) (b : Bool) → (run e (cond b (done false) (P.at_list_end sh >>= (λ end. done (not end)))) s).0 ≡ true → b ≡ false
    told e s true h = sym h
    told e s false h = refl

-- a round behind a test that holds ends as the last one, or goes on
pub delimited-on : (ket delim : ℕ) (first : List ℕ) (parser : Acts (Option (Completed × Bool))) → Spends parser → Onward (G.delimited_round ket delim first parser)
unfolding G.delimited_round
delimited-on ket delim first parser h = guarded (goes_on ket) (goes-tells ket) _ _ (λ x. spends-first parser _ h) (λ Q e x s. on-last Q e tt s)

module _ (ops : Table) (n : ℕ) where
  pub block_on : Onward (E.expr_block_contents_round (counted ops n))
  unfolding E.expr_block_contents_round
  block_on = guarded (goes_on R-CURLY) (goes-tells R-CURLY) _ _ (λ x. spends-first _ _ (stmt-spends ops n)) (λ Q e x s. on-last Q e tt s)

  pub tuple-on : Onward (A.tuple_expr_round (counted ops n))
  unfolding A.tuple_expr_round
  tuple-on = guarded (goes_on R-PAREN) (goes-tells R-PAREN) _ _ (λ x. spends-first _ _ (expr_bp-spends ops n None false 1)) (λ Q e x s. on-last Q e x s)

  pub array-on : Onward (A.array_expr_round (counted ops n))
  unfolding A.array_expr_round
  array-on = guarded (goes_on R-BRACK) (goes-tells R-BRACK) _ _ (λ x. spends-first _ _ (expr_bp-spends ops n None false 1)) (λ Q e x s. on-last Q e x s)

  pub index_on : Onward (E.indexed_identifier_round (counted ops n))
  unfolding E.indexed_identifier_round
  index_on = guarded (at L-BRACK) (at-tells L-BRACK (λ z. omega arith)) _ _ (λ x. spends-first _ _ (index-spends (counted ops n))) (λ Q e x s. on-last Q e tt s)

  pub switch-on : Onward (I.switch_case_stmt_round (counted ops n))
  unfolding I.switch_case_stmt_round
  switch-on = guarded (at CASE-KW) (at-tells CASE-KW (λ z. omega arith)) _ _ (λ x. spends-rest start _ (λ m. spends-first _ _ (spends-bump CASE-KW))) (λ Q e x s. on-last Q e tt s)

  pub list_on : (sh : Shape) → Onward (P.param_list_openqasm_round (counted ops n) sh)
  unfolding P.param_list_openqasm_round
  list_on sh = guarded (P.list_goes sh) (list_tells sh) _ _ (λ x. spends-rest start _ (λ m. spends-first _ _ ahead-spends)) (λ Q e x s. on-last Q e x s)

  -- a source file's items, until the tokens end
  pub source-on : (stop : Bool) → Onward (I.source_file_contents_round (counted ops n) stop)
  unfolding I.source_file_contents_round run step
  source-on stop e x s =
      on_then (Less s) e (at EOF) _ s
      (on-cond (Less s) e (sees e s.p EOF) _ _ s (λ q. on-last (Less s) e tt s)
      (λ q. on_then (Less s) e (at R-CURLY) _ s
      (on-cond (Less s) e (stop && sees e s.p R-CURLY) _ _ s (λ z. on-last (Less s) e tt s)
      (λ z. on-spent e _ s (spends-first _ _ (item-spends ops n stop)) (left-on e s.p q)))))

  -- the dimensions of an array type: a refused run asks, and ends
  pub type-on : Onward (E.array_type_spec_round (counted ops n))
  unfolding E.array_type_spec_round run step
  type-on e x s =
      on-alive e _ s (spends-first _ _ (expr_bp-spends ops n None false 1))
      (on_then Alive e ((counted ops n).expr_bp None false 1) _ s
      (on_then Alive e (at R-BRACK) _ r
      (on-cond Alive e (sees e r.p R-BRACK) (bump_any >> done (last tt)) (expect COMMA >> (is_refused >>= asked)) r
      (λ q. on_then Alive e bump_any (λ u. done (last tt)) r (on-last Alive e tt _))
      (λ q. on_then Alive e (expect COMMA) (λ u. is_refused >>= asked) r
      (on_then Alive e is_refused asked t
      (on-cond Alive e (stopped t.p) (done (last tt)) (done (more tt)) t (λ z. on-last Alive e tt t) (λ z. on-more Alive e tt t (left-asked t.p z))))))))
    where
      Alive : St → Type 0
      Alive q = 0 < left q.p

      asked : Bool → Acts (Turn (Unit {0}))
      asked over = cond over (done (last tt)) (done (more tt))

      r : St
      r = (run e ((counted ops n).expr_bp None false 1) s).1

      t : St
      t = (run e (expect COMMA) r).1

  -- gate modifiers, and what follows an expression: they look first
  pub modifiers-on : Onward (A.modified_gate_call_expr_round (counted ops n))
  unfolding A.modified_gate_call_expr_round
  modifiers-on = looking _ (λ Q e x s. on-last Q e tt s)

  pub postfix-on : Onward (E.postfix_expr_round (counted ops n) (later (counted ops n)))
  unfolding E.postfix_expr_round
  postfix-on = looking _ (λ Q e x s. on-cond Q e x.2 _ _ s (λ q. on-last Q e x s) (λ q. on-last Q e x s))

  -- Operators, of any fair table: a refused run finds none, and none has a power of 1 or more. No call asks for a least power of 0.
  dead-op : Fair ops → (e : Env) (s : St) → live s.p ≡ false → (run e (current_op ops) s).0.power ≡ 0
  unfolding current_op run ◌>>=◌
  dead-op fair e s dead =
      ap (λ (o : Op × St). o.0.power) (run_bind e current found s ∙ ap (λ (o : ℕ × St). run e (found o.0) o.1) (dead-look e s dead)) ∙ no_power fair
    where
      found : ℕ → Acts Op
      found k = arm_of arms k >>= (λ op. done (record { power = (ops op).power; kind = op; next = (ops op).next }))

  pub operators-on : Fair ops → (prefer : Bool) (bp : ℕ) → 1 ≤ bp → Onward (E.expr_bp_round (counted ops n) (later (counted ops n)) ops prefer bp)
  unfolding E.expr_bp_round
  operators-on fair prefer bp h e x s = by (live s.p) refl
    where
      by : (b : Bool) → live s.p ≡ b → On (Less s) e (E.expr_bp_round (counted ops n) (later (counted ops n)) ops prefer bp x) s
      by true q = on-spent e _ s (spends-first (current_op ops) _ (op-spends ops)) (left-live s.p (eqb-true _ _ q))
      by false q =
          let l : (run e (current_op ops) s).0.power < bp = omega (arith, dead-op fair e s q) in
          on_then (Less s) e (current_op ops) _ s
          (on-cond (Less s) e (ltb (run e (current_op ops) s).0.power bp) _ _ (run e (current_op ops) s).1 (λ z. on-last (Less s) e x _) (λ z. apart (sym z ∙ lt-ltb _ bp l)))
