-- The counted calls at each depth, and the three entries, handle their markers well. Assumes nothing.
use Rattle.std.specs.Prelude.{None}
use mathlib.Core.List.{[]}
use mathlib.Core.Bool.{false}
use Prim.Native.Nat.{ℕ, zero, suc}
use Rattle.kinds.specs.Kinds.{SOURCE-FILE}
use Rattle.runtime.specs.declared.parser.Stop.TheVariants.{Deep}
use Rattle.grammar.specs.Grammar.{Counted}
use Rattle.operators.specs.Operators.{Table}
use Rattle.grammar.specs.Entry.{later, counted, deepest, source_file, one_item, one_expression}
use Rattle.markers.proofs.Calculus.{Run, none, also, run-stop, run-stop-last, opening, closed, unread}
use Rattle.markers.proofs.Counted.{gotten, handed, unseen, Tidy}
use Rattle.markers.proofs.OfExpressions as E
use Rattle.markers.proofs.OfParams as P
use Rattle.markers.proofs.OfAtom as A
use Rattle.markers.proofs.OfItems as I

tidies : (deeper : Counted) → Tidy deeper → E.Tidies (later deeper)
tidies deeper h = record { atom-expr = A.atom-expr deeper h; arg-list = P.gate-call-qubits deeper h; opt-item = I.opt-item deeper h }

-- by induction on the calls to spare: with none, each call is refused
pub tidy : (ops : Table) (n : ℕ) → Tidy (counted ops n)
unfolding counted
tidy ops zero =
    record {
      expr-bp = λ m prefer bp. run-stop Deep _ (handed m) gotten;
      stmt = run-stop-last Deep [] none;
      type-spec = run-stop-last Deep [] none;
      complex-type-spec = run-stop-last Deep [] none;
      if-stmt = λ m. run-stop-last Deep _ none;
      expression-list = run-stop-last Deep [] none;
    }
tidy ops (suc n) =
    let h : Tidy (counted ops n) = tidy ops n in
    let g = tidies (counted ops n) h in
    record {
      expr-bp = E.expr-bp (counted ops n) h (later (counted ops n)) g ops;
      stmt = E.stmt-tidy (counted ops n) h (later (counted ops n)) g;
      type-spec = E.type-spec (counted ops n) h;
      complex-type-spec = E.complex-type-spec (counted ops n) h;
      if-stmt = I.if-stmt (counted ops n) h;
      expression-list = P.expression-list (counted ops n) h;
    }

pub source-file : (ops : Table) → Run [] (source_file ops) none
unfolding source_file
source-file ops = opening _ (λ m. also _ _ (I.source-file-contents (counted ops deepest) (tidy ops deepest) false) (λ u. closed m SOURCE-FILE tt))

pub one-item : (ops : Table) → Run [] (one_item ops) none
unfolding one_item
one-item ops = I.item-tidy (counted ops deepest) (tidy ops deepest) false

pub one-expression : (ops : Table) → Run [] (one_expression ops) none
unfolding one_expression
one-expression ops = unread _ (unseen _ ((tidy ops deepest).expr-bp None false 1))
