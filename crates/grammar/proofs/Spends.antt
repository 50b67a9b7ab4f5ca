-- What spends something, of the grammar: each turn of a loop does, so that each loop ends. Assumes nothing.
use mathlib.Core.Path.{◌≡◌, refl, subst, ap, sym, ◌∙◌}
use mathlib.Core.Bool.{Bool, true, false}
use mathlib.Core.List.{[]}
use Prim.Native.Nat.{ℕ, zero, suc, ◌+◌, ◌≤◌, ◌<◌}
use native.Mathlib.Omega.{arith}
use Rattle.kinds.specs.Kinds.{EOF, DOT3, SEMICOLON, LET-KW, L-BRACK}
use Rattle.runtime.specs.State.{Parser}
use Rattle.runtime.specs.declared.parser.Stop.TheVariants.{Deep}
use Rattle.kinds.specs.Membership.{one_of}
use Rattle.input.specs.Input.{Env}
use Rattle.runtime.specs.State.{St, view, live, looked}
use Rattle.runtime.specs.Acts as acts
use Rattle.runtime.specs.Acts.{Peeks, run, left, nth, at, start, at_ts, sees, ◌>>=◌, kind_ahead}
use Rattle.input.proofs.Reading.{unseen}
use Rattle.runtime.proofs.Laws.{Spends, spends-nth, spends-at-ts, spends-bump, spends-stop, spends-eat, spends-cond, spends-first, spends-rest, spends-opening, left-unless, left-on, run_bind}
use Rattle.operators.specs.declared.Op.{Op}
use Rattle.operators.specs.Operators.{Table, Fair, current_op, arms, arm_of}
use Rattle.operators.proofs.Tables.{near}
use Rattle.std.specs.Prelude.{Option}
use Rattle.grammar.specs.declared.Shape.{Shape}
use Rattle.grammar.specs.Grammar.{Counted}
use Rattle.grammar.specs.Expressions as E
use Rattle.grammar.specs.Params as P
use Rattle.grammar.specs.Items as I
use Rattle.grammar.specs.Entry.{counted}

-- an expression: its first lookup
pub expr_bp-spends : (ops : Table) (n : ℕ) (m : Option ℕ) (prefer : Bool) (bp : ℕ) → Spends ((counted ops n).expr_bp m prefer bp)
unfolding counted E.expr_bp E.lacks_expr
expr_bp-spends ops zero m prefer bp = spends-first _ _ (spends-stop Deep acts.Acts.done)
expr_bp-spends ops (suc n) m prefer bp = spends-rest (E.marker m) _ (λ x. spends-first E.lacks_expr _ (spends-first (at_ts _) _ (spends-at-ts _)))

-- a statement: its semicolon, the keyword of a `let`, or the first lookup of an item
pub stmt-spends : (ops : Table) (n : ℕ) → Spends (counted ops n).stmt
unfolding counted E.stmt E.let_stmt I.opt_item
stmt-spends ops zero = spends-stop Deep acts.Acts.done
stmt-spends ops (suc n) =
    spends-eat SEMICOLON _
    (spends-rest (at LET-KW) _ (λ b. spends-cond b _ _
    (spends-rest start _ (λ m. spends-first _ _ (spends-bump LET-KW)))
    (spends-rest start _ (λ m. spends-first _ _ (spends-first (nth 1) _ (spends-nth 1))))))

-- an item: its first lookup
pub item-spends : (ops : Table) (n : ℕ) (stop : Bool) → Spends (I.item (counted ops n) stop)
unfolding I.item I.opt_item
item-spends ops n stop = spends-rest start _ (λ m. spends-first _ _ (spends-first (nth 1) _ (spends-nth 1)))

-- an index: its bracket
pub index-spends : (deeper : Counted) → Spends (E.index_operator deeper)
unfolding E.index_operator
index-spends deeper = spends-opening L-BRACK _

-- the test for a parameter: its lookup
pub ahead-spends : Spends P.param_ahead
unfolding P.param_ahead
ahead-spends = spends-first (nth 0) _ (spends-nth 0)

-- ---- operators

pub op-spends : (ops : Table) → Spends (current_op ops)
unfolding current_op
op-spends ops = spends-first (nth 0) _ (spends-nth 0)

abbrev op_of : Table → ℕ → Op
op_of ops k = record { power = (ops k).power; kind = k; next = (ops k).next }

op-run : (e : Env) (ops : Table) (p : Parser) → (run e (current_op ops) (view p [])).0 ≡ op_of ops (run e (arm_of arms (kind_ahead e (looked p) 0)) (view (looked p) [])).0
unfolding current_op run ◌>>=◌ acts.step
op-run e ops p = ap (λ (o : Op × St). o.0) (run_bind e (arm_of arms (kind_ahead e (looked p) 0)) (λ k. acts.Acts.done (op_of ops k)) (view (looked p) []))

-- an operator is one of its table
op-is : (e : Env) (ops : Table) (p : Parser) {o : Op} {q : Parser} → Peeks e (current_op ops) p o q → o ≡ op_of ops (run e (arm_of arms (kind_ahead e (looked p) 0)) (view (looked p) [])).0
op-is e ops p d = sym (ap (λ (x : Op × St). x.0) (d.same [])) ∙ op-run e ops p

-- a refused run finds none
op-dead : (e : Env) (p : Parser) → live p ≡ false → (run e (arm_of arms (kind_ahead e (looked p) 0)) (view (looked p) [])).0 ≡ DOT3
unfolding run looked
op-dead e p dead = rw (dead, unseen e.kinds p.refused (p.pos + 0) dead)

-- and no table has a power for it
pub no_power : {ops : Table} → Fair ops → (ops DOT3).power ≡ 0
unfolding one_of
no_power h = h.none DOT3 refl

pub op-left : (e : Env) {ops : Table} → Fair ops → (p : Parser) {o : Op} {q : Parser} → Peeks e (current_op ops) p o q → 0 < o.power → 0 < left p
op-left e {ops} h p {o} d some =
    left-unless p (λ dead. let z : o.power ≡ 0 = ap (λ (x : Op). x.power) (op-is e ops p d ∙ ap (op_of ops) (op-dead e p dead)) ∙ no_power h in omega arith)

-- its right side is not read below its power
pub op-next : (e : Env) {ops : Table} → Fair ops → (p : Parser) {o : Op} {q : Parser} → Peeks e (current_op ops) p o q → o.power ≤ o.next
op-next e {ops} h p {o} d = subst (λ (x : Op). x.power ≤ x.next) (sym (op-is e ops p d)) (near h _).0

-- ---- where something is left

-- a list goes on only there
pub left-list : (e : Env) (p : Parser) (sh : Shape) → P.goes_here e p sh ≡ true → 0 < left p
left-list e p sh h = left-on e p (by (sees e p EOF) refl)
  where
    by : (b : Bool) → sees e p EOF ≡ b → sees e p EOF ≡ false
    by true q = absurd (let z : ◌≡◌ {A = Bool} false true = sym (rw q refl) ∙ h in let y : ◌≡◌ {A = ℕ} 0 1 = cc in omega arith)
    by false q = q
