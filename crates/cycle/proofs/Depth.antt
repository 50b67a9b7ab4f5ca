-- A counted call at a depth: its body one level down where a call is left, and its refusal where none is; and what falls after a call.
-- Assumes nothing.
use mathlib.Core.Path.{◌≡◌, refl, subst}
use mathlib.Core.Bool.{Bool}
use mathlib.Core.List.{[]}
use Prim.Native.Nat.{ℕ, zero, suc, pred, ◌-◌, ◌≤◌, ◌<◌}
use native.Mathlib.Numerals.{sub-one}
use native.Mathlib.Omega.{arith}
use Rattle.runtime.specs.State.{Parser}
use Rattle.std.specs.Prelude.{Option}
use Rattle.runtime.specs.declared.parser.Completed.{Completed}
use Rattle.input.specs.Input.{Env}
use Rattle.runtime.specs.State.{St, view}
use Rattle.runtime.specs.Acts.{Acts, Does, Peeks, left}
use Rattle.runtime.proofs.Laws.{Spends, peeks}
use Rattle.operators.specs.Operators.{Table}
use Rattle.grammar.specs.Expressions as E
use Rattle.grammar.specs.Params as P
use Rattle.grammar.specs.Items as I
use Rattle.grammar.specs.Entry.{counted, later}

one_down : (ops : Table) (n : ℕ) → (n ≡ 0 → ⊥) → counted ops n ≡ record { expr_bp = E.expr_bp (counted ops (n - 1)) (later (counted ops (n - 1))) ops; stmt = E.stmt (counted ops (n - 1)) (later (counted ops (n - 1))); type_spec = E.type_spec (counted ops (n - 1)); complex_type_spec = E.complex_type_spec (counted ops (n - 1)); if_stmt = I.if_stmt (counted ops (n - 1)); expression_list = P.expression_list (counted ops (n - 1)) }
unfolding counted
one_down ops zero h = absurd (h refl)
one_down ops (suc n) h = rw (sub-one (suc n))

pub expr_bp-deeper : (e : Env) (ops : Table) (n : ℕ) (m : Option ℕ) (prefer : Bool) (bp : ℕ) (s : St) {a : (Option (Completed × Bool))} {r : St} → (n ≡ 0 → ⊥) → Does e (E.expr_bp (counted ops (n - 1)) (later (counted ops (n - 1))) ops m prefer bp) s a r → Does e ((counted ops n).expr_bp m prefer bp) s a r
expr_bp-deeper e ops n m prefer bp s h d = rw (one_down ops n h) d

pub stmt-deeper : (e : Env) (ops : Table) (n : ℕ) (s : St) {r : St} → (n ≡ 0 → ⊥) → Does e (E.stmt (counted ops (n - 1)) (later (counted ops (n - 1)))) s tt r → Does e (counted ops n).stmt s tt r
stmt-deeper e ops n s h d = rw (one_down ops n h) d

pub type_spec-deeper : (e : Env) (ops : Table) (n : ℕ) (s : St) {r : St} → (n ≡ 0 → ⊥) → Does e (E.type_spec (counted ops (n - 1))) s tt r → Does e (counted ops n).type_spec s tt r
type_spec-deeper e ops n s h d = rw (one_down ops n h) d

pub complex_type_spec-deeper : (e : Env) (ops : Table) (n : ℕ) (s : St) {r : St} → (n ≡ 0 → ⊥) → Does e (E.complex_type_spec (counted ops (n - 1))) s tt r → Does e (counted ops n).complex_type_spec s tt r
complex_type_spec-deeper e ops n s h d = rw (one_down ops n h) d

pub if_stmt-deeper : (e : Env) (ops : Table) (n m : ℕ) (s : St) {r : St} → (n ≡ 0 → ⊥) → Does e (I.if_stmt (counted ops (n - 1)) m) s tt r → Does e ((counted ops n).if_stmt m) s tt r
if_stmt-deeper e ops n m s h d = rw (one_down ops n h) d

pub expression_list-deeper : (e : Env) (ops : Table) (n : ℕ) (s : St) {r : St} → (n ≡ 0 → ⊥) → Does e (P.expression_list (counted ops (n - 1))) s tt r → Does e (counted ops n).expression_list s tt r
expression_list-deeper e ops n s h d = rw (one_down ops n h) d

-- where n is no less than what was left, and something was
pub falls-after : {A : Type 0} (e : Env) (m : Acts A) (s : St) (n : ℕ) {a : A} {r : St} → Spends m → 0 < n → left s.p ≤ n → Does e m s a r → left r.p < n
falls-after e m s n {a} {r} h l k d =
    let f : left r.p ≤ pred (left s.p) = subst (λ (o : _ × St). left o.1.p ≤ pred (left s.p)) d.same (h.falls e s) in
    omega arith

pub falls-after-peeks : {A : Type 0} (e : Env) (m : Acts A) (p : Parser) (n : ℕ) {a : A} {q : Parser} → Spends m → 0 < n → left p ≤ n → Peeks e m p a q → left q < n
falls-after-peeks e m p n h l k d = falls-after e m (view p []) n h l k (peeks e m p [] d)
