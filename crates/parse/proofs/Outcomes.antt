-- The outcome of a parse, case by case. Assumes nothing.
use mathlib.Core.Path.{◌≡◌, refl, sym, ap, ◌∙◌, subst}
use mathlib.Core.List.{List}
use Prim.Native.Nat.{ℕ, ◌+◌, ◌-◌, ◌*◌, ◌/◌, ◌≤◌, ◌<◌}
use native.Mathlib.Omega.{arith}
use lib.ListN.{length}
use borrow.Author.Tests.{eq-eqb, ne_eqb, lt-ltb, le-ltb}
use Rattle.runtime.specs.State.{Parser}
use Rattle.input.specs.Input.{Env, env, most_tokens}
use Rattle.runtime.specs.State.{St, view, new, Known}
use Rattle.runtime.specs.Acts.{Acts, Does}
use Rattle.event.proofs.Rooms.{length-events, first-words}
use Rattle.runtime.proofs.Runs.{held-run}
use Rattle.runtime.proofs.Known.{known-run}
use Rattle.parse.specs.Parse.{Answer}
use Rattle.parse.specs.Parse.{Lent, ends, says, refuses, first_fault, acts_of, ran, number_of, zeroed, settled, parsed}

-- a run from `Parser::new()`
pub begun : {A : Type 0} (e : Env) (m : Acts A) (p : Parser) (room : List ℕ) {a : A} {r : St} → p ≡ new → Does e m (view p room) a r → Does e m (view new room) a r
begun e m p room {a} {r} q d = subst (λ (x : Parser). Does e m (view x room) a r) q d

-- its events have their words in the room
pub has_words : (e : Env) (m : Acts (Unit {0})) (p : Parser) (room mid : List ℕ) → Does e m (view new room) tt (view p mid) → p.len * 2 ≤ length mid
has_words e m p room mid d =
    let h : p.len ≤ length (view p mid).room = subst (λ (s : St). s.p.len ≤ length s.room) (ap (λ (x : Unit {0} × St). x.1) d.same) (held-run e m (view new room) (omega arith)) in
    omega (arith, length-events mid, h)

-- its refusal is one of its own
pub is-known : (e : Env) (m : Acts (Unit {0})) (p : Parser) (room mid : List ℕ) → Does e m (view new room) tt (view p mid) → Known p
is-known e m p room mid d = subst (λ (x : Unit {0} × St). Known x.1.p) d.same (known-run e m (view new room) (λ z. absurd (z refl)))

-- What a run comes to: its list and zeros, or zeros.
module _ (n : ℕ) (p : Parser) (ws out : List ℕ) where
  pub settle-done : n ≡ 0 → p.len * 2 ≤ length ws → out ≡ zeroed (p.len * 2) ws → settled n (length ws) (view p ws) ≡ ends (says 0 p.pos p.len p.looks) out
  unfolding settled
  settle-done z h e = rw (eq-eqb n 0 z, first-words ws p.len h, e)

  pub settle-refused : (k : ℕ) (a : Answer) → k ≡ n → (k ≡ 0 → ⊥) → a ≡ refuses k p.pos → out ≡ zeroed 0 ws → settled n (length ws) (view p ws) ≡ ends a out
  unfolding settled
  settle-refused k a q z e f = let w : length ws - 0 ≡ length ws = omega arith in rw (← q, ne_eqb k 0 z, e, f, w)

-- The tests, in their order, and what follows them.
module _ (l : Lent) where
  pub mode-fails : (a : Answer) → 1 < l.mode → a ≡ refuses 1 0 → parsed l ≡ ends a l.room
  unfolding parsed
  mode-fails a h e = rw (lt-ltb 1 l.mode h, e)

  module _ (h₁ : l.mode ≤ 1) where
    pub tokens-fail : (a : Answer) → most_tokens < length l.kinds → a ≡ refuses 2 0 → parsed l ≡ ends a l.room
    unfolding parsed
    tokens-fail a h e = rw (le-ltb 1 l.mode h₁, lt-ltb most_tokens (length l.kinds) h, e)

    module _ (h₂ : length l.kinds ≤ most_tokens) where
      pub joints-fail : (a : Answer) → length l.joints < (length l.kinds + 63) / 64 → a ≡ refuses 3 0 → parsed l ≡ ends a l.room
      unfolding parsed
      joints-fail a h e = rw (le-ltb 1 l.mode h₁, le-ltb most_tokens (length l.kinds) h₂, lt-ltb (length l.joints) ((length l.kinds + 63) / 64) h, e)

      module _ (h₃ : (length l.kinds + 63) / 64 ≤ length l.joints) where
        pub kinds-fail : (a : Answer) (i : ℕ) → i ≡ first_fault l.kinds → i < length l.kinds → a ≡ refuses 4 i → parsed l ≡ ends a l.room
        unfolding parsed
        kinds-fail a i q h e = rw (le-ltb 1 l.mode h₁, le-ltb most_tokens (length l.kinds) h₂, le-ltb (length l.joints) ((length l.kinds + 63) / 64) h₃, ← q, lt-ltb i (length l.kinds) h, e)

        pub runs : (i : ℕ) → i ≡ first_fault l.kinds → length l.kinds ≤ i → (p : Parser) (mid out : List ℕ) (a : Answer)
            → Does (env l.kinds l.joints) (acts_of l.entry l.mode) (view new l.room) tt (view p mid) → length mid ≡ length l.room
            → settled (number_of l.entry (length l.kinds) p) (length mid) (view p mid) ≡ ends a out → parsed l ≡ ends a out
        unfolding parsed
        runs i q h p mid out a d w e =
            let r : ran l ≡ view p mid = ap (λ (x : Unit {0} × St). x.1) d.same in
            rw (le-ltb 1 l.mode h₁, le-ltb most_tokens (length l.kinds) h₂, le-ltb (length l.joints) ((length l.kinds + 63) / 64) h₃, ← q, le-ltb i (length l.kinds) h)
            (ap (λ (s : St). settled (number_of l.entry (length l.kinds) s.p) (length l.room) s) r
            ∙ ap (λ (x : ℕ). settled (number_of l.entry (length l.kinds) p) x (view p mid)) (sym w)
            ∙ e)
