-- `show::ask` meets its contract: at each turn the numbers asked so far are counted, and the words have said the same. Assumes nothing.
use borrow.Author.Rules.{rules}
use mathlib.Core.Path.{◌≡◌, refl, sym, ap, ◌∙◌}
use mathlib.Core.Bool.{Bool, true, false, cond, ◌&&◌, beq}
use Prim.Native.Nat.{ℕ, ◌≤◌, ◌<◌}
use native.Mathlib.Omega.{arith}
use lib.ListN.{length}
use mir.Val.{bool_byte}
use Rattle.kinds.specs.Membership.{one_of, count, number}
use Rattle.kinds.specs.Sets.{kinds_of}
use Rattle.kinds.proofs.Counts.{count_next, count-le, listed-count}
use Rattle.sets.proofs.show.ask.Goals as goal

-- a test as a number
as_cond : (b : Bool) → bool_byte b ≡ cond b 1 0
as_cond true = refl
as_cond false = refl

bool_le : (b : Bool) → cond b 1 0 ≤ 1
bool_le true = omega arith
bool_le false = omega arith

-- what was the same stays so where both say one thing
both_say : {s a b x : Bool} → s ≡ true → a ≡ x → b ≡ x → (s && beq a b) ≡ true
both_say {x = x} h e f = rw (h, e, f) (same x)
  where
    same : (x : Bool) → beq x x ≡ true
    same true = refl
    same false = refl

pub loop-n-init : goal.loop-n-init
unfolding count
loop-n-init c = (refl, refl)

pub overflow_add-listed : goal.overflow_add-listed
overflow_add-listed c =
    let n = c.loop-n.n in
    let f = one_of (kinds_of c.args.set) in
    let b = c.has-has.result in
    let one = c.from-listed.ensures ∙ as_cond b in
    let below : n < 65536 = c.loop-n-test.true in
    record { fits = omega (arith, count-le n f, below, c.loop-n.invariant.0, bool_le b, one) }

pub loop-n-preserved : goal.loop-n-preserved
loop-n-preserved c =
    let n = c.loop-n.n in
    let f = one_of (kinds_of c.args.set) in
    let inv = c.loop-n.invariant in
    let has : c.has-has.result ≡ f n = c.has-has.ensures in
    let words : c.contains.result ≡ f n = c.contains.ensures ∙ ap (λ (g : ℕ → Bool). g n) c.set_of-words.ensures in
    let one : c.from-listed.result ≡ cond (f n) 1 0 = c.from-listed.ensures ∙ as_cond c.has-has.result ∙ ap (λ (b : Bool). cond b 1 0) has in
    (omega (arith, inv.0, one, count_next n f), both_say inv.1 has words)

pub returns : goal.returns
returns c =
    let set = c.args.set in
    let inv = c.loop-n.invariant in
    let ws = c.set_of-words.result.words in
    let e = c.set_of-words.ensures in
    let n : length ws ≡ 4 = search rules in
    let end : c.loop-n.n ≡ 65536 = omega (arith, c.loop-n.auto.n-end, c.loop-n-test.false) in
    (inv.0 ∙ ap (λ (k : ℕ). count k (one_of (kinds_of set))) end ∙ sym (ap number e) ∙ listed-count ws (kinds_of set) n e, inv.1)
