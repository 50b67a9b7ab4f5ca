-- Written by tools/proofs from the code, the definitions and hints.py: docs/PRODUCTIONS.md says how to change it.
-- `entry::item_at` meets its contract. Assumes nothing.
use Rattle.runtime.proofs.Laws.{then, step, peek, see, any, ends}
use borrow.Author.Tests.{ne_eqb, eq-eqb}
use Rattle.kinds.specs.Membership.{one_of}
use Rattle.grammar.specs.Items as I
use Rattle.cycle.proofs.entry.item_at.Goals as goal

pub returns-then-at : goal.returns-then-at
unfolding I.item I.after_item I.unmatched one_of
returns-then-at c =
    step _ _ _ _ c.start-p.ensures
    (then _ _ _ _ c.opt-p.ensures
    (rw c.in-Ok.is
    (see _ _ _ _ c.at.ensures
    (rw c.if-at.true
    c.err_and_bump.ensures))))

pub returns-then-here-eq-R_CURLY : goal.returns-then-here-eq-R_CURLY
unfolding I.item I.after_item I.unmatched one_of
returns-then-here-eq-R_CURLY c =
    step _ _ _ _ c.start-p.ensures
    (then _ _ _ _ c.opt-p.ensures
    (rw c.in-Err.is
    (peek _ _ _ _ _ c.current-p.ensures
    (rw (eq-eqb _ _ c.if-here-eq-R_CURLY.true)
    (step _ _ _ _ c.abandon-p.ensures
    (step _ _ _ _ c.start-p-then-here-eq-R_CURLY.ensures
    (step _ _ _ _ c.error-p.ensures
    (then _ _ _ _ c.bump-p.ensures
    (step _ _ _ _ c.complete-p.ensures
    (ends _ _ _))))))))))

pub returns-then-here-eq-EOF : goal.returns-then-here-eq-EOF
unfolding I.item I.after_item I.unmatched one_of
returns-then-here-eq-EOF c =
    step _ _ _ _ c.start-p.ensures
    (then _ _ _ _ c.opt-p.ensures
    (rw c.in-Err.is
    (peek _ _ _ _ _ c.current-p.ensures
    (rw (ne_eqb _ _ c.if-here-eq-R_CURLY.false)
    (rw (eq-eqb _ _ c.if-here-eq-EOF.true)
    (any _ _ _ c.abandon.ensures))))))

pub returns-else-at : goal.returns-else-at
unfolding I.item I.after_item I.unmatched one_of
returns-else-at c =
    step _ _ _ _ c.start-p.ensures
    (then _ _ _ _ c.opt-p.ensures
    (rw c.in-Ok.is
    (see _ _ _ _ c.at.ensures
    (rw c.if-at.false
    (ends _ _ _)))))

pub returns-else-here-eq-EOF : goal.returns-else-here-eq-EOF
unfolding I.item I.after_item I.unmatched one_of
returns-else-here-eq-EOF c =
    step _ _ _ _ c.start-p.ensures
    (then _ _ _ _ c.opt-p.ensures
    (rw c.in-Err.is
    (peek _ _ _ _ _ c.current-p.ensures
    (rw (ne_eqb _ _ c.if-here-eq-R_CURLY.false)
    (rw (ne_eqb _ _ c.if-here-eq-EOF.false)
    (step _ _ _ _ c.abandon-p-in-Err.ensures
    c.sts.ensures))))))
