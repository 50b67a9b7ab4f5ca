-- Written by tools/proofs from the code, the definitions and hints.py: docs/PRODUCTIONS.md says how to change it.
-- `atom::literal` meets its contract. Assumes nothing.
use Rattle.runtime.proofs.Laws.{then, step, peek, ends}
use borrow.Author.Tests.{ne_eqb, eq-eqb}
use Rattle.grammar.specs.Atom as A
use Rattle.terms.proofs.atom.literal.Goals as goal

pub returns-then-next-eq-IDENT : goal.returns-then-next-eq-IDENT
unfolding A.literal
returns-then-next-eq-IDENT c =
    peek _ _ _ _ _ c.at_ts-p.ensures
    (rw c.if-begins.true
    (then _ _ _ _ c.fail_if_at-p.ensures
    (step _ _ _ _ c.start-p.ensures
    (peek _ _ _ _ _ c.nth-p.ensures
    (rw (eq-eqb _ _ c.if-next-eq-IDENT.true)
    (then _ _ _ _ c.timing-p.ensures
    (step _ _ _ _ c.start-p-then-next-eq-IDENT.ensures
    (then _ _ _ _ c.bump_any-p.ensures
    (step _ _ _ _ c.complete-p.ensures
    (then _ _ _ _ c.identifier-p.ensures
    (step _ _ _ _ c.complete-q.ensures
    (ends _ _ _))))))))))))

pub returns-then-begins : goal.returns-then-begins
unfolding A.literal
returns-then-begins c =
    peek _ _ _ _ _ c.at_ts-p.ensures
    (rw c.if-begins.true
    (then _ _ _ _ c.fail_if_at-p.ensures
    (step _ _ _ _ c.start-p.ensures
    (peek _ _ _ _ _ c.nth-p.ensures
    (rw (ne_eqb _ _ c.if-next-eq-IDENT.false)
    (then _ _ _ _ c.bump_any-p-then-begins.ensures
    (step _ _ _ _ c.complete-q-then-begins.ensures
    (ends _ _ _))))))))

pub returns : goal.returns
unfolding A.literal
returns c =
    peek _ _ _ _ _ c.at_ts-p.ensures
    (rw c.if-begins.false
    (ends _ _ _))
