-- Written by tools/proofs from the code, the definitions and hints.py: docs/PRODUCTIONS.md says how to change it.
-- `atom::no_argument` meets its contract. Assumes nothing.
use Rattle.runtime.proofs.Laws.{any, all, ends}
use borrow.Author.Tests.{ne_eqb, eq-eqb}
use Rattle.grammar.specs.Atom as A
use Rattle.terms.proofs.atom.no_argument.Goals as goal

pub returns-then-kw-eq-POW_KW : goal.returns-then-kw-eq-POW_KW
unfolding A.no_argument
returns-then-kw-eq-POW_KW c =
    all _ _ (λ e. rw (eq-eqb _ _ c.if-kw-eq-POW_KW.true)
    (any _ _ _ c.error.ensures))

pub returns : goal.returns
unfolding A.no_argument
returns c =
    all _ _ (λ e. rw (ne_eqb _ _ c.if-kw-eq-POW_KW.false)
    (ends _ _ _))
