-- `next` meets its contract. Assumes nothing.
use mathlib.Core.Path.{sym, ap}
use lib.ListN.{length}
use native.Mathlib.Omega.{arith}
use borrow.Author.Tests.{eqb-true, eqb-false}
use Rattle.lex.proofs.Taken.{none-left, one-left}
use Rattle.lex.proofs.tokens.TokensIterator.next.Goals as goal

pub returns-then-is_empty-clause-steps : goal.returns-then-is_empty-clause-steps
returns-then-is_empty-clause-steps c = let e = none-left _ (eqb-true _ _ (sym c.if-is_empty.ensures)) in (e, e)

pub returns-clause-steps : goal.returns-clause-steps
returns-clause-steps c = one-left c.args.self.now.rest.now (eqb-false _ _ (sym c.if-is_empty.ensures)) c.first-t.ensures.is

pub returns-clause-goes : goal.returns-clause-goes
returns-clause-goes c = record { on = λ f. (_, f, omega (arith, ap length (returns-clause-steps c))); keeps = _; rests = λ f. _ }
