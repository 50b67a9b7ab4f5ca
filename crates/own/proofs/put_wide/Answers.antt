-- `own::put_wide` meets its contract: the word's first bytes are the event's record.
-- Assumes nothing.
use native.Mathlib.Omega.{arith}
use borrow.Author.Tests.{eq-eqb, ne_eqb}
use Rattle.own.proofs.Wide.{wide-laid}
use Rattle.own.proofs.put_wide.Goals as goal

pub returns-then-a-eq65536 : goal.returns-then-a-eq65536
returns-then-a-eq65536 c =
    wide-laid c.args.a c.args.b c.requires.a_bound c.requires.say _ _ _ _ c.requires.at_in_bounds (rw c.head_of-head.ensures at c.put_u64.ensures) (rw (eq-eqb _ _ c.if-a-eq65536.true) (omega arith))

pub returns : goal.returns
returns c =
    wide-laid c.args.a c.args.b c.requires.a_bound c.requires.say _ _ _ _ c.requires.at_in_bounds (rw c.head_of-head.ensures at c.put_u64.ensures) (rw (ne_eqb _ _ c.if-a-eq65536.false) (omega (arith, c.head_of-head.ensures)))
