-- `parser::Parser::nth` meets its contract. Assumes nothing.
use Rattle.std.proofs.Common.{sym}
use Rattle.runtime.proofs.Cases.{look-still, look-done, look-full}
use Rattle.runtime.proofs.parser.Parser.nth.Goals as goal

pub returns-then-self-ne0 : goal.returns-then-self-ne0
returns-then-self-ne0 c = rw (sym c.self.view_is) (look-still _ _ _ c.if-self-ne0.true)

pub returns-then-self-lt-MOST_LOOKS : goal.returns-then-self-lt-MOST_LOOKS
returns-then-self-lt-MOST_LOOKS c = rw (sym c.self.view_is) (look-done _ _ _ c.if-self-ne0.false c.if-self-lt-MOST_LOOKS.true (rw (sym c.self.view_is) at c.ahead.ensures))

pub returns : goal.returns
returns c = rw (c.refuse.ensures, sym c.self.view_is) (look-full _ _ _ c.if-self-ne0.false c.if-self-lt-MOST_LOOKS.false)
