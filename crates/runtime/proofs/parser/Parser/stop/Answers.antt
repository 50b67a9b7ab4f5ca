-- `parser::Parser::stop` meets its contract. Assumes nothing.
use Rattle.std.proofs.Common.{sym}
use Rattle.runtime.proofs.Cases.{stop-still, stop-done}
use Rattle.runtime.proofs.parser.Parser.stop.Goals as goal

pub returns-then-self-ne0 : goal.returns-then-self-ne0
returns-then-self-ne0 c = rw (sym c.self.view_is) (stop-still _ _ c.if-self-ne0.true)

pub returns : goal.returns
returns c = rw (c.refuse.ensures, c.number.ensures, sym c.self.view_is) (stop-done _ _ c.if-self-ne0.false)
