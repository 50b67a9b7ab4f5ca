-- `parser::Parser::push_event` meets its contract. Assumes nothing.
use Rattle.std.proofs.Common.{sym}
use Rattle.runtime.proofs.Cases.{push-still, push-full, push-done}
use Rattle.runtime.proofs.parser.Parser.push_event.Goals as goal

pub returns-then-self-ne0 : goal.returns-then-self-ne0
returns-then-self-ne0 c = rw (sym c.self.view_is) (push-still _ _ c.if-self-ne0.true)

pub returns-then-len-holds : goal.returns-then-len-holds
returns-then-len-holds c = rw (c.store.ensures, sym c.self.view_is) (push-done _ _ _ c.requires c.if-self-ne0.false (rw c.holds.ensures at c.if-len-holds.true))

pub returns : goal.returns
returns c = rw (c.refuse.ensures, sym c.self.view_is) (push-full _ _ _ c.if-self-ne0.false (rw c.holds.ensures at c.if-len-holds.false))
