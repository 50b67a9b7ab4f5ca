-- `parser::Parser::link` meets its contract. Assumes nothing.
use Rattle.std.proofs.Common.{sym, ◌∙◌}
use Rattle.runtime.proofs.Cases.{start-there, link-still, link-none, link-done}
use Rattle.runtime.proofs.parser.Parser.link.Goals as goal

pub returns-then-self-ne0 : goal.returns-then-self-ne0
returns-then-self-ne0 c = rw (sym c.self.view_is) (link-still _ _ _ c.if-self-ne0.true)

pub set_distance-requires-clause-i_in_bounds : goal.set_distance-requires-clause-i_in_bounds
set_distance-requires-clause-i_in_bounds c = (start-there _ _ _ (sym c.is_start.ensures ∙ c.if-is_start.true)).0

pub set_distance-requires-clause-none_value : goal.set_distance-requires-clause-none_value
set_distance-requires-clause-none_value c = (start-there _ _ _ (sym c.is_start.ensures ∙ c.if-is_start.true)).1

pub returns-then-is_start : goal.returns-then-is_start
returns-then-is_start c = rw (c.set_distance.ensures, sym c.self.view_is) (link-done _ _ _ _ c.if-self-ne0.false (rw (sym c.self.view_is) at (sym c.is_start.ensures ∙ c.if-is_start.true)))

pub returns : goal.returns
returns c = rw (c.refuse.ensures, sym c.self.view_is) (link-none _ _ _ c.if-self-ne0.false (rw (sym c.self.view_is) at (sym c.is_start.ensures ∙ c.if-is_start.false)))
