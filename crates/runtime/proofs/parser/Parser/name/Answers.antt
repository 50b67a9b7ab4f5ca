-- `parser::Parser::name` meets its contract. Assumes nothing.
use Rattle.std.proofs.Common.{sym, ◌∙◌}
use Rattle.runtime.proofs.Cases.{start-there, name-still, name-none, name_done}
use Rattle.runtime.proofs.parser.Parser.name.Goals as goal

pub returns-then-self-ne0 : goal.returns-then-self-ne0
returns-then-self-ne0 c = rw (sym c.self.view_is) (name-still _ _ _ c.if-self-ne0.true)

pub set_kind-requires-clause-i_in_bounds : goal.set_kind-requires-clause-i_in_bounds
set_kind-requires-clause-i_in_bounds c = (start-there _ _ _ (sym c.is_start.ensures ∙ c.if-is_start.true)).0

pub set_kind-requires-clause-none_value : goal.set_kind-requires-clause-none_value
set_kind-requires-clause-none_value c = (start-there _ _ _ (sym c.is_start.ensures ∙ c.if-is_start.true)).1

pub returns-then-is_start : goal.returns-then-is_start
returns-then-is_start c = rw (c.set_kind.ensures, sym c.self.view_is) (name_done _ _ _ _ c.if-self-ne0.false c.ranges.kind.fits (rw (sym c.self.view_is) at (sym c.is_start.ensures ∙ c.if-is_start.true)))

pub returns : goal.returns
returns c = rw (c.refuse.ensures, sym c.self.view_is) (name-none _ _ _ c.if-self-ne0.false (rw (sym c.self.view_is) at (sym c.is_start.ensures ∙ c.if-is_start.false)))
