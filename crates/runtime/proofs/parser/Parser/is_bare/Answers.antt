-- `parser::Parser::is_bare` meets its contract. Assumes nothing.
use Rattle.std.proofs.Common.{sym, ap, ◌∙◌}
use Rattle.event.specs.Event.{is_bare}
use Rattle.runtime.proofs.Cases.{event-at, event-out, event-past}
use Rattle.runtime.proofs.parser.Parser.is_bare.Goals as goal

pub returns-then-m-room : goal.returns-then-m-room
returns-then-m-room c = rw (sym c.self.view_is) (c.bare_at.ensures ∙ ap is_bare (event-at _ _ _ c.if-m-self.true))

pub returns-else-m-room : goal.returns-else-m-room
returns-else-m-room c = ap is_bare (event-out _ _ _ c.if-m-room.false)

pub returns-else-m-self : goal.returns-else-m-self
returns-else-m-self c = rw (sym c.self.view_is) (ap is_bare (event-past _ _ _ c.if-m-self.false))
