-- `parser::Parser::start` meets its contract. Assumes nothing.
use Rattle.runtime.specs.State.{Parser}
use Rattle.std.proofs.Common.{ap}
use Rattle.runtime.proofs.Cases.{start-done}
use Rattle.runtime.proofs.parser.Parser.start.Goals as goal

pub returns : goal.returns
returns c = rw (ap (λ (p : Parser). p.len) c.self.view_is) (start-done _ c.push_event-p.ensures)
