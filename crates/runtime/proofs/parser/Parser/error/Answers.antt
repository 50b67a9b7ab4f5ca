-- `parser::Parser::error` meets its contract. Assumes nothing.
use Rattle.runtime.proofs.Cases.{error-done}
use Rattle.runtime.proofs.parser.Parser.error.Goals as goal

pub returns : goal.returns
returns c = error-done _ _ _ c.push_event.ensures
