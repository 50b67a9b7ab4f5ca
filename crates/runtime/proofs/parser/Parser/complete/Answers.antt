-- `parser::Parser::complete` meets its contract. Assumes nothing.
use Rattle.runtime.proofs.Cases.{complete-done}
use Rattle.runtime.proofs.parser.Parser.complete.Goals as goal

pub returns : goal.returns
returns c = complete-done _ _ _ c.name-p.ensures c.push_event-p.ensures
