-- `parser::Parser::error_expected` meets its contract: found is the kind of the token here. Assumes nothing.
use Rattle.runtime.proofs.Cases.{expected-done}
use Rattle.runtime.proofs.parser.Parser.error_expected.Goals as goal

pub returns : goal.returns
returns c = expected-done _ _ _ c.ahead-found.ensures c.push_event.ensures
