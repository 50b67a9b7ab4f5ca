-- `parser::Parser::extend_to` meets its contract. Assumes nothing.
use Rattle.std.proofs.Common.{arith}
use Rattle.runtime.proofs.Cases.{extend-done}
use Rattle.runtime.proofs.parser.Parser.extend_to.Goals as goal

pub returns : goal.returns
returns c = extend-done _ _ _ _ (grind arith) c.link-p.ensures
