-- `parser::Parser::eat` meets its contract. Assumes nothing.
use Rattle.runtime.proofs.Cases.{eat-done, eat-other}
use Rattle.runtime.proofs.parser.Parser.eat.Goals as goal

pub returns-then-at : goal.returns-then-at
returns-then-at c =
    eat-done _ _ _ c.at.ensures c.if-at.true c.raw_of-n.ensures c.do_bump.ensures

pub returns : goal.returns
returns c = eat-other _ _ _ c.at.ensures c.if-at.false
