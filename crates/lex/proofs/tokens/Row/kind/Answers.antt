-- `Row::kind` meets its contract. Assumes nothing.
use Rattle.lex.proofs.Tables.{kind-is}
use Rattle.lex.proofs.tokens.Row.kind.Goals as goal

pub returns : goal.returns
returns c = kind-is c.args.self.state c.entry.ensures
