-- `Row::step` meets its contract: the two reads of the table. Assumes nothing.
use native.Mathlib.Omega.{arith}
use Rattle.lex.proofs.Tables.{inside, turned}
use Rattle.lex.proofs.tokens.Row.step.Goals as goal

pub bounds-self : goal.bounds-self
bounds-self c = inside c.args.self.state (omega (arith, c.from.ensures)) c.from.ensures c.from-class.ensures

pub invariant_of-result : goal.invariant_of-result
invariant_of-result c = record { state = (turned c.args.self.state (omega (arith, c.from.ensures)) c.from.ensures c.from-class.ensures _ _ c.entry.ensures c.from-2.ensures).1 }

pub returns : goal.returns
returns c = (turned c.args.self.state (omega (arith, c.from.ensures)) c.from.ensures c.from-class.ensures _ _ c.entry.ensures c.from-2.ensures).0
