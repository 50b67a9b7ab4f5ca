-- `with_bit` meets its contract. Assumes nothing.
use native.Mathlib.Omega.{arith}
use Rattle.lex.proofs.Bits.{result-is}
use Rattle.lex.proofs.with_bit.Goals as goal

pub returns : goal.returns
returns c = rw c.from.ensures (result-is c.args.w c.args.j c.requires (omega arith) c.args.bit)
