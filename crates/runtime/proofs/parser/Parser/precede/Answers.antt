-- `parser::Parser::precede` meets its contract. Assumes nothing.
use Rattle.std.proofs.Common.{◌≡◌, ap, arith}
use Rattle.runtime.specs.State.{Parser}
use Rattle.runtime.proofs.Cases.{precede-done}
use Rattle.runtime.proofs.parser.Parser.precede.Goals as goal

pub returns : goal.returns
returns c =
    let l : c.self.inside.len ≡ c.args.self.len = ap (λ (p : Parser). p.len) c.self.view_is in
    rw l (precede-done c.args.cm _ _ c.push_event-p.ensures (grind arith) c.link-p.ensures)
