-- `parser::Parser::at` meets its contract: a kind that is plainly one token is looked at by itself. Assumes nothing.
use Rattle.std.proofs.Common.{◌≡◌, ◌+◌, sym, ◌∙◌, arith}
use Rattle.input.specs.Lent.{tokens}
use Rattle.input.proofs.Plain.{plain-stands}
use Rattle.runtime.proofs.parser.Parser.at.Goals as goal

pub returns-then-is_plain : goal.returns-then-is_plain
returns-then-is_plain c =
    let a = c.args in
    let i = c.self.inside in
    let z : i.pos + 0 ≡ i.pos = omega arith in
    rw (c.kind.ensures, sym c.self.view_is, z) (sym (plain-stands (tokens a.input.now) i.refused i.pos a.kind (sym c.is_plain.ensures ∙ c.if-is_plain.true)))
