-- `parser::Parser::nth_at` meets its contract: a kind of one token is looked at by itself. Assumes nothing.
use Rattle.std.proofs.Common.{sym, ◌∙◌}
use Rattle.input.specs.Lent.{tokens}
use Rattle.input.proofs.Plain.{plain-stands}
use Rattle.runtime.proofs.parser.Parser.nth_at.Goals as goal

pub returns-then-is_plain : goal.returns-then-is_plain
returns-then-is_plain c =
    let a = c.args in
    rw (c.kind.ensures, sym c.self.view_is) (sym (plain-stands (tokens a.input.now) c.self.inside.refused _ a.kind (sym c.is_plain.ensures ∙ c.if-is_plain.true)))
