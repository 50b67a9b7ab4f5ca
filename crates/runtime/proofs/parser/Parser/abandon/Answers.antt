-- `parser::Parser::abandon` meets its contract. Assumes nothing.
use Rattle.std.proofs.Common.{sym, refl, ◌∙◌}
use Rattle.event.specs.Event.{is_bare}
use Rattle.runtime.proofs.Cases.{inside, abandon-still, abandon-inner, abandon-other, abandon-again}
use Rattle.runtime.proofs.parser.Parser.abandon.Goals as goal

pub returns-then-self-ne0 : goal.returns-then-self-ne0
returns-then-self-ne0 c = rw (sym c.self.view_is) (abandon-still _ _ c.if-self-ne0.true)

pub returns-then-at-len : goal.returns-then-at-len
returns-then-at-len c = rw (sym c.self.view_is) (abandon-inner _ _ c.if-self-ne0.false c.if-at-len.true)

pub store-requires : goal.store-requires
store-requires c = (inside _ _ _ is_bare refl (sym c.is_bare.ensures ∙ c.if-is_bare.true)).1

pub returns-then-is_bare : goal.returns-then-is_bare
returns-then-is_bare c = rw (c.store.ensures, sym c.self.view_is) (abandon-again _ _ _ _ (c.self-2.view_is ∙ sym c.self.view_is) c.if-self-ne0.false c.if-at-len.false (rw (sym c.self.view_is) at (sym c.is_bare.ensures ∙ c.if-is_bare.true)))

pub returns : goal.returns
returns c = rw (c.refuse.ensures, sym c.self.view_is) (abandon-other _ _ c.if-self-ne0.false c.if-at-len.false (rw (sym c.self.view_is) at (sym c.is_bare.ensures ∙ c.if-is_bare.false)))
