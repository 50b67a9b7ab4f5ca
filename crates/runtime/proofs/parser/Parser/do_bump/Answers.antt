-- `parser::Parser::do_bump` meets its contract. Assumes nothing.
use Rattle.std.proofs.Common.{sym, ap}
use Rattle.input.specs.Lent.{tokens}
use Rattle.runtime.specs.State.{Parser}
use Rattle.runtime.proofs.Cases.{bump-done, bump-full, bump-still, bump-none, fit-consumed}
use Rattle.runtime.proofs.parser.Parser.do_bump.Goals as goal

pub returns-then-self-ne0 : goal.returns-then-self-ne0
returns-then-self-ne0 c = rw (sym c.self.view_is) (bump-still _ _ _ _ c.if-self-ne0.true)

pub returns-then-p-ne0 : goal.returns-then-p-ne0
returns-then-p-ne0 c =
    bump-full _ _ _ _ (rw (ap (λ (p : Parser). p.pos) c.self.view_is) at c.enough.ensures) c.if-enough.true
    (rw (sym c.p.view_is) at c.push_event-p.ensures) c.if-p-ne0.true

pub invariant_of-result-then-enough : goal.invariant_of-result-then-enough
invariant_of-result-then-enough c =
    fit-consumed (tokens c.args.input.now) _ _ _ _ c.requires.0 (rw (ap (λ (p : Parser). p.pos) c.self.view_is) at c.enough.ensures) c.if-enough.true
    (rw (sym c.p.view_is) at c.push_event-p.ensures) c.p.invariant

pub returns-then-enough : goal.returns-then-enough
returns-then-enough c =
    bump-done _ _ _ _ (rw (ap (λ (p : Parser). p.pos) c.self.view_is) at c.enough.ensures) c.if-enough.true
    (rw (sym c.p.view_is) at c.push_event-p.ensures) c.if-p-ne0.false

pub returns : goal.returns
returns c = rw (c.refuse.ensures, sym c.self.view_is) (bump-none _ _ _ _ c.enough.ensures c.if-enough.false c.if-self-ne0.false)
