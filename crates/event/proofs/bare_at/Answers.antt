-- `event::bare_at` meets its contract. Assumes nothing.
use mathlib.Core.Path.{ap, ◌∙◌}
use borrow.Author.Tests.{ne_eqb}
use Rattle.event.specs.Event.{is_bare}
use Rattle.event.proofs.Encoding.{bare-first, bare-other}
use Rattle.event.proofs.Rooms.{event-index}
use Rattle.event.proofs.bare_at.Goals as goal

pub returns-then-words-i-eq-START : goal.returns-then-words-i-eq-START
returns-then-words-i-eq-START c = let w = c.args.words.now in let i = c.args.i in bare-first _ _ c.if-words-i-eq-START.true ∙ ap is_bare (event-index w i c.requires)

pub returns-else-words-i-eq-START : goal.returns-else-words-i-eq-START
returns-else-words-i-eq-START c =
    let w = c.args.words.now in
    let i = c.args.i in
    ne_eqb _ _ c.if-words-i-eq-START.false ∙ bare-other _ _ c.if-words-i-eq-START.false ∙ ap is_bare (event-index w i c.requires)
