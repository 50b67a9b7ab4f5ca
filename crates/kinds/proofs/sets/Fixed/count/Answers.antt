-- `Fixed::count` meets its contract: the words hold what is listed, so their ones are as many. Assumes nothing.
use borrow.Author.Rules.{rules}
use mathlib.Core.Path.{◌≡◌, ◌∙◌}
use lib.ListN.{length}
use Rattle.kinds.specs.Sets.{kinds_of}
use Rattle.kinds.proofs.Counts.{listed-count}
use Rattle.kinds.proofs.sets.Fixed.count.Goals as goal

pub returns : goal.returns
returns c =
    let ws = c.set_of.result.words in
    let n : length ws ≡ 4 = search rules in
    c.count.ensures ∙ listed-count ws (kinds_of c.args.self) n c.set_of.ensures
