-- `TokenSet::count` meets its contract: the ones of the words are the kinds that they hold. Assumes nothing.
use borrow.Author.Rules.{rules}
use mathlib.Core.Path.{◌≡◌}
use lib.ListN.{length, get_or}
use mir.Syntax.{w64}
use mir.Val.{Fits}
use Rattle.kinds.proofs.Counts.{words_count}
use Rattle.kinds.proofs.token_set.TokenSet.count.Goals as goal

pub returns : goal.returns
returns c =
    let ws = c.args.self.words in
    let n : length ws ≡ 4 = search rules in
    words_count ws n (λ i. let f : Fits w64 (get_or ws i 0) = search rules in f.fits)
