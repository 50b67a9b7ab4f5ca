-- `TokenSet::union` meets its contract. Assumes nothing.
use borrow.Author.Rules.{rules}
use mathlib.Core.Path.{◌≡◌}
use lib.ListN.{length}
use Rattle.kinds.proofs.Laws.{or-bit, four-words}
use Rattle.kinds.proofs.token_set.TokenSet.union.Goals as goal

pub returns : goal.returns
returns c =
    let a = c.args.self.words in
    let b = c.args.other.words in
    let m : length a ≡ 4 = search rules in
    let n : length b ≡ 4 = search rules in
    or-bit a b _ (four-words a b m n)
