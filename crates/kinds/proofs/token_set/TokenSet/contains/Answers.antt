-- `TokenSet::contains` meets its contract: the word that is compared for is the kind's. Assumes nothing.
use borrow.Author.Rules.{rules}
use mathlib.Core.Path.{◌≡◌, sym}
use native.Mathlib.Omega.{arith}
use lib.ListN.{length}
use Rattle.kinds.proofs.Laws.{no-bit, bit_in}
use Rattle.kinds.proofs.token_set.TokenSet.contains.Goals as goal

pub returns-then-kind-lt64 : goal.returns-then-kind-lt64
returns-then-kind-lt64 c = bit_in _ 0 _ (omega arith) c.has_bit.ensures

pub returns-then-kind-lt128 : goal.returns-then-kind-lt128
returns-then-kind-lt128 c = bit_in _ 1 _ (omega arith) c.has_bit-then-kind-lt128.ensures

pub returns-then-kind-lt192 : goal.returns-then-kind-lt192
returns-then-kind-lt192 c = bit_in _ 2 _ (omega arith) c.has_bit-then-kind-lt192.ensures

pub returns-then-kind-lt256 : goal.returns-then-kind-lt256
returns-then-kind-lt256 c = bit_in _ 3 _ (omega arith) c.has_bit-then-kind-lt256.ensures

pub returns : goal.returns
returns c = sym (no-bit _ _ (let n : length c.args.self.words ≡ 4 = search rules in omega arith))
