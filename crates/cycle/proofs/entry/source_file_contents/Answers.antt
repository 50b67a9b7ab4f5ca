use mathlib.Core.Path.{refl, sym, ◌∙◌}
use Rattle.runtime.proofs.Laws.{then, see, ends, falls, left-on, ran-none, ran-more, ran-done}
use Rattle.grammar.specs.Items as I
use Rattle.grammar.proofs.Spends.{item-spends}
use Rattle.cycle.proofs.entry.source_file_contents.Goals as goal

pub loop-level-init : goal.loop-level-init
loop-level-init c = (refl, ran-none _ _ _ _)

pub returns-then-at : goal.returns-then-at
unfolding I.source_file_contents I.source_file_contents_round
returns-then-at c = ran-done _ _ _ _ _ _ _ _ c.loop-level.invariant.1 (see _ _ _ _ c.at.ensures (rw c.if-at.true (ends _ _ _)))

pub loop-level-smaller : goal.loop-level-smaller
loop-level-smaller c = falls _ _ _ (item-spends _ _ _) (left-on _ _ (sym c.at.ensures ∙ c.if-at.false)) c.item_at-q.ensures

pub loop-level-preserved : goal.loop-level-preserved
unfolding I.source_file_contents_round
loop-level-preserved c = (c.item_at-q.auto.room ∙ c.loop-level.invariant.0, ran-more _ _ _ _ _ _ _ _ c.loop-level.invariant.1 (see _ _ _ _ c.at.ensures (rw c.if-at.false (see _ _ _ _ refl (then _ _ _ _ c.item_at-q.ensures (ends _ _ _))))) (loop-level-smaller c))
