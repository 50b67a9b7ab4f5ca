-- `parse` meets its contract: the tests in their order, and the run. Assumes nothing.
use mathlib.Core.Path.{refl}
use Rattle.parse.specs.Parse.{Lent, lent}
use Rattle.parse.proofs.Outcomes.{has_words, is-known, mode-fails, tokens-fail, joints-fail, kinds-fail, runs}
use Rattle.parse.proofs.parse.Goals as goal
use Rattle.parse.proofs.parse.Goals.{Start}

-- all that is lent
abbrev l : Start → Lent
l c = lent c.args.entry c.args.mode c.args.kinds.now c.args.joints.now c.args.room.now

pub returns-then-mode-gt1 : goal.returns-then-mode-gt1
returns-then-mode-gt1 c = mode-fails (l (goal.at.returns-then-mode-gt1 c).Start) _ c.if-mode-gt1.true refl

pub returns-then-kinds-gt-MOST_TOKENS : goal.returns-then-kinds-gt-MOST_TOKENS
returns-then-kinds-gt-MOST_TOKENS c = tokens-fail (l (goal.at.returns-then-kinds-gt-MOST_TOKENS c).Start) c.if-mode-gt1.false _ c.if-kinds-gt-MOST_TOKENS.true refl

pub returns-then-joints-kinds : goal.returns-then-joints-kinds
returns-then-joints-kinds c = joints-fail (l (goal.at.returns-then-joints-kinds c).Start) c.if-mode-gt1.false c.if-kinds-gt-MOST_TOKENS.false _ c.if-joints-kinds.true refl

pub returns-then-fault-kinds : goal.returns-then-fault-kinds
returns-then-fault-kinds c = kinds-fail (l (goal.at.returns-then-fault-kinds c).Start) c.if-mode-gt1.false c.if-kinds-gt-MOST_TOKENS.false c.if-joints-kinds.false _ _ c.first_fault-fault.ensures c.if-fault-kinds.true refl

pub settle-requires-clause-known : goal.settle-requires-clause-known
settle-requires-clause-known c = is-known _ _ _ _ _ c.run-p.ensures

pub settle-requires-clause-events_in_bounds : goal.settle-requires-clause-events_in_bounds
settle-requires-clause-events_in_bounds c = has_words _ _ _ _ _ c.run-p.ensures

pub returns : goal.returns
returns c = runs (l (goal.at.returns c).Start) c.if-mode-gt1.false c.if-kinds-gt-MOST_TOKENS.false c.if-joints-kinds.false _ c.first_fault-fault.ensures c.if-fault-kinds.false _ _ _ _ c.run-p.ensures c.run-p.auto.room c.settle.ensures
