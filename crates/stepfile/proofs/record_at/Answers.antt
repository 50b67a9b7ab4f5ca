-- `stepfile::record_at` meets its contract: a head says the kind and the length of one sort of record, or of none. Assumes nothing.
use borrow.Author.Rules.{rules}
use Rattle.stepfile.proofs.Fronts.{enter-at, leave-at, error-at, none-at}
use Rattle.stepfile.proofs.record_at.Goals as goal

pub returns-in-65538 : goal.returns-in-65538
returns-in-65538 c = enter-at _ _ _ c.requires.head _ c.in-65538.is c.two_at.ensures

pub returns-in-131072 : goal.returns-in-131072
returns-in-131072 c = leave-at _ _ _ c.requires.head c.in-131072.is

pub returns-in-262148 : goal.returns-in-262148
returns-in-262148 c = error-at _ _ _ c.requires.head _ _ c.in-262148.is c.two_at-in-262148.ensures c.two_at-in-262148-2.ensures

pub returns-in_default : goal.returns-in_default
returns-in_default c = none-at _ _ _ c.requires.head (search rules) (search rules) (search rules) (search rules) (search rules)
