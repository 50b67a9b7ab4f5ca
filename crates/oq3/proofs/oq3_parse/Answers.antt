-- `oq3::oq3_parse` meets its contract.
-- Assumes nothing.
use mathlib.Core.Path.{refl}
use borrow.Author.Rules.{rules}
use Rattle.parse.specs.Parse.{refuses}
use Rattle.oq3.proofs.Told.{parse-told, no_words, from-entry, no-entry}
use Rattle.oq3.proofs.oq3_parse.Goals as goal

pub returns-then-answer-lt3 : goal.returns-then-answer-lt3
returns-then-answer-lt3 c = no_words _ _ _ _ _ _ c.if-answer-lt3.true

pub returns-in-0 : goal.returns-in-0
returns-in-0 c = from-entry _ _ _ _ _ _ 0 _ c.if-answer-lt3.false c.in-0.is c.parse_from.ensures

pub returns-in-1 : goal.returns-in-1
returns-in-1 c = from-entry _ _ _ _ _ _ 1 _ c.if-answer-lt3.false c.in-1.is c.parse_from-in-1.ensures

pub returns-in-2 : goal.returns-in-2
returns-in-2 c = from-entry _ _ _ _ _ _ 2 _ c.if-answer-lt3.false c.in-2.is c.parse_from-in-2.ensures

pub returns-in_default : goal.returns-in_default
returns-in_default c =
    let a = c.args in
    from-entry a.entry _ _ _ _ _ a.entry _ c.if-answer-lt3.false refl
    (parse-told _ _ _ _ (refuses 101 0) _ (no-entry a.entry _ _ _ _ a.answer.now (search rules) (search rules) (search rules)) refl c.put_three.ensures)
