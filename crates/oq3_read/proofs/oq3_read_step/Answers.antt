-- `oq3_read::oq3_read_step` meets its contract: what stands at the front, told. Assumes nothing.
use mathlib.Core.Path.{sym, ap, ◌∙◌}
use Rattle.stepfile.specs.Answer.{number_of}
use Rattle.oq3_read.proofs.Told.{no_words, step-told}
use Rattle.oq3_read.proofs.oq3_read_step.Goals as goal

pub returns-then-answer-lt6 : goal.returns-then-answer-lt6
returns-then-answer-lt6 c = no_words _ _ c.if-answer-lt6.true

pub returns-in-Ok : goal.returns-in-Ok
returns-in-Ok c =
    let a = c.args in
    step-told a.file.now a.answer.now _ _ _ _ _ c.if-answer-lt6.false c.front-f.ensures (sym (ap number_of c.in-Ok.is)) c.width.ensures c.of_front.ensures c.tell.ensures

pub returns-in-Err : goal.returns-in-Err
returns-in-Err c =
    let a = c.args in
    step-told a.file.now a.answer.now _ _ _ _ _ c.if-answer-lt6.false c.front-f.ensures (c.code.ensures ∙ sym (ap number_of c.in-Err.is)) c.width.ensures c.of_front.ensures c.tell.ensures
