-- `oq3::oq3_lex` meets its contract: what the lexer says, told.
-- Assumes nothing.
use Rattle.std.specs.Prelude.{Ok}
use Rattle.lex.specs.Answer.{numbers}
use Rattle.oq3.proofs.Told.{no-lex-room, lex-told, lex-refused}
use Rattle.oq3.proofs.oq3_lex.Goals as goal

pub returns-then-answer-lt2 : goal.returns-then-answer-lt2
returns-then-answer-lt2 c = no-lex-room _ _ _ _ _ c.if-answer-lt2.true

pub returns-in-Ok : goal.returns-in-Ok
returns-in-Ok c =
    lex-told c.args.text.now c.args.kinds.now c.args.joints.now c.args.tokens.now c.args.answer.now (numbers (Ok c.in-Ok.l)) _ _ _ c.if-answer-lt2.false c.in-Ok.ensures

pub returns-in-Err : goal.returns-in-Err
returns-in-Err c =
    lex-refused c.args.text.now c.args.kinds.now c.args.joints.now c.args.tokens.now c.args.answer.now c.in-Err.r _ _ _ _ _ c.if-answer-lt2.false c.in-Err.ensures c.code.ensures c.place.ensures
