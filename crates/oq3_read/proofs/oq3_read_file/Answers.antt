-- `oq3_read::oq3_read_file` meets its contract: a good file's bytes and records, or a refusal's place, told. Assumes nothing.
use mathlib.Core.List.{[], ◌∷◌}
use mathlib.Core.Path.{refl}
use lib.Seq.{sets-eq}
use Rattle.oq3_read.proofs.Told.{too_short, is-told, no_records}
use Rattle.oq3_read.proofs.oq3_read_file.Goals as goal

pub returns-then-answer-lt2 : goal.returns-then-answer-lt2
returns-then-answer-lt2 c = too_short _ _ _ c.if-answer-lt2.true

pub returns-in-Ok : goal.returns-in-Ok
returns-in-Ok c =
    rw (← c.in-Ok.ensures) (is-told c.args.answer.now _ _ _ _ c.if-answer-lt2.false refl (sets-eq (_ ∷ _ ∷ []) c.args.answer.now 0 c.if-answer-lt2.false))

pub returns-in-Err : goal.returns-in-Err
returns-in-Err c =
    rw (← c.in-Err.ensures, c.place.ensures, no_records c.in-Err.e)
    (is-told c.args.answer.now _ _ _ _ c.if-answer-lt2.false c.code.ensures (sets-eq (_ ∷ _ ∷ []) c.args.answer.now 0 c.if-answer-lt2.false))
