-- `lex` meets its contract. Assumes nothing.
use mathlib.Core.Path.{refl, ◌∙◌}
use Rattle.std.proofs.lemmas.Result.{err_from_is_err_and}
use Rattle.lex.specs.Lexing.{lent}
use Rattle.lex.proofs.Placed.{written, refused, too_long, not-long}
use Rattle.lex.proofs.lex.Goals as goal

pub returns-then-text-gt-MOST_TEXT : goal.returns-then-text-gt-MOST_TEXT
returns-then-text-gt-MOST_TEXT c = too_long (lent c.args.text.now c.args.kinds.now c.args.joints.now c.args.tokens.now) c.if-text-gt-MOST_TEXT.true

pub returns-in_err-room_for : goal.returns-in_err-room_for
returns-in_err-room_for c =
    let p = err_from_is_err_and c.from_residual.result c.from_residual.ensures.1 in
    let e = c.in_err-room_for.ensures.err in
    let l = lent c.new-all.result.rest.now c.args.kinds.now c.args.joints.now c.args.tokens.now in
    rw (← c.new-all.ensures, p.1, p.2, e.1) (not-long l c.new-all.result.few ∙ refused l refl e.0)

pub returns : goal.returns
returns c =
    let l = lent c.new-all.result.rest.now c.args.kinds.now c.args.joints.now c.args.tokens.now in
    rw (← c.new-all.ensures) (not-long l c.new-all.result.few ∙ written l c.in_ok-room_for.ensures.ok c.put_all.ensures)
