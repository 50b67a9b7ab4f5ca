-- `operator_at` meets its contract: of a kind that is in no arm no operator begins. Assumes nothing.
use Rattle.std.proofs.Common.{ne_eqb, rules}
use Rattle.kinds.specs.Kinds.{PIPE, R-ANGLE, EQ, L-ANGLE, PLUS, CARET, PERCENT, AMP, SLASH, STAR, DOT, BANG, MINUS}
use Rattle.runtime.proofs.Laws.{only, ends}
use Rattle.operators.proofs.operator_at.Goals as goal

pub returns-in_default : goal.returns-in_default
returns-in_default c =
    let k = c.args.kind in
    only _ _ _ (λ room.
    rw (ne_eqb k PIPE (search rules)) (
    rw (ne_eqb k R-ANGLE (search rules)) (
    rw (ne_eqb k EQ (search rules)) (
    rw (ne_eqb k L-ANGLE (search rules)) (
    rw (ne_eqb k PLUS (search rules)) (
    rw (ne_eqb k CARET (search rules)) (
    rw (ne_eqb k PERCENT (search rules)) (
    rw (ne_eqb k AMP (search rules)) (
    rw (ne_eqb k SLASH (search rules)) (
    rw (ne_eqb k STAR (search rules)) (
    rw (ne_eqb k DOT (search rules)) (
    rw (ne_eqb k BANG (search rules)) (
    rw (ne_eqb k MINUS (search rules)) (
    (ends _ _ _)))))))))))))))
