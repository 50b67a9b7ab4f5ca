-- `events::resolve` meets its contract: the outcome, case by case.
-- Assumes nothing.
use native.Mathlib.Omega.{arith}
use mathlib.Core.Path.{◌≡◌, sym, ap, ◌∙◌}
use Rattle.std.proofs.lemmas.Result.{err_from_is_err_and}
use Rattle.event.specs.Event.{events_of}
use Rattle.lists.specs.Answer.{Numbers}
use Rattle.lists.specs.Check.{checked}
use Rattle.own.specs.Own.{need}
use Rattle.events.proofs.Passing.{passed-even, passed-sound, process-need}
use Rattle.events.proofs.Outcomes.{numbered, refuses, short, resolves}
use Rattle.events.proofs.resolve.Goals as goal
use Rattle.events.proofs.resolve.Goals.{In_ok-size}

-- the list passes
passed : (c : In_ok-size) → (checked c.args.words.now).code ≡ 0
passed c = ap (λ (a : Numbers). a.code) (sym c.in_ok-size.ensures.0)

pub returns-in_err-size : goal.returns-in_err-size
returns-in_err-size c =
    let p = err_from_is_err_and c.from_residual.result c.from_residual.ensures.1 in
    rw (p.1, p.2) (refuses _ _ _ c.in_err-size.ensures (numbered _))

pub returns-then-out-size : goal.returns-then-out-size
returns-then-out-size c =
    let k = (goal.at.returns-then-out-size c).In_ok-size in
    short _ _ (passed k) _ (omega (arith, k.in_ok-size.ensures.1)) (omega (arith, k.in_ok-size.ensures.1))

pub process-requires-clause-words_len : goal.process-requires-clause-words_len
process-requires-clause-words_len c = passed-even _ (passed (goal.at.process-requires-clause-words_len c).In_ok-size)

pub process-requires-clause-words_value : goal.process-requires-clause-words_value
process-requires-clause-words_value c = passed-sound _ (passed (goal.at.process-requires-clause-words_value c).In_ok-size)

pub process-requires-clause-size_value : goal.process-requires-clause-size_value
process-requires-clause-size_value c = c.in_ok-size.ensures.1 ∙ sym (process-need _)

pub returns : goal.returns
returns c =
    let p = c.process in
    let w = c.args.words.now in
    let e : p.result ≡ need (events_of w) = omega (arith, p.ensures.wrote.place, process-need (events_of w)) in
    rw (e, p.ensures.wrote.bytes, p.ensures.words_after) (resolves w _ (passed (goal.at.returns c).In_ok-size) (omega (arith, c.if-out-size.false, c.in_ok-size.ensures.1)))
