-- `settle` meets its contract. Assumes nothing.
use mathlib.Core.Path.{◌≡◌, refl, ap}
use Rattle.std.proofs.lemmas.Option.{MatchOption-at_some, MatchOption-at_none}
use Rattle.runtime.specs.State.{Parser}
use Rattle.parse.specs.Parse.{number_of}
use Rattle.parse.specs.declared.Refusal.{Refusal}
use Rattle.parse.specs.Answer.{Faults}
use Rattle.parse.proofs.Outcomes.{settle-done, settle-refused}
use Rattle.parse.proofs.settle.Goals as goal

pub returns-in-Some : goal.returns-in-Some
returns-in-Some c =
    let f : Faults c.args.entry c.args.tokens c.args.p _ = MatchOption-at_some _ (λ (r : Refusal). Faults c.args.entry c.args.tokens c.args.p r) _ c.in-Some.is c.fault.ensures in
    settle-refused _ c.args.p c.args.room.now _ _ _ refl f.number f.same c.zero_from.ensures

pub returns-in-None : goal.returns-in-None
returns-in-None c =
    let z : number_of c.args.entry c.args.tokens c.args.p ≡ 0 = MatchOption-at_none (number_of c.args.entry c.args.tokens c.args.p ≡ 0) _ c.in-None.is c.fault.ensures in
    let l : c.p.inside.len ≡ c.args.p.len = ap (λ (p : Parser). p.len) c.p.view_is in
    rw (← c.p.view_is) (settle-done _ _ c.args.room.now _ (rw (← c.p.view_is) at z) (rw (← l) at c.requires.events_in_bounds) c.zero_from-in-None.ensures)
