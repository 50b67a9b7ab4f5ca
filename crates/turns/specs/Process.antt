-- Resolution as `process` of event.rs does it, each step with the place of the event that it comes from.
use Rattle.std.specs.Prelude.{ℕ, zero, suc, Bool, true, false, ◌||◌, List, [], ◌∷◌, ◌++◌, map, length, get_or, drop}
use Rattle.event.specs.declared.Event.{Event}
use Rattle.event.specs.declared.Event.TheVariants.{Start, Finish, Token, Error, NoEvent}
use Rattle.event.specs.Event.{tombstone}
use Rattle.records.specs.declared.Step.{Step}
use Rattle.records.specs.declared.Step.TheVariants.{Leave as leave, Token as token}
use Rattle.records.specs.Record.{bytes}
use Rattle.own.specs.Own.{enters, reports}

pub record Placed : Type 0 where
  pub place : ℕ
  pub step : Step

abbrev pub placed : ℕ → List Step → List Placed
placed p = map (λ s. record { place = p; step = s })

-- a kind that is collected into `forward_parents`, with its start's place
pub record Parent : Type 0 where
  pub place : ℕ
  pub kind : ℕ

-- What following distances comes to: the kinds collected, first met first; the events behind, with each visited start a bare
-- tombstone; and whether `process` panics on the way, by `unreachable!()` or by an index past the end.
pub record Followed : Type 0 where
  pub parents : List Parent
  pub left : List Event
  pub panics : Bool

abbrev ended : List Event → Followed
ended es = record { parents = []; left = es; panics = false }

abbrev stuck : List Event → Followed
stuck es = record { parents = []; left = es; panics = true }

-- passing an event on the way, and visiting the start that a distance lands on
abbrev pass : Event → Followed → Followed
pass e f = record { parents = f.parents; left = e ∷ f.left; panics = f.panics }

abbrev visit : ℕ → ℕ → Followed → Followed
visit p k f = record { parents = record { place = p; kind = k } ∷ f.parents; left = tombstone ∷ f.left; panics = f.panics }

-- the loop `while let Some(fwd) = fp`, over the events behind, of which the first has place p
unfoldable pub follow : ℕ → List Event → ℕ → Followed
follow p [] zero = ended []
follow p [] (suc d) = stuck []
follow p (e ∷ es) zero = ended (e ∷ es)
follow p (Start k f ∷ es) (suc zero) = visit p k (follow (suc p) es f)
follow p (Finish ∷ es) (suc zero) = stuck (Finish ∷ es)
follow p (Token k n ∷ es) (suc zero) = stuck (Token k n ∷ es)
follow p (Error c x f ∷ es) (suc zero) = stuck (Error c x f ∷ es)
follow p (NoEvent a b ∷ es) (suc zero) = stuck (NoEvent a b ∷ es)
follow p (e ∷ es) (suc (suc d)) = pass e (follow (suc p) es (suc d))

-- `forward_parents.drain(..).rev()`: the last collected is entered first
unfoldable pub entered : List Parent → List Placed
entered [] = []
entered (x ∷ xs) = entered xs ++ placed x.place (enters x.kind)

-- what a turn of the loop, or the whole loop, comes to
pub record Run : Type 0 where
  pub steps : List Placed
  pub left : List Event
  pub panics : Bool

-- The turn at event p, with es behind it: the `match` in `process`, which has no case for two words that say no event.
unfoldable pub turn : ℕ → Event → List Event → Run
turn p (Start k d) es =
    let f = follow (suc p) es d in
    record { steps = entered (record { place = p; kind = k } ∷ f.parents); left = f.left; panics = f.panics }
turn p Finish es = record { steps = placed p (leave ∷ []); left = es; panics = false }
turn p (Token k n) es = record { steps = placed p (token k n ∷ []); left = es; panics = false }
turn p (Error c x f) es = record { steps = placed p (reports c x f ∷ []); left = es; panics = false }
turn p (NoEvent a b) es = record { steps = []; left = es; panics = true }

-- a turn, which leaves its own event a tombstone, and the turns after it
abbrev pub and_then : Run → Run → Run
and_then t r = record { steps = t.steps ++ r.steps; left = tombstone ∷ r.left; panics = t.panics || r.panics }

-- n turns of `for i in 0..events.len()`, from event p on
unfoldable pub turns : ℕ → ℕ → List Event → Run
turns zero p es = record { steps = []; left = es; panics = false }
turns (suc n) p [] = record { steps = []; left = []; panics = true }
turns (suc n) p (e ∷ es) = and_then (turn p e es) (turns n (suc p) (turn p e es).left)

abbrev pub process : List Event → Run
process es = turns (length es) 0 es

-- the chain from event i by distance d, and the turn at event i, of a whole list: for the contracts of the code inside
abbrev pub chain : List Event → ℕ → ℕ → Followed
chain es i d = follow (suc i) (drop (suc i) es) d

abbrev pub turn_at : List Event → ℕ → Run
turn_at es i = turn i (get_or es i (NoEvent 0 0)) (drop (suc i) es)

-- the steps without their places, and their step file
abbrev pub steps_of : List Placed → List Step
steps_of = map (λ s. s.step)

abbrev pub file : List Placed → List ℕ
file ss = bytes (steps_of ss)
