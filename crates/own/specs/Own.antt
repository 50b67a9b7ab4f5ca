-- What an event asks for itself: its own step, whatever chain leads to it, and the bytes of that. The check adds these up.
use Rattle.std.specs.Prelude.{ℕ, ◌+◌, cond, List, [], ◌∷◌, eqb, length}
use Rattle.event.specs.declared.Event.{Event}
use Rattle.event.specs.declared.Event.TheVariants.{Start, Finish, Token, Error, NoEvent}
use Rattle.records.specs.declared.Step.{Step}
use Rattle.records.specs.declared.Step.TheVariants.{Enter as enter, Leave as leave, Token as token, Error as error, Expected as expected}
use Rattle.records.specs.Record.{bytes}

-- `enter_node`, unless the kind is TOMBSTONE
abbrev pub enters : ℕ → List Step
enters k = cond (eqb k 0) [] (enter k ∷ [])

-- the step of an error: "expected KIND", which is code 1, has what was found
abbrev pub reports : ℕ → ℕ → ℕ → Step
reports c x f = cond (eqb c 1) (expected x f) (error c x)

-- a start with a kind asks for its enter, a tombstone for nothing
abbrev pub own : Event → List Step
own (Start k d) = enters k
own Finish = leave ∷ []
own (Token k n) = token k n ∷ []
own (Error c x f) = reports c x f ∷ []
own (NoEvent a b) = []

-- the bytes of what an event asks for itself, and of all events
abbrev pub cost : Event → ℕ
cost e = length (bytes (own e))

unfoldable pub need : List Event → ℕ
need [] = 0
need (e ∷ es) = cost e + need es
