-- What the steps of a run are held against: their depth, the events that they come from, and their order.
use Rattle.std.specs.Prelude.{ℕ, zero, suc, Bool, true, false, cond, List, [], ◌∷◌, ◌++◌, eqb}
use Rattle.event.specs.declared.Event.{Event}
use Rattle.event.specs.Event.{is_start}
use Rattle.records.specs.declared.Step.{Step}
use Rattle.records.specs.declared.Step.TheVariants.{Enter as enter, Leave as leave, Token as token, Error as error, Expected as expected}
use Rattle.own.specs.Own.{own}
use Rattle.turns.specs.Process.{Placed, placed}

-- with o nodes open, the steps leave no node that is not open, and leave all of them
unfoldable pub closes : ℕ → List Step → Bool
closes zero [] = true
closes (suc o) [] = false
closes o (enter k ∷ ss) = closes (suc o) ss
closes zero (leave ∷ ss) = false
closes (suc o) (leave ∷ ss) = closes o ss
closes o (token k n ∷ ss) = closes o ss
closes o (error c x ∷ ss) = closes o ss
closes o (expected k f ∷ ss) = closes o ss

-- the steps that come from event i
unfoldable pub from : ℕ → List Placed → List Step
from i [] = []
from i (s ∷ ss) = cond (eqb s.place i) (s.step ∷ from i ss) (from i ss)

-- whether a tombstone is entered
unfoldable pub enters_tombstone : List Step → Bool
enters_tombstone [] = false
enters_tombstone (enter zero ∷ ss) = true
enters_tombstone (enter (suc k) ∷ ss) = enters_tombstone ss
enters_tombstone (leave ∷ ss) = enters_tombstone ss
enters_tombstone (token k n ∷ ss) = enters_tombstone ss
enters_tombstone (error c x ∷ ss) = enters_tombstone ss
enters_tombstone (expected k f ∷ ss) = enters_tombstone ss

abbrev pub is_enter : Step → Bool
is_enter (enter k) = true
is_enter leave = false
is_enter (token k n) = false
is_enter (error c x) = false
is_enter (expected k f) = false

-- the steps that are no enter, and those that the events from place p on ask for, in the list's order
unfoldable pub others : List Placed → List Placed
others [] = []
others (s ∷ ss) = cond (is_enter s.step) (others ss) (s ∷ others ss)

unfoldable pub plain : ℕ → List Event → List Placed
plain p [] = []
plain p (e ∷ es) = cond (is_start e) [] (placed p (own e)) ++ plain (suc p) es
