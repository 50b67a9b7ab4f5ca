-- What is promised, on small steps: computed. Assumes nothing.
use mathlib.Core.Path.{◌≡◌, refl}
use mathlib.Core.Bool.{true, false}
use mathlib.Core.List.{List, [], ◌∷◌, map}
use Rattle.records.specs.declared.Step.{Step}
use Rattle.records.specs.declared.Step.TheVariants.{Enter as enter, Leave as leave, Token as token, Error as error}
use Rattle.stepfile.specs.Nesting.{nest, nests}
use Rattle.promises.specs.Promised.{raw_sum}

-- behind the enter of a root: one tree; a second root; a token outside; a node that stays open; steps that end below
rest : List (List Step)
rest =
    (enter 40 ∷ token 50 2 ∷ leave ∷ token 51 1 ∷ leave ∷ [])
    ∷ (leave ∷ enter 40 ∷ leave ∷ [])
    ∷ (leave ∷ token 50 1 ∷ [])
    ∷ (enter 40 ∷ error 2 0 ∷ leave ∷ [])
    ∷ (leave ∷ leave ∷ [])
    ∷ []

one-tree : map (nests 1 1) rest ≡ true ∷ false ∷ false ∷ false ∷ false ∷ []
unfolding rest nests nest
one-tree = refl

sums : map raw_sum rest ≡ 3 ∷ 0 ∷ 1 ∷ 0 ∷ 0 ∷ []
unfolding rest raw_sum
sums = refl
