-- Small lists, computed: the counts over their first events, the bytes that their steps take; P7 to P10 of the rules, well formed or not; and
-- a condition of each sort.
use Rattle.std.specs.Prelude.{ℕ, zero, suc, ◌<◌, ◌≡◌, refl, List, [], ◌∷◌, map, replicate}
use Rattle.std.proofs.Common.{arith, sym, true≢false}
use Rattle.event.specs.declared.Event.{Event}
use Rattle.event.specs.declared.Event.TheVariants.{Start, Finish, Token, Error, NoEvent}
use Rattle.event.specs.Event.{encode, decode, events_of, words_of, tombstone}
use Rattle.listed.specs.WellFormed.{count, opened, closed, Right, Wrong.no-event, Wrong.astray, Wrong.below, WellFormed, Fault, Fault.first, Fault.unclosed}
use Rattle.listed.specs.Conditions.{needed, Faulty, Faulty.odd, Refused, Refused.small}

-- a list, how many of its first n events open and close a node, and the bytes that its steps take
record Row : Type 0 where
  events : List Event
  n : ℕ
  opens : ℕ
  closes : ℕ
  bytes : ℕ

abbrev row : List Event → ℕ → ℕ → ℕ → ℕ → Row
row es n o c b = record { events = es; n = n; opens = o; closes = c; bytes = b }

abbrev got : Row → Row
got r = row r.events r.n (opened r.events r.n) (closed r.events r.n) (needed r.events)

abbrev listing : List Event
listing =
    Start 0 1 ∷ Start 40 3 ∷ Token 50 1 ∷ Finish ∷ Start 41 0 ∷ Token 51 1 ∷ Start 0 1 ∷ Start 40 0 ∷ Token 50 1 ∷ Finish ∷ Finish ∷ []

rows : List Row
rows =
    -- the listing of docs/RULES.md: at the front, past the tombstone, past its first node, in the second, and at the end
    row listing 0 0 0 51
    ∷ row listing 1 0 0 51
    ∷ row listing 4 1 1 51
    ∷ row listing 8 3 1 51
    ∷ row listing 11 3 3 51
    -- an error, one with what was found, and words that are no event
    ∷ row (Error 2 0 0 ∷ Error 1 3 1 ∷ NoEvent 7 7 ∷ []) 3 0 0 18
    ∷ []

table : map got rows ≡ rows
unfolding rows count
table = refl

-- P7: a finish alone takes the depth below 0
p7 : Fault (Finish ∷ []) 0
unfolding count
p7 = first 0 (omega arith) (λ j l. absurd (omega arith)) (below (omega arith))

-- P8: a bare tombstone
p8 : WellFormed (tombstone ∷ [])
unfolding count
p8 = record { right = alone; zero = refl }
  where
    alone : (i : ℕ) → i < 1 → Right (tombstone ∷ []) i
    alone zero l = record { event = omega arith; lands = λ n. absurd (n refl); depth = omega arith }
    alone (suc i) l = absurd (omega arith)

-- P9: a start of kind 40 alone is left open
p9 : Fault (Start 40 0 ∷ []) 1
unfolding count
p9 = unclosed alone (omega arith)
  where
    alone : (i : ℕ) → i < 1 → Right (Start 40 0 ∷ []) i
    alone zero l = record { event = omega arith; lands = λ n. absurd (n refl); depth = omega arith }
    alone (suc i) l = absurd (omega arith)

-- P10: no event
p10 : WellFormed []
unfolding count
p10 = record { right = λ i l. absurd (omega arith); zero = refl }

-- words that are no event, and a distance that lands on a token
unsaid : Fault (NoEvent 7 7 ∷ []) 0
unsaid = first 0 (omega arith) (λ j l. absurd (omega arith)) (no-event (λ n. n))

on-a-token : Fault (Start 40 1 ∷ Token 50 1 ∷ Finish ∷ []) 0
on-a-token = first 0 (omega arith) (λ j l. absurd (omega arith)) (astray (λ z. omega arith) (λ s. absurd (true≢false (sym s.start))))

-- an odd word behind a finish: the place is the number of whole events
odd-word : Faulty (131072 ∷ 0 ∷ 7 ∷ []) 9 1
odd-word = odd (λ z. omega arith)

-- the listing, with one byte too few for its steps
small-room : Refused (words_of listing) (replicate 50 170) 10 51
unfolding count encode decode events_of words_of
small-room = small (omega arith)
