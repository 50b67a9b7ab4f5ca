-- The list check (docs/RULES.md, sections 3 and 6): the first faulty event, or done.
use Rattle.std.specs.Prelude.{ℕ, zero, suc, ◌+◌, ◌/◌, ◌%◌, min, Bool, true, cond, List, [], ◌∷◌, eqb, ltb, length, get_or}
use Rattle.event.specs.declared.Event.{Event}
use Rattle.event.specs.declared.Event.TheVariants.{Start, Finish, Token, Error, NoEvent}
use Rattle.event.specs.Event.{event_words, most_events, events_of, is_start}
use Rattle.lists.specs.Answer.{Numbers, says}

-- a distance, told from the events behind its start: none, or to a start among them
abbrev pub lands : List Event → ℕ → Bool
lands es zero = true
lands es (suc d) = is_start (get_or es d (NoEvent 0 0))

-- the nodes open past an event, or a fault
pub data Next : Type 0 where
  Open : ℕ → Next
  Fault : Next

-- The nodes open past an event, of o open before it and with es behind it; or a fault. A start with a kind counts where it stands.
unfoldable pub next : Event → ℕ → List Event → Next
next (Start k d) o es = cond (lands es d) (Open (o + min k 1)) Fault
next Finish zero es = Fault
next Finish (suc o) es = Open o
next (Token k n) o es = Open o
next (Error c x f) o es = Open o
next (NoEvent a b) o es = Fault

abbrev pub on_next : Next → (ℕ → Numbers) → Numbers → Numbers
on_next (Open o) go fault = go o
on_next Fault go fault = fault

-- the list from event i on, with o nodes open; what is seen only at the end has the number of events as its place
unfoldable pub scan : List Event → ℕ → ℕ → Numbers
scan [] i zero = says 0 i
scan [] i (suc o) = says 9 i
scan (e ∷ es) i o = on_next (next e o es) (λ p. scan es (suc i) p) (says 9 i)

-- more than 65,536 whole events; an odd number of words; the list
unfoldable pub checked : List ℕ → Numbers
checked ws =
    cond (ltb most_events (length ws / event_words)) (says 2 0)
    (cond (eqb (length ws % event_words) 0) (scan (events_of ws) 0 0) (says 9 (length ws / event_words)))
