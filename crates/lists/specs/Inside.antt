-- What the contracts of the code inside cite: an event's traits, what an event comes to, and what a list does.
use Rattle.std.specs.Prelude.{ℕ, ◌+◌, ◌*◌, ◌/◌, ◌%◌, ◌^◌, ◌<◌, min, ◌≡◌, List, length, Option, Some, None, Result, Ok, Err}
use Rattle.event.specs.declared.Event.{Event}
use Rattle.event.specs.declared.Event.TheVariants.{Start, Finish, Token, Error, NoEvent}
use Rattle.event.specs.Event.{event_words, decode, events_of}
use Rattle.lists.specs.declared.Past.{Past}
use Rattle.lists.specs.declared.Refusal.{Refusal}
use Rattle.lists.specs.Answer.{says, refused}
use Rattle.lists.specs.Check.{Next.Open, Next.Fault, next, checked}
use Rattle.own.specs.Own.{cost, need}

-- An event's traits in a number: one more than the nodes it opens, 4 times its bytes, and 1; 0 for no event.
abbrev traits : ℕ → ℕ → ℕ
traits opens size = 1 + (opens + 4 * size)

unfoldable pub tells : Event → ℕ
tells (Start k d) = traits (1 + min k 1) (cost (Start k d))
tells Finish = traits 0 (cost Finish)
tells (Token k n) = traits 1 (cost (Token k n))
tells (Error c x f) = traits 1 (cost (Error c x f))
tells (NoEvent a b) = 0

-- A number that says the traits of each event with first word a: a bit for the second word, the last for 4 and more; above the bits the rest.
abbrev pub Traits : ℕ → ℕ → Type 0
Traits a r = (b : ℕ) → b < 65536 → r / 2 ^ min b 4 % 2 * (1 + r / 32) ≡ tells (decode a b)

-- what an event comes to, with o nodes open before it and es behind it
abbrev pub Passed : Event → ℕ → List Event → Option Past → Type 0
Passed e o es (Some p) = (next e o es ≡ Open p.held) × (p.bytes ≡ cost e)
Passed e o es None = next e o es ≡ Fault

-- whatever stands behind it
abbrev pub PassedAnyway : Event → ℕ → Option Past → Type 0
PassedAnyway e o r = (es : List Event) → Passed e o es r

-- a list that passes, with the bytes that its events ask for; and why another one doesn't
abbrev pub Measures : List ℕ → Result ℕ Refusal → Type 0
Measures ws (Ok size) = (says 0 (length ws / event_words) ≡ checked ws) × (size ≡ need (events_of ws))
Measures ws (Err e) = refused e ≡ checked ws
