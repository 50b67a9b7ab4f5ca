-- When a list is well formed, and where it is not (docs/RULES.md, section 6): told by the places of its events and by counts over the
-- first of them. Nothing here goes through a list with a depth in hand.
use Rattle.std.specs.Prelude.{ℕ, suc, ◌+◌, ◌*◌, ◌≤◌, ◌<◌, ◌≡◌, Bool, true, false, cond, List, [], ◌∷◌, eqb, length, get_or, take}
use Rattle.event.specs.declared.Event.{Event}
use Rattle.event.specs.declared.Event.TheVariants.{Start, Finish, Token, Error, NoEvent}
use Rattle.event.specs.Event.{event_words, words, encode, Sound, none, is_start, distance}

-- a start whose kind is not TOMBSTONE, and a finish
abbrev pub is_node : Event → Bool
is_node (Start k d) = cond (eqb k 0) false true
is_node Finish = false
is_node (Token k n) = false
is_node (Error c x f) = false
is_node (NoEvent a b) = false

abbrev pub is_finish : Event → Bool
is_finish (Start k d) = false
is_finish Finish = true
is_finish (Token k n) = false
is_finish (Error c x f) = false
is_finish (NoEvent a b) = false

-- how many of some events are such
unfoldable pub count : (Event → Bool) → List Event → ℕ
count is [] = 0
count is (e ∷ es) = cond (is e) 1 0 + count is es

-- how many of the first n events open a node, and how many close one: the depth is what the first has above the second
abbrev pub opened : List Event → ℕ → ℕ
opened es n = count is_node (take n es)

abbrev pub closed : List Event → ℕ → ℕ
closed es n = count is_finish (take n es)

-- event i; two words that are none of the four events stand there as they are, and are not sound (`said-event`, `event-said`)
abbrev pub event_at : List Event → ℕ → Event
event_at es i = get_or es i none

-- a start of the list at place j
pub record StartAt (es : List Event) (j : ℕ) : Type 0 where
  pub inside : j < length es
  pub start : is_start (event_at es j) ≡ true

-- What is asked at event i: it is an event, its distance lands on a start of the list, and the depth past it is not below 0;
pub record Right (es : List Event) (i : ℕ) : Type 0 where
  pub event : Sound (event_at es i)
  pub lands : (distance (event_at es i) ≡ 0 → ⊥) → StartAt es (i + distance (event_at es i))
  pub depth : closed es (suc i) ≤ opened es (suc i)

-- and one of these fails.
pub data Wrong (es : List Event) (i : ℕ) : Type 0 where
  no-event : (Sound (event_at es i) → ⊥) → Wrong es i
  astray : (distance (event_at es i) ≡ 0 → ⊥) → (StartAt es (i + distance (event_at es i)) → ⊥) → Wrong es i
  below : opened es (suc i) < closed es (suc i) → Wrong es i

-- A list is well formed when all of its events are right, and the depth at the end is 0.
pub record WellFormed (es : List Event) : Type 0 where
  pub right : (i : ℕ) → i < length es → Right es i
  pub zero : opened es (length es) ≡ closed es (length es)

-- The place of its fault: the first event that is wrong, or the number of events, where nodes are left open and no event is wrong.
pub data Fault (es : List Event) : ℕ → Type 0 where
  first : (i : ℕ) → i < length es → ((j : ℕ) → j < i → Right es j) → Wrong es i → Fault es i
  unclosed : ((j : ℕ) → j < length es → Right es j) → closed es (length es) < opened es (length es) → Fault es (length es)

-- a pair of words that are those of an event, its numbers in their ranges
pub record Said (ws : List ℕ) (i : ℕ) : Type 0 where
  pub event : Event
  pub sound : Sound event
  pub pair : encode event ≡ words (get_or ws (event_words * i) 0) (get_or ws (event_words * i + 1) 0)
