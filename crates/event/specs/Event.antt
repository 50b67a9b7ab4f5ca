-- An event and its words (docs/RULES.md, section 2), and a room of them. Assumes nothing: these are definitions.
use Rattle.std.specs.Prelude.{ℕ, ◌+◌, ◌*◌, ◌/◌, ◌%◌, ◌≤◌, ◌<◌, min, ◌≡◌, Bool, true, false, cond, List, [], ◌∷◌, eqb, leb, ltb, set}
use Rattle.event.specs.declared.Event.{Event}
use Rattle.event.specs.declared.Event.TheVariants.{Start, Finish, Token, Error, NoEvent}
use Rattle.event.specs.declared.Words.{Words}

-- how many words an event has, and how many events a list at most
abbrev pub event_words : ℕ
event_words = 2

abbrev pub most_events : ℕ
most_events = 65536

abbrev pub words : ℕ → ℕ → Words
words a b = record { first = a; second = b }

-- The words of an event: a tag above the kind or code, and then its number. Words that say no event are kept as they are.
unfoldable pub encode : Event → Words
encode (Start k d) = words (65536 + k) d
encode Finish = words 131072 0
encode (Token k n) = words (196608 + k) n
encode (Error c x f) = words (262144 + c) (x + 65536 * f)
encode (NoEvent a b) = words a b

-- An error, by its code and second word: "expected KIND", which is code 1, has there the kind expected and 65,536 times the kind found,
-- in any word of 32 bits; another code has an argument of 16 bits, and found nothing. What else stands there says x.
unfoldable pub error_of : ℕ → ℕ → Event → Event
error_of c b x =
    cond (eqb c 1) (cond (ltb b 4294967296) (Error c (b % 65536) (b / 65536)) x)
    (cond (ltb b 65536) (Error c b 0) x)

-- The event that words say. `encode-decode` and `decode-encode` (proofs/Encoding) hold it against `encode`.
unfoldable pub decode : ℕ → ℕ → Event
decode a b =
    cond (eqb (a / 65536) 1) (Start (a % 65536) b)
    (cond (eqb (a / 65536) 2) (cond (eqb (a % 65536) 0) (cond (eqb b 0) Finish (NoEvent a b)) (NoEvent a b))
    (cond (eqb (a / 65536) 3) (cond (eqb b 0) (NoEvent a b) (cond (leb b 3) (Token (a % 65536) b) (NoEvent a b)))
    (cond (eqb (a / 65536) 4) (error_of (a % 65536) b (NoEvent a b)) (NoEvent a b))))

-- an event whose numbers are in their ranges
abbrev pub Sound : Event → Type 0
Sound (Start k d) = k < 65536
Sound Finish = Unit {0}
Sound (Token k n) = (k < 65536) × (1 ≤ n) × (n ≤ 3)
Sound (Error c x f) = (c < 65536) × (x < 65536) × (f < 65536) × ((c ≡ 1 → ⊥) → f ≡ 0)
Sound (NoEvent a b) = ⊥

-- a room's whole events; the word of an odd room that is in no event; and the words of events
unfoldable pub events_of : List ℕ → List Event
events_of [] = []
events_of (a ∷ []) = []
events_of (a ∷ (b ∷ ws)) = decode a b ∷ events_of ws

unfoldable pub left_over : List ℕ → List ℕ
left_over [] = []
left_over (a ∷ []) = a ∷ []
left_over (a ∷ (b ∷ ws)) = left_over ws

unfoldable pub words_of : List Event → List ℕ
words_of [] = []
words_of (e ∷ es) = (encode e).first ∷ ((encode e).second ∷ words_of es)

-- a room with the words of event i written
abbrev pub stored : List ℕ → ℕ → Event → List ℕ
stored ws i e = set (set ws (event_words * i) (encode e).first) (event_words * i + 1) (encode e).second

-- so many places hold at most 65,536 events
abbrev pub holds : ℕ → ℕ
holds n = min n most_events

-- zeros say no event; `Event::tombstone` of event.rs has no kind and no distance
abbrev pub none : Event
none = NoEvent 0 0

abbrev pub tombstone : Event
tombstone = Start 0 0

-- Events as parser.rs and event.rs take them apart: a start, a tombstone, a token,
abbrev pub is_start : Event → Bool
is_start (Start k d) = true
is_start Finish = false
is_start (Token k n) = false
is_start (Error c x f) = false
is_start (NoEvent a b) = false

abbrev pub is_bare : Event → Bool
is_bare (Start k d) = cond (eqb k 0) (eqb d 0) false
is_bare Finish = false
is_bare (Token k n) = false
is_bare (Error c x f) = false
is_bare (NoEvent a b) = false

abbrev pub is_token : Event → Bool
is_token (Start k d) = false
is_token Finish = false
is_token (Token k n) = true
is_token (Error c x f) = false
is_token (NoEvent a b) = false

-- the distance to the forward parent, 0 for none,
abbrev pub distance : Event → ℕ
distance (Start k d) = d
distance Finish = 0
distance (Token k n) = 0
distance (Error c x f) = 0
distance (NoEvent a b) = 0

-- and a start with another kind, or another distance
abbrev pub with_kind : ℕ → Event → Event
with_kind j (Start k d) = Start j d
with_kind j Finish = Finish
with_kind j (Token k n) = Token k n
with_kind j (Error c x f) = Error c x f
with_kind j (NoEvent a b) = NoEvent a b

abbrev pub with_distance : ℕ → Event → Event
with_distance j (Start k d) = Start k j
with_distance j Finish = Finish
with_distance j (Token k n) = Token k n
with_distance j (Error c x f) = Error c x f
with_distance j (NoEvent a b) = NoEvent a b
