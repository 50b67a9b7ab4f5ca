-- Small runs, and the edges of each operation, computed: what is told, consumed, written, looked up and refused. Assumes nothing.
use mathlib.Core.Path.{◌≡◌, refl}
use mathlib.Core.Bool.{Bool, cond}
use mathlib.Core.List.{List, [], ◌∷◌, ◌++◌, map}
use Prim.Native.Nat.{ℕ}
use lib.ListN.{replicate}
use Rattle.kinds.specs.Kinds.{TOMBSTONE, EOF, COMMA, L-CURLY, R-CURLY, DOT, DOT2, DOT3, DOT2EQ, R-ANGLE, EQ, EQ2, GTEQ, SHR, SHREQ, IDENT, SEMICOLON, ERROR, NAME, BIN-EXPR}
use Rattle.kinds.specs.Membership.{bit, one_of}
use Rattle.kinds.specs.Sets.{EMPTY, ITEM-RECOVERY-SET}
use Rattle.runtime.specs.State.{Parser}
use Rattle.runtime.specs.declared.parser.Completed.{Completed}
use Rattle.runtime.specs.declared.parser.Stop.TheVariants.{Deep, Panic}
use Rattle.input.specs.Input.{Env, env, seen}
use Rattle.input.specs.Glue.{parts_of, stands_at}
use Rattle.event.specs.declared.Event.{Event}
use Rattle.event.specs.declared.Event.TheVariants.{Start, Finish, Token, Error}
use Rattle.event.specs.Event.{error_of, encode, decode, events_of, left_over, words_of}
use Rattle.runtime.specs.State.{St, view, new, looked, halted, event_at, push_event, consume, do_bump, named, linked, dropped}
use Rattle.runtime.specs.Cover.{events}
use Rattle.runtime.specs.Acts.{Acts, step, run, ◌>>=◌, ◌>>◌, at_ts, bump, bump_any, expect, err_recover, err_and_bump, must, goes_on}
use Rattle.runtime.specs.Acts as acts

-- tokens consumed, the events, lookups in all, and the refusal
pub record Told : Type 0 where
  pub pos : ℕ
  pub events : List Event
  pub looks : ℕ
  pub refused : ℕ

-- the acts, the kinds, a word of joint bits, and the words of the room; and what they come to
pub record Row : Type 0 where
  pub acts : Acts (Unit {0})
  pub kinds : List ℕ
  pub joints : ℕ
  pub room : ℕ
  pub told : Told

abbrev tells : St → Told
tells s = record { pos = s.p.pos; events = events s; looks = s.p.looks; refused = s.p.refused }

abbrev pub ends : Row → Told
ends r = tells (run (env r.kinds (r.joints ∷ [])) r.acts (view new (replicate r.room 0))).1

-- a start that is completed, and another before it
abbrev around : Acts (Unit {0})
around = do
  a ← acts.start
  c ← acts.complete a NAME
  b ← acts.precede c
  acts.complete b BIN-EXPR
  acts.done tt

-- a completed start that another before it is extended to
abbrev leftwards : Acts (Unit {0})
leftwards = do
  a ← acts.start
  b ← acts.start
  c ← acts.complete b NAME
  acts.extend_to c a
  acts.done tt

-- an outer start that is abandoned
abbrev outer : Acts (Unit {0})
outer = do
  a ← acts.start
  b ← acts.start
  acts.abandon a

abbrev rows : List Row
rows =
    -- an error at the end of the input: a node without a token, three lookups
    record { acts = err_recover 2 EMPTY; kinds = []; joints = 0; room = 6; told = record { pos = 0; events = Start ERROR 0 ∷ Error 2 0 0 ∷ Finish ∷ []; looks = 3; refused = 0 } }
    -- the same in a room of two events: nothing is closed
    ∷ record { acts = err_recover 2 EMPTY; kinds = []; joints = 0; room = 5; told = record { pos = 0; events = Start ERROR 0 ∷ Error 2 0 0 ∷ []; looks = 3; refused = 5 } }
    -- at `{` and at a kind of the set, the error alone
    ∷ record { acts = err_recover 2 EMPTY; kinds = L-CURLY ∷ []; joints = 0; room = 6; told = record { pos = 0; events = Error 2 0 0 ∷ []; looks = 1; refused = 0 } }
    ∷ record { acts = err_recover 2 ITEM-RECOVERY-SET; kinds = SEMICOLON ∷ []; joints = 0; room = 6; told = record { pos = 0; events = Error 2 0 0 ∷ []; looks = 2; refused = 0 } }
    -- `>>` is consumed where the two are joint, and not where they are not; `>>=` needs both joints
    ∷ record { acts = bump SHR; kinds = R-ANGLE ∷ R-ANGLE ∷ []; joints = 1; room = 2; told = record { pos = 2; events = Token SHR 2 ∷ []; looks = 0; refused = 0 } }
    ∷ record { acts = bump SHR; kinds = R-ANGLE ∷ R-ANGLE ∷ []; joints = 0; room = 2; told = record { pos = 0; events = []; looks = 0; refused = 8 } }
    ∷ record { acts = bump SHREQ; kinds = R-ANGLE ∷ R-ANGLE ∷ EQ ∷ []; joints = 3; room = 2; told = record { pos = 3; events = Token SHREQ 3 ∷ []; looks = 0; refused = 0 } }
    ∷ record { acts = bump SHREQ; kinds = R-ANGLE ∷ R-ANGLE ∷ EQ ∷ []; joints = 1; room = 2; told = record { pos = 0; events = []; looks = 0; refused = 8 } }
    -- one kind ignores joint bits
    ∷ record { acts = bump R-ANGLE; kinds = R-ANGLE ∷ R-ANGLE ∷ []; joints = 1; room = 2; told = record { pos = 1; events = Token R-ANGLE 1 ∷ []; looks = 0; refused = 0 } }
    -- a token whose event finds no room is not consumed
    ∷ record { acts = bump_any; kinds = IDENT ∷ []; joints = 0; room = 1; told = record { pos = 0; events = []; looks = 1; refused = 5 } }
    -- a kind that is due and does not come: what stands there is recorded, the end too, and of a joint `==` its first token
    ∷ record { acts = expect SEMICOLON >> acts.done tt; kinds = IDENT ∷ []; joints = 0; room = 2; told = record { pos = 0; events = Error 1 SEMICOLON IDENT ∷ []; looks = 0; refused = 0 } }
    ∷ record { acts = expect SEMICOLON >> acts.done tt; kinds = []; joints = 0; room = 2; told = record { pos = 0; events = Error 1 SEMICOLON EOF ∷ []; looks = 0; refused = 0 } }
    ∷ record { acts = expect SEMICOLON >> acts.done tt; kinds = EQ ∷ EQ ∷ []; joints = 1; room = 2; told = record { pos = 0; events = Error 1 SEMICOLON EQ ∷ []; looks = 0; refused = 0 } }
    -- EOF is seen past the last token, and never consumed
    ∷ record { acts = bump EOF; kinds = []; joints = 0; room = 2; told = record { pos = 0; events = []; looks = 0; refused = 8 } }
    -- an abandoned start goes where it is last, and stays where it is not
    ∷ record { acts = acts.start >>= acts.abandon; kinds = []; joints = 0; room = 2; told = record { pos = 0; events = []; looks = 0; refused = 0 } }
    ∷ record { acts = outer; kinds = []; joints = 0; room = 4; told = record { pos = 0; events = Start TOMBSTONE 0 ∷ Start TOMBSTONE 0 ∷ []; looks = 0; refused = 0 } }
    -- distances
    ∷ record { acts = around; kinds = []; joints = 0; room = 8; told = record { pos = 0; events = Start NAME 2 ∷ Finish ∷ Start BIN-EXPR 0 ∷ Finish ∷ []; looks = 0; refused = 0 } }
    ∷ record { acts = leftwards; kinds = []; joints = 0; room = 6; told = record { pos = 0; events = Start TOMBSTONE 1 ∷ Start NAME 0 ∷ Finish ∷ []; looks = 0; refused = 0 } }
    -- a position that holds no start
    ∷ record { acts = acts.complete 0 NAME >> acts.done tt; kinds = []; joints = 0; room = 4; told = record { pos = 0; events = []; looks = 0; refused = 8 } }
    ∷ []

pub all_hold : map ends rows ≡ map (λ (r : Row). r.told) rows
unfolding run step ◌>>=◌ err_recover bump bump_any expect at_ts bit one_of seen stands_at parts_of error_of decode events_of left_over looked halted event_at push_event consume do_bump named linked dropped
all_hold = refl

-- An edge: the acts, the tokens, and the state and the room's words before; then what the acts have answered, one after the other (1 for
-- yes and 0 for no), and the state and the words afterwards.
pub record Edge : Type 0 where
  pub acts : Acts (List ℕ)
  pub tokens : Env
  pub before : Parser
  pub room : List ℕ
  pub answers : List ℕ
  pub after : Parser
  pub left : List ℕ

-- what it comes to
pub record Came : Type 0 where
  pub answers : List ℕ
  pub after : Parser
  pub left : List ℕ

abbrev came : List ℕ × St → Came
came r = record { answers = r.0; after = r.1.p; left = words_of r.1.room ++ r.1.rest }

abbrev pub comes : Edge → Came
comes e = came (run e.tokens e.acts (view e.before e.room))

abbrev wanted : Edge → Came
wanted e = record { answers = e.answers; after = e.after; left = e.left }

-- the numbers of a state: tokens consumed, lookups since and in all, events, the refusal
abbrev numbers : ℕ → ℕ → ℕ → ℕ → ℕ → Parser
numbers pos since looks len refused = record { pos = pos; since = since; looks = looks; len = len; refused = refused }

abbrev flag : Bool → ℕ
flag b = cond b 1 0

-- no token: every kind is EOF, no glued kind stands there, and EOF is not consumed
abbrev no_token : Acts (List ℕ)
no_token = do
  a ← acts.nth 0
  b ← acts.nth 3
  c ← acts.at EOF
  d ← acts.at SHR
  g ← goes_on SEMICOLON
  t ← at_ts ITEM-RECOVERY-SET
  bump_any
  f ← acts.eat SEMICOLON
  h ← expect SEMICOLON
  err_and_bump 2
  must EOF
  bump EOF
  k ← acts.current
  m ← acts.start
  acts.done (a ∷ b ∷ flag c ∷ flag d ∷ flag g ∷ flag t ∷ flag f ∷ flag h ∷ k ∷ m ∷ [])

-- the last token, and past it
abbrev last_token : Acts (List ℕ)
last_token = do
  a ← acts.nth 1
  b ← acts.nth 2
  bump IDENT
  g ← goes_on R-CURLY
  t ← at_ts ITEM-RECOVERY-SET
  f ← acts.eat COMMA
  h ← expect SEMICOLON
  d ← acts.at EOF
  bump_any
  k ← acts.current
  must SEMICOLON
  acts.done (a ∷ b ∷ flag g ∷ flag t ∷ flag f ∷ flag h ∷ flag d ∷ k ∷ [])

-- a start, a token and a finish, and then a token and an error
abbrev node : Acts (List ℕ)
node = do
  m ← acts.start
  bump_any
  acts.complete m NAME
  f ← acts.eat IDENT
  acts.error 2 0
  acts.done (m ∷ flag f ∷ [])

-- an abandoned start, and two more
abbrev freed : Acts (List ℕ)
freed = do
  a ← acts.start
  acts.abandon a
  b ← acts.start
  c ← acts.start
  acts.done (a ∷ b ∷ c ∷ [])

-- glued kinds over the border of two words of joint bits: what is seen from token 62 on, and consumed there
abbrev border : Acts (List ℕ)
border = do
  a ← acts.nth_at 0 SHR
  b ← acts.nth_at 1 SHR
  c ← acts.nth_at 2 SHR
  d ← acts.nth_at 3 GTEQ
  g ← acts.nth_at 2 SHREQ
  h ← acts.nth_at 2 R-ANGLE
  k ← acts.eat SHR
  m ← acts.eat SHREQ
  acts.done (flag a ∷ flag b ∷ flag c ∷ flag d ∷ flag g ∷ flag h ∷ flag k ∷ flag m ∷ [])

-- `>` at every place but one, which is `=`
abbrev angles : List ℕ
angles = replicate 66 R-ANGLE ++ (EQ ∷ replicate 3 R-ANGLE)

abbrev at62 : Parser
at62 = numbers 62 0 62 0 0

-- which kind is read of dots and equals signs: one kind ignores joint bits, and `...` is also `..`
abbrev glue : Acts (List ℕ)
glue = do
  a ← acts.at DOT
  b ← acts.at DOT2
  c ← acts.at DOT3
  d ← acts.at DOT2EQ
  g ← acts.nth_at 1 DOT2EQ
  h ← acts.nth_at 3 EQ
  k ← acts.nth_at 3 EQ2
  bump DOT3
  m ← acts.at EQ
  bump EQ2
  bump EQ
  acts.done (flag a ∷ flag b ∷ flag c ∷ flag d ∷ flag g ∷ flag h ∷ flag k ∷ flag m ∷ [])

-- the 10,000th lookup since a token, and what a token does to the count
abbrev last_look : Acts (List ℕ)
last_look = do
  a ← acts.at IDENT
  bump_any
  acts.done (flag a ∷ [])

-- the 10,001st
abbrev one_look : Acts (List ℕ)
one_look = do
  f ← acts.eat COMMA
  k ← acts.current
  a ← acts.at EOF
  b ← acts.at IDENT
  bump_any
  acts.done (flag f ∷ k ∷ flag a ∷ flag b ∷ [])

-- recovery: elsewhere, at a kind of the set, and at a brace
abbrev recovery : Acts (List ℕ)
recovery = do
  err_recover 3 ITEM-RECOVERY-SET
  err_recover 3 ITEM-RECOVERY-SET
  bump_any
  err_and_bump 4
  acts.done []

-- markers: what is named, linked, left and taken away; a distance backwards wraps
abbrev markers : Acts (List ℕ)
markers = do
  a ← acts.start
  b ← acts.start
  c ← acts.start
  acts.abandon a
  acts.abandon c
  d ← acts.complete b NAME
  acts.extend_to d a
  m ← acts.precede d
  acts.complete m BIN-EXPR
  acts.extend_to d m
  acts.abandon 9
  acts.done (a ∷ b ∷ c ∷ m ∷ [])

-- and then a position that holds no start
abbrev markers_then : Acts (List ℕ)
markers_then = do
  xs ← markers
  acts.complete 2 NAME
  acts.done xs

-- a completed marker that nothing has made
abbrev made : ℕ → Completed
made m = record { pos = m; kind = NAME }

-- a marker that does not exist yet; an error that is extended to; a linked start that is abandoned
abbrev early : Acts (List ℕ)
early = do
  m ← acts.precede (made 1)
  acts.done (m ∷ [])

abbrev to_error : Acts (List ℕ)
to_error = do
  acts.error 2 0
  acts.extend_to (made 0) 0
  acts.done []

abbrev linked_last : Acts (List ℕ)
linked_last = do
  a ← acts.start
  b ← acts.start
  acts.extend_to (made 2) b
  acts.abandon b
  acts.done (a ∷ b ∷ [])

-- the first refusal stays, and nothing changes any more
abbrev stays : Acts (List ℕ)
stays = do
  a ← acts.start
  acts.stop Deep
  acts.stop Panic
  b ← acts.nth 0
  c ← acts.at IDENT
  d ← acts.at EOF
  f ← acts.eat IDENT
  g ← expect IDENT
  bump_any
  acts.error 2 0
  err_and_bump 2
  h ← acts.start
  acts.complete 0 NAME
  acts.abandon 0
  k ← acts.precede (made 0)
  acts.extend_to (made 1) 0
  acts.done (a ∷ b ∷ flag c ∷ flag d ∷ flag f ∷ flag g ∷ h ∷ k ∷ [])

abbrev edges : List Edge
edges =
    record { acts = no_token; tokens = env [] []; before = new; room = replicate 13 7; answers = 1 ∷ 1 ∷ 1 ∷ 0 ∷ 0 ∷ 0 ∷ 0 ∷ 0 ∷ 1 ∷ 4 ∷ []; after = numbers 0 7 7 4 8; left = 262145 ∷ 65539 ∷ 65650 ∷ 0 ∷ 262146 ∷ 0 ∷ 131072 ∷ 0 ∷ replicate 5 7 }
    ∷ record { acts = last_token; tokens = env (IDENT ∷ SEMICOLON ∷ []) (0 ∷ []); before = new; room = replicate 8 0; answers = 3 ∷ 1 ∷ 1 ∷ 1 ∷ 0 ∷ 1 ∷ 1 ∷ 1 ∷ []; after = numbers 2 2 5 2 8; left = 196723 ∷ 1 ∷ 196611 ∷ 1 ∷ replicate 4 0 }
    -- rooms of no word, of one, of one event, of two and a word left over, of three, of four
    ∷ record { acts = node; tokens = env (IDENT ∷ IDENT ∷ []) (0 ∷ []); before = new; room = []; answers = 0 ∷ 0 ∷ []; after = numbers 0 0 0 0 5; left = [] }
    ∷ record { acts = node; tokens = env (IDENT ∷ IDENT ∷ []) (0 ∷ []); before = new; room = 9 ∷ []; answers = 0 ∷ 0 ∷ []; after = numbers 0 0 0 0 5; left = 9 ∷ [] }
    ∷ record { acts = node; tokens = env (IDENT ∷ IDENT ∷ []) (0 ∷ []); before = new; room = replicate 2 9; answers = 0 ∷ 0 ∷ []; after = numbers 0 1 1 1 5; left = 65536 ∷ 0 ∷ [] }
    ∷ record { acts = node; tokens = env (IDENT ∷ IDENT ∷ []) (0 ∷ []); before = new; room = replicate 5 9; answers = 0 ∷ 0 ∷ []; after = numbers 1 0 1 2 5; left = 65698 ∷ 0 ∷ 196723 ∷ 1 ∷ 9 ∷ [] }
    ∷ record { acts = node; tokens = env (IDENT ∷ IDENT ∷ []) (0 ∷ []); before = new; room = replicate 6 9; answers = 0 ∷ 1 ∷ []; after = numbers 1 0 1 3 5; left = 65698 ∷ 0 ∷ 196723 ∷ 1 ∷ 131072 ∷ 0 ∷ [] }
    ∷ record { acts = node; tokens = env (IDENT ∷ IDENT ∷ []) (0 ∷ []); before = new; room = replicate 8 9; answers = 0 ∷ 1 ∷ []; after = numbers 2 0 1 4 5; left = 65698 ∷ 0 ∷ 196723 ∷ 1 ∷ 131072 ∷ 0 ∷ 196723 ∷ 1 ∷ [] }
    ∷ record { acts = freed; tokens = env [] []; before = new; room = replicate 2 9; answers = 0 ∷ 0 ∷ 1 ∷ []; after = numbers 0 0 0 1 5; left = 65536 ∷ 0 ∷ [] }
    -- no joint; joint 62, 63, 64, 65; 62, 64 and 65; all, with the second word missing
    ∷ record { acts = border; tokens = env angles (0 ∷ 0 ∷ []); before = at62; room = replicate 4 0; answers = 0 ∷ 0 ∷ 0 ∷ 0 ∷ 0 ∷ 1 ∷ 0 ∷ 0 ∷ []; after = at62; left = replicate 4 0 }
    ∷ record { acts = border; tokens = env angles (4611686018427387904 ∷ 0 ∷ []); before = at62; room = replicate 4 0; answers = 1 ∷ 0 ∷ 0 ∷ 0 ∷ 0 ∷ 1 ∷ 1 ∷ 0 ∷ []; after = numbers 64 0 62 1 0; left = 196660 ∷ 2 ∷ 0 ∷ 0 ∷ [] }
    ∷ record { acts = border; tokens = env angles (9223372036854775808 ∷ 0 ∷ []); before = at62; room = replicate 4 0; answers = 0 ∷ 1 ∷ 0 ∷ 0 ∷ 0 ∷ 1 ∷ 0 ∷ 0 ∷ []; after = at62; left = replicate 4 0 }
    ∷ record { acts = border; tokens = env angles (0 ∷ 1 ∷ []); before = at62; room = replicate 4 0; answers = 0 ∷ 0 ∷ 1 ∷ 0 ∷ 0 ∷ 1 ∷ 0 ∷ 0 ∷ []; after = at62; left = replicate 4 0 }
    ∷ record { acts = border; tokens = env angles (0 ∷ 2 ∷ []); before = at62; room = replicate 4 0; answers = 0 ∷ 0 ∷ 0 ∷ 1 ∷ 0 ∷ 1 ∷ 0 ∷ 0 ∷ []; after = at62; left = replicate 4 0 }
    ∷ record { acts = border; tokens = env angles (4611686018427387904 ∷ 3 ∷ []); before = at62; room = replicate 4 0; answers = 1 ∷ 0 ∷ 1 ∷ 1 ∷ 1 ∷ 1 ∷ 1 ∷ 1 ∷ []; after = numbers 67 0 62 2 0; left = 196660 ∷ 2 ∷ 196662 ∷ 3 ∷ [] }
    ∷ record { acts = border; tokens = env angles (18446744073709551615 ∷ []); before = at62; room = replicate 4 0; answers = 1 ∷ 1 ∷ 0 ∷ 0 ∷ 0 ∷ 1 ∷ 1 ∷ 0 ∷ []; after = numbers 64 0 62 1 0; left = 196660 ∷ 2 ∷ 0 ∷ 0 ∷ [] }
    ∷ record { acts = glue; tokens = env (DOT ∷ DOT ∷ DOT ∷ EQ ∷ EQ ∷ []) (15 ∷ []); before = new; room = replicate 8 0; answers = 1 ∷ 1 ∷ 1 ∷ 0 ∷ 1 ∷ 1 ∷ 1 ∷ 1 ∷ []; after = numbers 5 0 0 2 8; left = 196636 ∷ 3 ∷ 196641 ∷ 2 ∷ replicate 4 0 }
    ∷ record { acts = last_look; tokens = env (IDENT ∷ IDENT ∷ []) (0 ∷ []); before = numbers 0 9999 9999 0 0; room = replicate 4 0; answers = 1 ∷ []; after = numbers 1 0 10000 1 0; left = 196723 ∷ 1 ∷ 0 ∷ 0 ∷ [] }
    ∷ record { acts = one_look; tokens = env (IDENT ∷ IDENT ∷ []) (0 ∷ []); before = numbers 1 10000 20000 1 0; room = 196723 ∷ 1 ∷ 0 ∷ 0 ∷ []; answers = 0 ∷ 1 ∷ 1 ∷ 0 ∷ []; after = numbers 1 10000 20000 1 7; left = 196723 ∷ 1 ∷ 0 ∷ 0 ∷ [] }
    ∷ record { acts = recovery; tokens = env (IDENT ∷ SEMICOLON ∷ R-CURLY ∷ []) (0 ∷ []); before = new; room = replicate 16 0; answers = []; after = numbers 2 1 7 7 0; left = 65650 ∷ 0 ∷ 262147 ∷ 0 ∷ 196723 ∷ 1 ∷ 131072 ∷ 0 ∷ 262147 ∷ 0 ∷ 196611 ∷ 1 ∷ 262148 ∷ 0 ∷ 0 ∷ 0 ∷ [] }
    ∷ record { acts = markers; tokens = env [] []; before = new; room = replicate 16 0; answers = 0 ∷ 1 ∷ 2 ∷ 3 ∷ []; after = numbers 0 0 0 5 0; left = 65536 ∷ 1 ∷ 65698 ∷ 2 ∷ 131072 ∷ 0 ∷ 65696 ∷ 4294967294 ∷ 131072 ∷ 0 ∷ replicate 6 0 }
    ∷ record { acts = markers_then; tokens = env [] []; before = new; room = replicate 16 0; answers = 0 ∷ 1 ∷ 2 ∷ 3 ∷ []; after = numbers 0 0 0 5 8; left = 65536 ∷ 1 ∷ 65698 ∷ 2 ∷ 131072 ∷ 0 ∷ 65696 ∷ 4294967294 ∷ 131072 ∷ 0 ∷ replicate 6 0 }
    ∷ record { acts = early; tokens = env [] []; before = new; room = replicate 4 0; answers = 0 ∷ []; after = numbers 0 0 0 1 8; left = 65536 ∷ 0 ∷ 0 ∷ 0 ∷ [] }
    ∷ record { acts = to_error; tokens = env [] []; before = new; room = replicate 4 0; answers = []; after = numbers 0 0 0 1 8; left = 262146 ∷ 0 ∷ 0 ∷ 0 ∷ [] }
    ∷ record { acts = linked_last; tokens = env [] []; before = new; room = replicate 4 0; answers = 0 ∷ 1 ∷ []; after = numbers 0 0 0 2 8; left = 65536 ∷ 0 ∷ 65536 ∷ 1 ∷ [] }
    ∷ record { acts = stays; tokens = env (IDENT ∷ SEMICOLON ∷ []) (0 ∷ []); before = new; room = replicate 8 5; answers = 0 ∷ 1 ∷ 0 ∷ 1 ∷ 0 ∷ 0 ∷ 1 ∷ 1 ∷ []; after = numbers 0 0 0 1 6; left = 65536 ∷ 0 ∷ replicate 6 5 }
    ∷ []

pub all_come : map comes edges ≡ map wanted edges
unfolding run step ◌>>=◌ err_recover bump bump_any expect must goes_on at_ts bit one_of seen stands_at parts_of encode decode events_of left_over words_of looked halted event_at push_event consume do_bump named linked dropped
all_come = refl
