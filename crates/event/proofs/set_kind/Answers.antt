-- `event::set_kind` meets its contract: the second word stays. Assumes nothing.
use native.Mathlib.Omega.{arith}
use Prim.Native.Nat.{ℕ, ◌+◌, ◌*◌}
use mathlib.Core.Path.{◌≡◌, sym}
use mathlib.Core.List.{List}
use lib.ListN.{get_or, set}
use Rattle.std.proofs.lemmas.List.{set-get_or, get_or-set_other}
use Rattle.event.specs.Event.{encode}
use Rattle.event.proofs.Rooms.{start-index}
use Rattle.event.proofs.set_kind.Goals as goal

stays : (w : List ℕ) (i a : ℕ) → set w (2 * i) a ≡ set (set w (2 * i) a) (2 * i + 1) (get_or w (2 * i + 1) 0)
stays w i a = sym (rw (get_or-set_other w (2 * i) (2 * i + 1) a 0 (λ z. omega arith)) at (set-get_or (set w (2 * i) a) (2 * i + 1) 0))

pub returns : goal.returns
unfolding encode
returns c =
    let w = c.args.words.now in
    let i = c.args.i in
    rw (c.from.ensures, start-index w i c.requires.i_in_bounds c.requires.none_value) (stays w i _)
