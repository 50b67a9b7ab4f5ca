-- `event::set_distance` meets its contract: the first word stays. Assumes nothing.
use Prim.Native.Nat.{◌*◌}
use Rattle.std.proofs.lemmas.List.{set-get_or}
use Rattle.event.specs.Event.{encode}
use Rattle.event.proofs.Rooms.{start-index, start_first}
use Rattle.event.proofs.set_distance.Goals as goal

pub returns : goal.returns
unfolding encode
returns c =
    let w = c.args.words.now in
    let i = c.args.i in
    rw (start-index w i c.requires.i_in_bounds c.requires.none_value, start_first w i c.requires.i_in_bounds c.requires.none_value, set-get_or w (2 * i) 0)
