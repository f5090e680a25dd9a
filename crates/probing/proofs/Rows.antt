-- The laws of what specs/Rows.antt defines.
use Rattle.std.specs.Prelude.{ℕ, ◌/◌, ◌%◌, Bool, not, ◌&&◌, List, [], ◌∷◌, T}
use Rattle.basics.specs.Lists.{same}
use Rattle.probing.specs.Rule.{after, place, placed, table_image, looks, look}
use Rattle.probing.specs.Moves.{displace, add, wrap, wall, right, settled, all_settled}
use Rattle.probing.specs.Orders.{add_all}
use Rattle.probing.specs.Rows.{probing_rows}

pub follow : T probing_rows
unfolding same after place placed table_image looks look displace add wrap wall right settled all_settled add_all
follow = tt
