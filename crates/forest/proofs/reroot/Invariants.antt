-- `forest::reroot` meets its contract: each turn of the loop is a step of the function `reroot`, and the turns to come are its fuel.
use Rattle.std.proofs.Common.{◌≡◌, ◌*◌, ◌+◌, ◌-◌, ◌<◌, suc, length}
use Rattle.forest.specs.Reroot.{reroot}
use Rattle.forest.specs.Graph.{Kept, held_in, edges_in, other_slot}
use Rattle.forest.proofs.reroot.Given as goal

abbrev pub invariant-loop : goal.invariant-loop
invariant-loop l =
    Kept l.r l.initial.graph l.graph
    × (l.at < 2 * l.r)
    × (l.moving < length (edges_in l.r l.initial.graph))
    × (reroot (other_slot l.r l.initial.graph) (suc (2 * l.r)) (held_in l.r l.initial.graph) l.carry l.slot
    ≡ reroot (other_slot l.r l.initial.graph) (2 * l.r + 1 - l.counter) (held_in l.r l.graph) l.moving l.at)
