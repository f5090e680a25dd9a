-- `forest::lowest_slot` meets its contract: each turn of the loop is a step of the function `lowest_slot`, and the turns to come are its fuel.
use Rattle.std.proofs.Common.{◌≡◌, ◌*◌, ◌+◌, ◌-◌, ◌<◌}
use Rattle.forest.specs.Way.{lowest_slot}
use Rattle.forest.specs.Graph.{lowest, held_in, other_slot}
use Rattle.forest.proofs.lowest_slot.Given as goal

abbrev pub invariant-loop : goal.invariant-loop
invariant-loop l =
    (l.at < 2 * l.r)
    × (l.low < 2 * l.r)
    × (lowest l.r l.graph l.slot ≡ lowest_slot (other_slot l.r l.graph) (2 * l.r + 1 - l.counter) (held_in l.r l.graph) l.at l.low)
