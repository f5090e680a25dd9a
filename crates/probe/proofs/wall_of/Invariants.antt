-- `probe::wall_of` meets its contract. The invariant: the wall from here back is the key's.
use Prim.Native.Nat.{◌≤◌}
use mathlib.Core.Path.{◌≡◌}
use lib.ListN.{length}
use Rattle.probing.specs.Moves.{wall as wall-at}
use Rattle.probe.proofs.wall_of.Given as goal

abbrev pub invariant-loop-wall : goal.invariant-loop-wall
invariant-loop-wall l =
    (l.wall ≤ l.turn) × (wall-at (length l.words) l.words l.base l.key l.turn ≡ wall-at (length l.words) l.words l.base l.key l.wall)

abbrev pub decreases-loop-wall : goal.decreases-loop-wall
decreases-loop-wall l = l.wall
