-- The number of slots that are not yet visited falls from call to call.
use Rattle.std.proofs.Common.{◌+◌}
use Rattle.walking.specs.Walk.{unvisited}
use Rattle.walking.proofs.walk.+out_of_0_out_of_1.Given as goal

abbrev pub decreases-out_of_0 : goal.decreases-out_of_0
decreases-out_of_0 l = unvisited (l.r + l.r) l.scratch.now

abbrev pub decreases-out_of_1 : goal.decreases-out_of_1
decreases-out_of_1 l = unvisited (l.r + l.r) l.scratch.now
