-- `walk::walk` meets its contract: after each run the walk has come further, and it ends in a slot where it was.
use Prim.Native.Nat.{◌+◌, ◌-◌}
use Rattle.walking.specs.Walk.{key_of, across, WalkRoom, Walked}
use Rattle.walking.proofs.walk.walk.Given as goal

abbrev pub invariant-loop-scratch : goal.invariant-loop-scratch
invariant-loop-scratch l =
    WalkRoom l.r l.scratch l.at.steps l.at.slot × Walked (across l.tabulation l.words) (key_of l.words) l.start l.r l.scratch l.at.steps l.at.slot

abbrev pub decreases-loop-scratch : goal.decreases-loop-scratch
decreases-loop-scratch l = l.r + l.r - l.at.steps
