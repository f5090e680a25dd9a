-- `ranges::in_range` meets its contract: the two tests are those of the definition.
use Prim.Native.Nat.{◌≤◌, ◌<◌}
use native.Mathlib.Omega.{arith}
use borrow.Author.Tests.{le-leb, lt-leb}
use Rattle.hashing.specs.Hash.{slots_in_range}
use Rattle.ranges.proofs.in_range.Goals as goal

pub returns-then-r-ge1 : goal.returns-then-r-ge1
unfolding slots_in_range
returns-then-r-ge1 c = let h : 1 ≤ c.before.args.r = omega arith in rw (le-leb 1 _ h)

pub returns-else-r-ge1 : goal.returns-else-r-ge1
unfolding slots_in_range
returns-else-r-ge1 c = let h : c.before.args.r < 1 = omega arith in rw (lt-leb 1 _ h)
