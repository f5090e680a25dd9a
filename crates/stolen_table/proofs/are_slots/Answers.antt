-- `stolen_table::are_slots` meets its contract: the two tests are those of the definition.
use Prim.Native.Nat.{◌≤◌, ◌<◌}
use native.Mathlib.Omega.{arith}
use borrow.Author.Tests.{le-leb, lt-leb}
use Rattle.hashing.specs.Hash.{slots_in_range}
use Rattle.stolen_table.proofs.are_slots.Goals as goal

pub returns-then-slots-ge1 : goal.returns-then-slots-ge1
unfolding slots_in_range
returns-then-slots-ge1 c = let h : 1 ≤ c.args.slots = omega arith in rw (le-leb 1 _ h)

pub returns-else-slots-ge1 : goal.returns-else-slots-ge1
unfolding slots_in_range
returns-else-slots-ge1 c = let h : c.args.slots < 1 = omega arith in rw (lt-leb 1 _ h)
