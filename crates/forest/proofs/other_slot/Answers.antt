-- `forest::other_slot` meets its contract.
use native.Mathlib.Omega.{arith}
use borrow.Author.Tests.{lt-ltb, le-ltb}
use Rattle.forest.specs.Edges.{other_end}
use borrow.Author.Rules.{rules}
use Rattle.forest.proofs.other_slot.Goals as goal

pub returns-then-slot-r : goal.returns-then-slot-r
unfolding other_end
returns-then-slot-r c =
    let a = c.args in
    (rw (lt-ltb a.slot a.r (omega arith)) c.second_slot.ensures.0, search rules)

pub returns-else-slot-r : goal.returns-else-slot-r
unfolding other_end
returns-else-slot-r c =
    let a = c.args in
    (rw (le-ltb a.slot a.r (omega arith)) c.first_slot.ensures.0, search rules)
