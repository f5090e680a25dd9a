-- The two steps, out of table 0 and out of table 1, meet their contracts.
use Rattle.std.proofs.Common.{arith}
use Rattle.hashing.specs.Hash.{tables}
use Rattle.hashing.proofs.Slots.{slot_0_lt}
use Rattle.walking.proofs.WalkLaws.{stepped, out_0, out_1, onward_then, goes_new}
use Rattle.walking.proofs.walk.+out_of_0_out_of_1.Goals as goal

-- The step out of table 0.
pub out_of_0-goes_on-requires : goal.out_of_0-goes_on-requires
out_of_0-goes_on-requires t c =
    let p = c.requires in
    let v = c.visit-key.ensures in
    let q = stepped p.0.0 p.0.1 v.held v.marked (out_0 p.0.0 v.held p.1 c.second_slot-next.ensures) in
    omega (arith, q.onward.room)

pub out_of_0-out_of_1-requires : goal.out_of_0-out_of_1-requires
out_of_0-out_of_1-requires t c =
    let p = c.requires in
    let v = c.visit-key.ensures in
    let q = stepped p.0.0 p.0.1 v.held v.marked (out_0 p.0.0 v.held p.1 c.second_slot-next.ensures) in
    let new = goes_new q.onward.room c.if-goes_on.true c.goes_on.ensures in
    (rw c.decreases at q.falls, ((p.0.0, new), omega (arith, c.second_slot-next.ensures)))

pub out_of_0-returns-then-goes_on : goal.out_of_0-returns-then-goes_on
out_of_0-returns-then-goes_on t c =
    let p = c.requires in
    let v = c.visit-key.ensures in
    let q = stepped p.0.0 p.0.1 v.held v.marked (out_0 p.0.0 v.held p.1 c.second_slot-next.ensures) in
    onward_then q.onward c.out_of_1.ensures

pub out_of_0-returns : goal.out_of_0-returns
out_of_0-returns t c =
    let p = c.requires in
    let v = c.visit-key.ensures in
    (stepped p.0.0 p.0.1 v.held v.marked (out_0 p.0.0 v.held p.1 c.second_slot-next.ensures)).onward

-- The step out of table 1.
pub out_of_1-goes_on-requires : goal.out_of_1-goes_on-requires
out_of_1-goes_on-requires t c =
    let p = c.requires in
    let v = c.visit-key.ensures in
    let q = stepped p.0.0 p.0.1 v.held v.marked (out_1 p.0.0 v.held p.1 c.first_slot-next.ensures) in
    omega (arith, q.onward.room)

pub out_of_1-out_of_0-requires : goal.out_of_1-out_of_0-requires
out_of_1-out_of_0-requires t c =
    let p = c.requires in
    let v = c.visit-key.ensures in
    let q = stepped p.0.0 p.0.1 v.held v.marked (out_1 p.0.0 v.held p.1 c.first_slot-next.ensures) in
    let a = c.args in
    let below = slot_0_lt (tables a.tabulation.now a.r a.station) p.0.0.hashing.has_slots c.visit-key.result in
    let new = goes_new q.onward.room c.if-goes_on.true c.goes_on.ensures in
    (rw c.decreases at q.falls, ((p.0.0, new), omega (arith, c.first_slot-next.ensures, below)))

pub out_of_1-returns-then-goes_on : goal.out_of_1-returns-then-goes_on
out_of_1-returns-then-goes_on t c =
    let p = c.requires in
    let v = c.visit-key.ensures in
    let q = stepped p.0.0 p.0.1 v.held v.marked (out_1 p.0.0 v.held p.1 c.first_slot-next.ensures) in
    onward_then q.onward c.out_of_0.ensures

pub out_of_1-returns : goal.out_of_1-returns
out_of_1-returns t c =
    let p = c.requires in
    let v = c.visit-key.ensures in
    (stepped p.0.0 p.0.1 v.held v.marked (out_1 p.0.0 v.held p.1 c.first_slot-next.ensures)).onward
