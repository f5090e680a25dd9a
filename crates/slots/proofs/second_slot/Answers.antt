-- `slots::second_slot` meets its contract: r and a hash below it are small.
use native.Mathlib.Omega.{arith}
use Rattle.hashing.specs.Hash.{tables}
use Rattle.hashing.proofs.Hash.{hash_lt}
use Rattle.slots.proofs.second_slot.Goals as goal

pub overflow_add-result : goal.overflow_add-result
overflow_add-result c =
    let start = c.before.before in
    let a = start.args in
    omega (arith, start.requires, hash_lt (tables a.tabulation.now a.r a.station) 1 a.key start.requires.has_slots, c.hash_in.ensures)
