-- The loop sums the entries as `total` does, and no sum exceeds 32 bits.
use Rattle.std.proofs.Common.{◌≡◌, ◌≤◌, ◌*◌, ◌-◌}
use Rattle.hashing.specs.Sum.{total}
use Rattle.slots.proofs.hash_in.Given as goal

abbrev pub invariant-loop-i : goal.invariant-loop-i
invariant-loop-i l =
    (l.sum ≤ 65535 * l.i) × (total l.tabulation l.table l.sum l.i (4 - l.i) l.rest ≡ total l.tabulation l.table 0 0 4 l.part)
