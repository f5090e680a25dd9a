-- The slots of both tables in one row: those of table 0 are 0 to r − 1, those of table 1 are r to 2r − 1. These are the two end functions
-- of the cuckoo graph, and the one place where slots are numbered.
use Rattle.std.specs.Prelude.{ℕ, ◌+◌, ◌<◌, ◌≤◌, ◌≡◌}
use Rattle.std.proofs.Common.{arith}
use Rattle.hashing.specs.Hash.{Family, hash}

-- a key's slot in table 0, and in table 1
abbrev pub slot_0 : Family → ℕ → ℕ
slot_0 F key = hash F 0 key

abbrev pub slot_1 : Family → ℕ → ℕ
slot_1 F key = F.slots + hash F 1 key
