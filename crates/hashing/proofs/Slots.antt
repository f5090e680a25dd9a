-- The laws of what specs/Slots.antt defines.
use Rattle.std.specs.Prelude.{ℕ, ◌+◌, ◌<◌, ◌≤◌, ◌≡◌}
use Rattle.std.proofs.Common.{arith}
use Rattle.hashing.specs.Hash.{Family, hash}
use Rattle.hashing.proofs.Hash.{hash_lt}
use Rattle.hashing.specs.Slots.{slot_0, slot_1}

-- The laws that callers use.

module _ (F : Family) (some : 0 < F.slots) (key : ℕ) where
  pub slot_0_lt : slot_0 F key < F.slots
  slot_0_lt = hash_lt F 0 key some

  pub slot_1_le : F.slots ≤ slot_1 F key
  slot_1_le = omega arith

  pub slot_1_lt : slot_1 F key < F.slots + F.slots
  slot_1_lt = omega (arith, hash_lt F 1 key some)

-- the tables have no slot in common
pub slots_apart : (F : Family) → 0 < F.slots → (c d : ℕ) → slot_0 F c ≡ slot_1 F d → ⊥
slots_apart F some c d e = omega (arith, slot_0_lt F some c, slot_1_le F some d)
