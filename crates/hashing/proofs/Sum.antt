-- The laws of what specs/Sum.antt defines.
use Prim.Native.Nat.{ℕ, zero, suc, ◌+◌, ◌-◌, ◌/◌, ◌%◌, ◌<◌}
use Rattle.std.specs.Prelude.{◌≡◌, List}
use Rattle.std.proofs.Common.{zero-add}
use Rattle.std.proofs.Math.Numerals.{add-one}
use native.Mathlib.Omega.{arith}
use Rattle.hashing.specs.Hash.{Family, first_part, entry, turned, hash}
use Rattle.hashing.specs.Sum.{total}

module _ (tabulation : List ℕ) (table sum rest : ℕ) where
  -- one turn of the loop
  pub total_step : (i : ℕ) → i < 4
      → total tabulation table (sum + entry tabulation table i (rest % 256)) (i + 1) (4 - (i + 1)) (rest / 256)
      ≡ total tabulation table sum i (4 - i) rest
  unfolding total
  total_step i h = let e : 4 - i ≡ suc (4 - suc i) = omega arith in rw (e, add-one, total)

-- the whole loop and the station's entry give the hash
pub total_hash : (F : Family) (table key : ℕ)
    → (total F.tabulation table 0 0 4 (first_part key) + entry F.tabulation table 4 (turned F.station (first_part key % 256))) % F.slots
    ≡ hash F table key
unfolding total hash
total_hash F table key = simp zero-add
