-- The loop of `hash_in` as a function: the entries of the bytes of a key's first part summed one after the other. The station's entry is added behind it.
use Prim.Native.Nat.{ℕ, zero, suc, ◌+◌, ◌-◌, ◌/◌, ◌%◌, ◌<◌}
use Rattle.std.specs.Prelude.{◌≡◌, List}
use Rattle.std.proofs.Common.{zero-add}
use Rattle.std.proofs.Math.Numerals.{add-one}
use native.Mathlib.Omega.{arith}
use Rattle.hashing.specs.Hash.{Family, first_part, entry, turned, hash}

-- sum, and the entries of n bytes more, from byte i on, which is the lowest byte of rest
unfoldable pub total : List ℕ → ℕ → ℕ → ℕ → ℕ → ℕ → ℕ
total tabulation table sum i zero rest = sum
total tabulation table sum i (suc n) rest =
    total tabulation table (sum + entry tabulation table i (rest % 256)) (suc i) n (rest / 256)
