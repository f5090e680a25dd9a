-- How many of the numbers below n a function takes to r: the size of a set, where f gives each slot's representative. Assumes nothing.
use Prim.Native.Nat.{ℕ, zero, suc}
use Rattle.std.specs.Prelude.{cond, eqb}

unfoldable pub tally : (ℕ → ℕ) → ℕ → ℕ → ℕ
tally f r zero = 0
tally f r (suc n) = cond (eqb (f n) r) (suc (tally f r n)) (tally f r n)

-- what was child's is parent's
unfoldable pub tally_moved : ℕ → ℕ → ℕ → ℕ
tally_moved child parent r = cond (eqb r child) parent r
