-- The words of a stretch move by one, to make room for a word or to close its gap: in the keys, and in a column beside them. `shifted_in` and `shifted_out` come
-- first: contracts cite them. Assumes nothing.
use Prim.Native.Nat.{ℕ, ◌+◌, ◌-◌}
use mathlib.Core.List.{List, ◌∷◌, ◌++◌}
use Rattle.std.proofs.Math.ListN.{take, drop}
use Rattle.std.proofs.Math.Seq.{slice}

-- the words from i to n are to move up, over the word at n, and the carried key is to come to i
unfoldable pub shifted_in : List ℕ → ℕ → ℕ → ℕ → List ℕ
shifted_in s i n key = take i s ++ (key ∷ (slice i n s ++ drop (n + 1) s))

-- the words after i and before n are to move down, over the word at i
unfoldable pub shifted_out : List ℕ → ℕ → ℕ → List ℕ
shifted_out s i n = take i s ++ (slice (i + 1) n s ++ drop (n - 1) s)
