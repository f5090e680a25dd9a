-- `distinct` has the same members, and of a sorted list it is a set of keys: strictly ascending. Assumes nothing.
use Prim.Native.Nat.{ℕ}
use Rattle.std.specs.Prelude.{List, ◌++◌, take, drop}
use Rattle.ordered.specs.Keys.{distinct}

-- the loop of `drop_doubles`: the keys that it has kept, and what is kept of the rest
unfoldable pub keeping : List ℕ → ℕ → ℕ → List ℕ
keeping s n i = take n s ++ distinct (drop i s)
