-- The two slots of each rank, read from its edge (`edges`); its tier does not count here. Rank 0, which is no key, has
-- an edge too, and past the list there is one as good as any: so every number has two slots, and no law needs to ask
-- whether it is a rank. Assumes nothing.
use Rattle.std.specs.Prelude.{ℕ, ◌<◌, ◌≤◌, cond, List, ltb, length, get_or}
use Rattle.edges.specs.Edge.{first_of, second_of, Edge, no_edge}

pub record Edges (r : ℕ) (edges : List ℕ) : Type 0 where
  pub some : 0 < r
  pub most : r ≤ 1024
  pub each : (i : ℕ) → i < length edges → Edge r (get_or edges i 0)

unfoldable pub edge_at : ℕ → List ℕ → ℕ → ℕ
edge_at r edges rank = get_or edges rank (no_edge r)

-- the slots of a rank, and the other slot of a rank that stands in a slot
unfoldable pub end_0 : ℕ → List ℕ → ℕ → ℕ
end_0 r edges rank = first_of (edge_at r edges rank)

unfoldable pub end_1 : ℕ → List ℕ → ℕ → ℕ
end_1 r edges rank = second_of (edge_at r edges rank)

unfoldable pub other_end : ℕ → List ℕ → ℕ → ℕ → ℕ
other_end r edges slot rank = cond (ltb slot r) (end_1 r edges rank) (end_0 r edges rank)
