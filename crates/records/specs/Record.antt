-- The record of one slot, and of one stash place: that words have it at a place, and the words with it written there.
-- And what is told of a rank: its tier, which stands in its edge, and that it has its words. Assumes nothing.
use Rattle.std.specs.Prelude.{ℕ, ◌+◌, ◌-◌, ◌*◌, ◌≤◌, ◌<◌, Bool, ◌&&◌, List, eqb, length, get_or, set}
use Rattle.edges.specs.Edge.{tier_of_edge}

-- the slot that begins at `at` has this key, next and tier
abbrev pub slot_alike : (ws : List ℕ) (at key next tier : ℕ) → Bool
slot_alike ws at key next tier =
    eqb (get_or ws at 0) key && (eqb (get_or ws (at + 1) 0) next && eqb (get_or ws (at + 2) 0) tier)

abbrev pub slot_put : (ws : List ℕ) (at key next tier : ℕ) → List ℕ
slot_put ws at key next tier = set (set (set ws at key) (at + 1) next) (at + 2) tier

-- the stash place that begins at `at` has this key and tier
abbrev pub place_alike : (ws : List ℕ) (at key tier : ℕ) → Bool
place_alike ws at key tier = eqb (get_or ws at 0) key && eqb (get_or ws (at + 1) 0) tier

abbrev pub place_put : (ws : List ℕ) (at key tier : ℕ) → List ℕ
place_put ws at key tier = set (set ws at key) (at + 1) tier

-- The tier of a rank, from its edge. Before the first edge stands the last held word, a rank, which is small: so 0,
-- which is no key, has tier 0.
abbrev pub tier_by : ℕ → List ℕ → ℕ → ℕ
tier_by r graph rank = tier_of_edge (get_or graph (2 * r + rank - 1) 0)

-- a rank that has its key and its edge,
pub record RankKnown (r : ℕ) (keys graph : List ℕ) (rank : ℕ) : Type 0 where
  pub some : 0 < r
  pub key : rank < length keys
  pub edge : 2 * r + rank ≤ length graph

-- and its next, which has its key
pub record Chained (keys next : List ℕ) (rank : ℕ) : Type 0 where
  pub next_long : rank < length next
  pub next_key : get_or next rank 0 < length keys
