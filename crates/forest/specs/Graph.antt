-- The graph in one stretch of words, as the contracts of this crate cite it: first what each of the 2r slots holds, a rank or 0, then the edges of the ranks
-- 1, 2, .. . The loops of this crate run over the whole stretch, and the laws say that this is the same as over the held words, beside edges that stay.
-- Assumes nothing.
use Prim.Native.Nat.{ℕ, suc, ◌*◌, ◌<◌, ◌≤◌}
use Rattle.std.specs.Prelude.{◌≡◌, length, take, drop}
use mathlib.Core.List.{List, ◌∷◌, ◌++◌}
use Rattle.std.proofs.Math.ListN.{get_or}
use Rattle.edges.specs.Edge.{no_edge}
use Rattle.forest.specs.Edges.{Edges, end_0, end_1, other_end}
use Rattle.forest.specs.Reroot.{reroot}
use Rattle.forest.specs.Way.{lowest_slot}
use Rattle.forest.specs.Finish.{finish_tree, exchange, finish_cycle}

-- what the slots hold
abbrev pub held_in : ℕ → List ℕ → List ℕ
held_in r g = take (2 * r) g

-- the edges by rank; that of 0, which has no word, is between the first slots of the tables
unfoldable pub edges_in : ℕ → List ℕ → List ℕ
edges_in r g = no_edge r ∷ drop (2 * r) g

-- the graph with other held words
abbrev pub with_held : ℕ → List ℕ → List ℕ → List ℕ
with_held r g h = h ++ drop (2 * r) g

-- each of the held words is a rank that has an edge, or 0
pub record Fit (n : ℕ) (words : List ℕ) : Type 0 where
  pub at : (v : ℕ) → get_or words v 0 < n

pub record Graph (r : ℕ) (g : List ℕ) : Type 0 where
  pub edges : Edges r (edges_in r g)
  pub long : 2 * r ≤ length g
  pub fit : Fit (length (edges_in r g)) (held_in r g)

-- the slots of a rank, and the other slot of one that stands in a slot
abbrev pub first_slot : ℕ → List ℕ → ℕ → ℕ
first_slot r g = end_0 r (edges_in r g)

abbrev pub second_slot : ℕ → List ℕ → ℕ → ℕ
second_slot r g = end_1 r (edges_in r g)

abbrev pub other_slot : ℕ → List ℕ → ℕ → ℕ → ℕ
other_slot r g = other_end r (edges_in r g)

-- the tree of a slot re-rooted there, with the rank `carry` in it: no way is longer than there are slots
abbrev pub rerooted : ℕ → List ℕ → ℕ → ℕ → List ℕ
rerooted r g carry slot = with_held r g (reroot (other_slot r g) (suc (2 * r)) (held_in r g) carry slot)

-- the slot of the smallest rank on the way from a slot to the root
abbrev pub lowest : ℕ → List ℕ → ℕ → ℕ
lowest r g slot = lowest_slot (other_slot r g) (suc (2 * r)) (held_in r g) slot slot

-- a component finished: without a cycle, by its smallest rank; with one, by the rank outside the forest
abbrev pub finished_tree : ℕ → List ℕ → ℕ → List ℕ
finished_tree r g rank = with_held r g (finish_tree (first_slot r g) (second_slot r g) (other_slot r g) (suc (2 * r)) (held_in r g) rank)

abbrev pub exchanged : ℕ → List ℕ → ℕ → ℕ → List ℕ
exchanged r g rank slot = with_held r g (exchange (first_slot r g) (second_slot r g) (other_slot r g) (suc (2 * r)) (held_in r g) rank slot)

abbrev pub finished_cycle : ℕ → List ℕ → ℕ → List ℕ
finished_cycle r g rank = with_held r g (finish_cycle (first_slot r g) (second_slot r g) (other_slot r g) (suc (2 * r)) (held_in r g) rank)

-- words that a loop has come to: the edges are those of before, and each held word is a rank or 0
pub record Kept (r : ℕ) (before after : List ℕ) : Type 0 where
  pub size : length after ≡ length before
  pub same : drop (2 * r) after ≡ drop (2 * r) before
  pub fit : Fit (length (edges_in r before)) (held_in r after)

-- The calls of `exchange` and of `finish_cycle`, one after the other.
module _ {r : ℕ} {g : List ℕ} (G : Graph r g) (rank : ℕ) (some : rank < length (edges_in r g)) where
  abbrev pub n : ℕ
  n = suc (2 * r)
