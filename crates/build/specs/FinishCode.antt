-- Step 5 over the parts of scratch: what the functions of seating/src/finish.rt leave there, and why each call and each turn of their loop is one step of the
-- pass on lists (Finish). Assumes nothing.
use Prim.Native.Nat.{ℕ, ◌*◌, ◌/◌, ◌<◌, ◌≤◌}
use Rattle.std.specs.Prelude.{length}
use mathlib.Core.List.{List}
use Rattle.std.proofs.Math.ListN.{get_or}
use Rattle.cuckoo.specs.Renaming.{ranks}
use Rattle.forest.specs.Edges.{end_0, end_1, other_end}
use Rattle.forest.specs.Graph.{Graph, held_in, edges_in, with_held}
use Rattle.build.specs.Notes.{pair_base}
use Rattle.build.specs.Finish.{finish_rank, finish_ranks}
use Rattle.build.specs.Scratch.{Parts, with_graph}

module _ (r : ℕ) where
  -- by the edges E, words and notes: one rank, and several
  abbrev pub seated_rank : (E next notes : List ℕ) → ℕ → List ℕ → List ℕ
  seated_rank E next notes rank held = finish_rank (end_0 r E) (end_1 r E) (other_end r E) (2 * r) next notes rank held

  abbrev pub seated_ranks : (E next notes R held : List ℕ) → List ℕ
  seated_ranks E next notes R held = finish_ranks (end_0 r E) (end_1 r E) (other_end r E) (2 * r) next notes R held

  -- the parts after one rank, and after the first i of them
  abbrev pub rank_finished : ℕ → Parts → Parts
  rank_finished rank P = with_graph P (with_held r P.graph (seated_rank (edges_in r P.graph) P.next P.sets rank (held_in r P.graph)))

  abbrev pub ranks_finished : ℕ → Parts → Parts
  ranks_finished i P = with_graph P (with_held r P.graph (seated_ranks (edges_in r P.graph) P.next P.sets (ranks i) (held_in r P.graph)))

  -- What has to hold before: a graph, and the rank that is noted as closing a cycle has an edge.
  pub record Finishable (n : ℕ) (P : Parts) : Type 0 where
    pub graph : Graph r P.graph
    pub many : n < length (edges_in r P.graph)
    pub closing : (l : ℕ) → l < 2 * r → get_or P.sets l 0 / pair_base ≤ n

-- rank by rank
module _ {r n : ℕ} (P : Parts) (K : Finishable r n P) where
  abbrev pub E : List ℕ
  E = edges_in r P.graph
