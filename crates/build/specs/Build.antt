-- What the build leaves in scratch, as its callers read it: the canonical image of the ranks 1 to n, by the edges that stand there.
use Rattle.std.specs.Prelude.{ℕ, ◌+◌, ◌-◌, ◌*◌, ◌≤◌, ◌<◌, ◌≡◌, List, [], ◌∷◌, ◌++◌, length, get_or, replicate, Option, Some, None}
use Rattle.refusals.specs.Refusal.{done, stash_full}
use Rattle.cuckoo.specs.Graph.{stash, slot_key, slot_next}
use Rattle.cuckoo.specs.Renaming.{ranks}
use Rattle.forest.specs.Edges.{Edges, end_0, end_1}
use Rattle.forest.specs.Graph.{held_in, edges_in}
use Rattle.build.specs.EachSlot.{listed}
use Rattle.build.specs.Scratch.{parts, used}

-- document 01's number of what a build answers, and its value: how many ranks the stash has
abbrev pub number : Option ℕ → ℕ
number (Some k) = done
number None = stash_full

abbrev pub values : Option ℕ → List ℕ
values (Some k) = k ∷ []
values None = []

-- the edges of n ranks in scratch, by rank
abbrev pub edges_of : (r s n : ℕ) → List ℕ → List ℕ
edges_of r s n scratch = edges_in r (parts r s n scratch).graph

-- the stash of the ranks, and what a slot holds and points to, by edges E
abbrev pub stash_ranks : ℕ → ℕ → List ℕ → List ℕ
stash_ranks r n E = stash (end_0 r E) (end_1 r E) (ranks n)

abbrev pub slot_rank : ℕ → ℕ → List ℕ → ℕ → ℕ
slot_rank r n E = slot_key (end_0 r E) (end_1 r E) (ranks n)

abbrev pub next_rank : ℕ → ℕ → List ℕ → ℕ → ℕ
next_rank r n E = slot_next (end_0 r E) (end_1 r E) (ranks n)

-- The image of the ranks stands in scratch: what each slot holds; the next of the rank that a slot holds, by that rank (0 for 0); and the stash, filled up with
-- zeros.
pub record Standing (r s n : ℕ) (scratch : List ℕ) : Type 0 where
  pub held : held_in r (parts r s n scratch).graph ≡ listed (slot_rank r n (edges_of r s n scratch)) (2 * r) 0
  pub next : (v : ℕ) → v < 2 * r
      → get_or (parts r s n scratch).next (slot_rank r n (edges_of r s n scratch) v) 0 ≡ next_rank r n (edges_of r s n scratch) v
  pub stashed : (parts r s n scratch).stash
      ≡ stash_ranks r n (edges_of r s n scratch) ++ replicate (s - length (stash_ranks r n (edges_of r s n scratch))) 0

-- The build of n ranks: 8, there is no room for their stash; or 0 with the size of their stash, and their image stands in scratch.
pub data Build (r s n : ℕ) (after : List ℕ) (count : Option ℕ) : Type 0 where
  full : s < length (stash_ranks r n (edges_of r s n after)) → number count ≡ stash_full → Build r s n after count
  made : length (stash_ranks r n (edges_of r s n after)) ≤ s → number count ≡ done
      → values count ≡ length (stash_ranks r n (edges_of r s n after)) ∷ [] → Standing r s n after → Build r s n after count

-- The words of the keys and the edges stay.
pub record Built (r s n : ℕ) (before after : List ℕ) (count : Option ℕ) : Type 0 where
  pub keys : (parts r s n after).keys ≡ (parts r s n before).keys
  pub edges : edges_of r s n after ≡ edges_of r s n before
  pub built : Build r s n after count

-- What the build needs: sizes in their ranges, and scratch with room for the parts and an edge between the tables for each of the n ranks.
pub record Buildable (r s n : ℕ) (scratch : List ℕ) : Type 0 where
  pub places_bound : s ≤ 64
  pub room : used r s ≤ length scratch
  pub few : n ≤ 2 * r + s
  pub edges : Edges r (edges_of r s n scratch)
