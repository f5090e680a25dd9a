-- What the words mean: their sets are the components of the cuckoo graph. The invariant, what a caller has from it, that it holds at the start,
-- and that a key inside a component keeps it; a key between two is proofs/United.antt. Assumes nothing.
use Rattle.std.specs.Prelude.{ℕ, ◌^◌, ◌≤◌, ◌<◌, ◌≡◌, ◌↔◌, List, length}
use Rattle.cuckoo.specs.Joined.{Joined}
use Rattle.partition.specs.Words.{max_points, Representative, rep_of, size_of}
use Rattle.partition.specs.Tally.{tally}
use Rattle.partition.specs.Chain.{Chain}

-- how many slots have r for their representative
abbrev pub members : List ℕ → ℕ → ℕ
members words r = tally (rep_of words) r (length words)

-- The parents from v lead to a representative, and so few of them that the set has at least 2 to their number of slots: union by size
-- puts a set only under one that is at least as large.
pub record Reached (words : List ℕ) (v : ℕ) : Type 0 where
  pub steps : ℕ
  pub rep : ℕ
  pub chain : Chain words v steps rep
  pub short : 2 ^ steps ≤ size_of words rep

module _ (a b : ℕ → ℕ) where
  -- The words hold the partition of the n slots into the components of the cuckoo graph of the keys R: slots that the keys join, one
  -- with the next, are in one set, and each set has one slot that stands for it, its representative. `law` is what callers want;
  -- `reached` and `honest` are why the walk to a representative ends in time: a walk of k steps leads to a set of at least 2 to the k
  -- slots, and no set has more slots than there are.
  pub record Partition (R : List ℕ) (n : ℕ) (words : List ℕ) : Type 0 where
    -- a word for each slot of the two tables
    pub long : length words ≡ n
    pub points_bound : n ≤ max_points
    -- each slot's parents lead to a representative, in few steps
    pub reached : (v : ℕ) → v < n → Reached words v
    -- the size that stands with a representative is the number of its slots
    pub honest : (r : ℕ) → Representative words r → size_of words r ≡ members words r
    -- two slots have one representative where the keys join them, and only there
    pub law : (u v : ℕ) → u < n → v < n → (rep_of words u ≡ rep_of words v) ↔ Joined a b R u v
