-- A disjoint-set structure over n slots in n words, as definitions that compute: what the code does, and no more. That the sets are
-- the components of the cuckoo graph is specs/Partition.antt.
-- n is the length of the words. A word below n is the slot's parent; a word n + s marks the representative of a set of s slots.
use Prim.Native.Nat.{ℕ, zero, suc, ◌+◌, ◌-◌, ◌≤◌, ◌<◌}
use Rattle.std.specs.Prelude.{◌≡◌, cond, List, ltb, length, get_or, set, replicate}

-- the most slots of both tables together, at most 1,024 each
abbrev pub max_points : ℕ
max_points = 2048

-- Union by size keeps every chain of parents short: each parent at least doubles the size of the set, and 2 to the 11th is 2,048.
abbrev pub max_steps : ℕ
max_steps = 11

-- each slot alone in its set
unfoldable pub singletons_of : ℕ → List ℕ
singletons_of n = replicate n (n + 1)

-- r is a slot that stands for its set
pub record Representative (words : List ℕ) (r : ℕ) : Type 0 where
  pub inside : r < length words
  pub marked : length words ≤ get_or words r 0

-- where at most k parents lead from v
unfoldable pub walk : List ℕ → ℕ → ℕ → ℕ
walk words zero v = v
walk words (suc k) v = cond (ltb (get_or words v 0) (length words)) (walk words k (get_or words v 0)) v

-- the representative of v's set
unfoldable pub rep_of : List ℕ → ℕ → ℕ
rep_of words v = walk words max_steps v

-- the size of a representative's set
unfoldable pub size_of : List ℕ → ℕ → ℕ
size_of words r = get_or words r 0 - length words

-- two different representatives, whose sets together have no more slots than there are
pub record Mergeable (words : List ℕ) (first second : ℕ) : Type 0 where
  pub one : Representative words first
  pub other : Representative words second
  pub differ : first ≡ second → ⊥
  pub fit : size_of words first + size_of words second ≤ length words

-- the set of one representative joins that of another
unfoldable pub linked : List ℕ → ℕ → ℕ → List ℕ
linked words child parent = set (set words child parent) parent (get_or words parent 0 + size_of words child)

-- of two representatives, that of the smaller set and that of the larger; of two as large the second counts as the smaller
unfoldable pub smaller : List ℕ → ℕ → ℕ → ℕ
smaller words first second = cond (ltb (size_of words first) (size_of words second)) first second

unfoldable pub larger : List ℕ → ℕ → ℕ → ℕ
larger words first second = cond (ltb (size_of words first) (size_of words second)) second first

-- union by size: the smaller set goes under the larger
unfoldable pub united : List ℕ → ℕ → ℕ → List ℕ
united words first second = linked words (smaller words first second) (larger words first second)
