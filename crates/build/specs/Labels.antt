-- Step 2 of the build: to the word of each rank the label of its component is added, the representative of its slot in table 0. So the word of a rank of
-- the forest is its label, and that of any other m more. Assumes nothing.
use Rattle.std.specs.Prelude.{ℕ, ◌+◌, ◌<◌, ◌≡◌, get_or}
use mathlib.Core.List.{List, Memᴰ as In}
use Rattle.cuckoo.specs.Joined.{Joined}
use Rattle.cuckoo.specs.Forest.{forest}
use Rattle.partition.specs.Words.{rep_of}
use Rattle.build.specs.EachSlot.{each_slot}

-- the labels of m slots tell the components of the set S
pub record Labels (a b : ℕ → ℕ) (S : List ℕ) (m : ℕ) (lab : ℕ → ℕ) : Type 0 where
  pub fit : (v : ℕ) → v < m → lab v < m
  pub joined : (u v : ℕ) → u < m → v < m → lab u ≡ lab v → Joined a b S u v
  pub alike : (u v : ℕ) → u < m → v < m → Joined a b S u v → lab u ≡ lab v

-- the words of the ranks tell their labels, and whether they are of the forest
pub record Words (a b : ℕ → ℕ) (S : List ℕ) (m : ℕ) (lab : ℕ → ℕ) (next : List ℕ) : Type 0 where
  pub on : (x : ℕ) → In x S → In x (forest a b S) → get_or next x 0 ≡ lab (a x)
  pub off : (x : ℕ) → In x S → (In x (forest a b S) → ⊥) → get_or next x 0 ≡ m + lab (a x)

-- for each of the ranks 1 to n, ascending
abbrev pub add_label : (ℕ → ℕ) → List ℕ → ℕ → ℕ → ℕ
add_label a sets c x = x + rep_of sets (a c)

unfoldable pub labelled : (ℕ → ℕ) → List ℕ → ℕ → List ℕ → List ℕ
labelled a sets n words = each_slot (add_label a sets) n 1 words
