-- One component finished: afterwards each of its slots holds its occupant, none is bare, and the other slots are as they were.
--
-- K are the seated keys, and F, the forest, joins all that K joins.
-- A component without a cycle is a tree of F. It is re-rooted at the slot in table 0 of its smallest key; that key then stands in its slot in
-- table 1, and it is left in the root as well, so that it sits in both.
-- A component with a cycle has one key y outside F. The smaller keys of F join the two slots of y: the cycle is y and the way between them. The
-- smallest key z on that way is the smallest on the cycle. It is taken out of the tree, y comes in for it, and the tree is re-rooted at z's slot in
-- table 0, where z is left. Assumes nothing.
use Rattle.std.specs.Prelude.{ℕ, ◌≤◌, ◌≡◌, ◌⊎◌}
use mathlib.Core.List.{List, Memᴰ as In}
use Rattle.std.proofs.Math.ListN.{length, get_or, set}
use Rattle.basics.specs.Sets.{Sub, Asc, below}
use Rattle.cuckoo.specs.Graph.{occupant}
use Rattle.cuckoo.specs.Joined.{Joined}
use Rattle.forest.specs.Oriented.{Forest}
use Rattle.forest.specs.Reroot.{reroot}
use Rattle.forest.specs.Way.{lowest_slot}

module _ (a b : ℕ → ℕ) (other : ℕ → ℕ → ℕ) (n : ℕ) where
  -- without a cycle, z being the smallest key
  unfoldable pub finish_tree : List ℕ → ℕ → List ℕ
  finish_tree h z = reroot other n h z (a z)

  -- the root is at a y: the key z in slot s goes out of it, y comes in at b y, and z is left at a z
  unfoldable pub exchange : List ℕ → ℕ → ℕ → List ℕ
  exchange h y s = let z = get_or h s 0 in reroot other n (reroot other n (set h s 0) y (b y)) z (a z)

  -- with a cycle, y being the key outside the forest
  unfoldable pub finish_cycle : List ℕ → ℕ → List ℕ
  finish_cycle h y = let k = reroot other n h 0 (a y) in exchange k y (lowest_slot other n k (b y) (b y))

module _ (a b : ℕ → ℕ) where
  -- `out` is h with the component of slot p finished
  pub record Finished (K h : List ℕ) (p : ℕ) (out : List ℕ) : Type 0 where
    pub seats : (v : ℕ) → Joined a b K p v → (occupant a b K v ≡ get_or out v 0) × (get_or out v 0 ≡ 0 → ⊥)
    pub frame : (x : ℕ) → (Joined a b K p x → ⊥) → get_or out x 0 ≡ get_or h x 0
    pub size : length out ≡ length h

  -- the forest F spans the set of keys K
  pub record Spanned (K F : List ℕ) : Type 0 where
    pub asc : Asc K
    pub forest : Forest a b F
    pub sub : Sub F K
    pub spans : (c : ℕ) → In c K → Joined a b F (a c) (b c)

  -- a component without a cycle: all its keys are in the forest, and z is the smallest
  pub record TreeComponent (K F : List ℕ) (z : ℕ) : Type 0 where
    pub z_in : In z K
    pub all : (c : ℕ) → In c K → Joined a b K (a z) (a c) → In c F
    pub low : (c : ℕ) → In c K → Joined a b K (a z) (a c) → z ≤ c

  -- a component with a cycle: all its keys but y are in the forest, whose smaller keys join the slots of y
  pub record CycleComponent (K F : List ℕ) (y : ℕ) : Type 0 where
    pub y_in : In y K
    pub off : In y F → ⊥
    pub all : (c : ℕ) → In c K → Joined a b K (a y) (a c) → (c ≡ y) ⊎ In c F
    pub closed : Joined a b (below y F) (a y) (b y)
