-- The oriented forest: what the words `held` mean while the seats are worked out.
--
-- F is a set of keys without a cycle, so every component of the cuckoo graph of F is a tree: one slot more than it has keys. `held` (here h)
-- has a word for each slot: the key that stands there, or 0 for a bare slot. Each key of F stands in exactly one of its two slots, and no
-- slot has two; so one slot of each tree is bare, and that is the tree's root. A key leads from the slot where it stands to its other slot,
-- which is one step nearer to the root.
--
--     slots   u ── c ── v ── d ── r      held[u] = c, held[v] = d, held[r] = 0: r is the root
--
-- It is a forest with parent pointers, where a key is the pointer, since a key knows its two slots. Assumes nothing.
use Rattle.std.specs.Prelude.{ℕ, ◌≡◌, get_or}
use mathlib.Core.List.{List, Memᴰ as In}
use Rattle.basics.specs.Sets.{without}
use Rattle.cuckoo.specs.Joined.{Joined}
use Rattle.cuckoo.specs.Seating.{Ends}

module _ (a b : ℕ → ℕ) where
  -- a set of keys without a cycle: the others never join the two slots of a key; and 0 is no key
  pub record Forest (F : List ℕ) : Type 0 where
    pub acyclic : (c : ℕ) → In c F → Joined a b (without c F) (a c) (b c) → ⊥
    pub nonzero : (c : ℕ) → In c F → c ≡ 0 → ⊥

  -- the key c stands in its slot v, and not in its other slot w
  pub record StandsIn (h : List ℕ) (c : ℕ) : Type 0 where
    pub v : ℕ
    pub w : ℕ
    pub ends : Ends a b c v w
    pub at : get_or h v 0 ≡ c
    pub off : get_or h w 0 ≡ c → ⊥

  -- c is a key of F, and v one of its two slots
  pub record Owned (F : List ℕ) (c v : ℕ) : Type 0 where
    pub w : ℕ
    pub mem : In c F
    pub ends : Ends a b c v w

  -- In the component of slot p, a filled slot holds a key of F that has an end there, and each key of F stands in one of its two slots.
  pub record Oriented (F h : List ℕ) (p : ℕ) : Type 0 where
    pub own : (v c : ℕ) → Joined a b F p v → get_or h v 0 ≡ c → (c ≡ 0 → ⊥) → Owned F c v
    pub stands : (c : ℕ) → In c F → Joined a b F p (a c) → StandsIn h c

  -- all of h is an oriented forest of the keys of F
  pub record OrientedForest (F h : List ℕ) : Type 0 where
    pub forest : Forest F
    pub each : (p : ℕ) → Oriented F h p

  -- The key c of F stands in slot v and leads to w: without c these two are apart, and c stands in no other slot of the tree.
  pub record LeadsTo (F h : List ℕ) (c v : ℕ) : Type 0 where
    pub w : ℕ
    pub ends : Ends a b c v w
    pub mem : In c F
    pub at : get_or h v 0 ≡ c
    pub apart : Joined a b (without c F) v w → ⊥
    pub over : Joined a b F v w
    pub only : (x : ℕ) → Joined a b F v x → get_or h x 0 ≡ c → x ≡ v
