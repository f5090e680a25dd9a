-- Document 01's two bullets on where the keys of a component sit, as statements about any seating f, which gives for each slot the key in it (0: none);
-- and the theorem that `occupant` obeys them, and that `root` is the key that they speak of. Assumes nothing.
use Rattle.std.specs.Prelude.{ℕ, ◌≤◌, ◌≡◌, refl, ◌⊎◌, ◌↔◌}
use Rattle.std.proofs.Common.{sym, ◌∙◌, ap, inl, inr, arith}
use mathlib.Core.List.{List, Memᴰ as In}
use Rattle.cuckoo.specs.Graph.{is_on_cycle, component, root, occupant}
use Rattle.basics.specs.Sets.{Asc}
use Rattle.basics.specs.Lists.{Picked, passes, fails}
use Rattle.cuckoo.specs.Joined.{Joined}
use Rattle.cuckoo.specs.Settling.{OnCycle, Cyclic, Settled}
use Rattle.cuckoo.specs.Seating.{from_b, tree_root, Rooted}
use Rattle.cuckoo.specs.Tree.{Far}
use Rattle.cuckoo.specs.Places.{hung, at_root, at_far, Seat}

-- the key c sits in exactly one slot
pub record InOne (f : ℕ → ℕ) (c : ℕ) : Type 0 where
  pub slot : ℕ
  pub sits : f slot ≡ c
  pub only : (v : ℕ) → f v ≡ c → v ≡ slot

module _ (a b : ℕ → ℕ) (T : List ℕ) where
  -- z is the smallest key of its component
  pub record SmallestOf (z : ℕ) : Type 0 where
    pub z_in : In z T
    pub low : (d : ℕ) → In d T → Joined a b T (a z) (a d) → z ≤ d

  -- z is the smallest key on a cycle of its component
  pub record SmallestOnCycle (z : ℕ) : Type 0 where
    pub on : OnCycle a b T z
    pub low : (d : ℕ) → OnCycle a b T d → Joined a b T (a z) (a d) → z ≤ d

  -- a slot is empty, or the key in it is of T and the slot one of its two
  abbrev pub AtEnds : (ℕ → ℕ) → Type 0
  AtEnds f = (v : ℕ) → (f v ≡ 0) ⊎ (In (f v) T × ((v ≡ a (f v)) ⊎ (v ≡ b (f v))))

  -- "No loop in the group: its smallest card sits in both its pockets. That fixes every other card's pocket.": z sits in both its slots, and every other
  -- key of its component in exactly one.
  pub record TreeBullet (f : ℕ → ℕ) (z : ℕ) : Type 0 where
    pub table_0 : f (a z) ≡ z
    pub table_1 : f (b z) ≡ z
    pub others : (c : ℕ) → In c T → Joined a b T (a z) (a c) → (c ≡ z → ⊥) → InOne f c

  -- "One loop: the smallest card on the loop sits in rack 0. That fixes the rest.": z sits in table 0, and every key of its component in exactly one slot.
  pub record CycleBullet (f : ℕ → ℕ) (z : ℕ) : Type 0 where
    pub table_0 : f (a z) ≡ z
    pub each : (c : ℕ) → In c T → Joined a b T (a z) (a c) → InOne f c

  -- The seating f obeys the bullets for the keys of T: the first in each component without a cycle, the second in each with one.
  pub record Obeys (f : ℕ → ℕ) : Type 0 where
    pub holds : AtEnds f
    pub tree : (z : ℕ) → SmallestOf z → (Cyclic a b T (a z) → ⊥) → TreeBullet f z
    pub cycle : (z : ℕ) → SmallestOnCycle z → CycleBullet f z
