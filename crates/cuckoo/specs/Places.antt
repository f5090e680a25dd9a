-- The rule of `sits` and `occupant` in one form for both kinds of component: the root z sits in its slot in table 0, and the others hang from that slot
-- as a tree, each at its far end. On a cycle the tree is without z's own line; with no cycle z has a far end as well, its slot in table 1.
-- Assumes nothing.
use Rattle.std.specs.Prelude.{ℕ, ◌≡◌, refl, cond, ◌⊎◌}
use Rattle.std.proofs.Common.{sym, ◌∙◌, ap}
use Rattle.std.proofs.Math.Bool.{true≢false}
use Rattle.std.proofs.Math.Logic.{inl, inr}
use mathlib.Core.List.{List, Memᴰ as In}
use Rattle.basics.specs.Tests.{test}
use Rattle.basics.specs.Sets.{without, Sub}
use Rattle.cuckoo.specs.Graph.{is_on_cycle, root, occupant}
use Rattle.cuckoo.specs.Joined.{Joined}
use Rattle.cuckoo.specs.Settling.{OnCycle, Settled}
use Rattle.cuckoo.specs.Seating.{Ends, from_a, from_b, Bare, Sat, tree_root, tree_away, cycle_root, cycle_away, Rooted}
use Rattle.cuckoo.specs.Tree.{Far}

module _ (a b : ℕ → ℕ) where
  -- the keys that hang as trees, where z is a root: on a cycle z is left out
  unfoldable pub hung : List ℕ → ℕ → List ℕ
  hung T z = cond (is_on_cycle a b T z) (without z T) T

  -- the root z sits in its slot in table 0, and the keys that hang from there sit at their far ends
  pub data PlaceOf (T : List ℕ) (z v c : ℕ) : Type 0 where
    at_root : c ≡ z → v ≡ a z → PlaceOf T z v c
    at_far : Far a b (hung T z) (a z) c v → PlaceOf T z v c

  -- the key c of T sits in the slot v
  pub record Seat (T : List ℕ) (v c : ℕ) : Type 0 where
    pub c_in : In c T
    pub place : PlaceOf T (root a b T (a c)) v c
