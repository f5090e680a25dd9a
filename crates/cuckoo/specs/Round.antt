-- A walk from slot to slot, each time along the key in a slot to that key's other slot. So code finds the trail of a key, which cannot know the root
-- beforehand: the walk runs through the trail, and once it comes back to a slot the smallest key that it met since then is the root. Assumes nothing.
use Prim.Native.Nat.{ℕ, zero, suc, ◌+◌, ◌-◌, ◌<◌, ◌≤◌}
use Rattle.std.specs.Prelude.{◌≡◌, List, [], ◌∷◌}
use Rattle.std.proofs.Math.Path.{refl, sym, ap}
use Rattle.std.proofs.Common.{◌∙◌}
use Rattle.std.proofs.Math.Logic.{inl, inr}
use native.Mathlib.Omega.{arith}
use Rattle.basics.specs.Sets.{without, Asc}
use Rattle.basics.specs.Lists.{passes, fails}
use Rattle.cuckoo.specs.Graph.{is_on_cycle, root, occupant}
use Rattle.cuckoo.specs.Joined.{Joined}
use Rattle.cuckoo.specs.Settling.{OnCycle, Settled}
use Rattle.cuckoo.specs.Seating.{Ends, from_a, from_b}
use Rattle.cuckoo.specs.Places.{Seat}
use Rattle.cuckoo.specs.Trail.{seat, other, trail, Trail, ends, hands_on}

-- A walk by steps g from the slot v: the slot after n steps,
module _ (g : ℕ → ℕ) where
  unfoldable pub path : ℕ → ℕ → ℕ
  path v zero = v
  path v (suc n) = path (g v) n

  -- and what h says of the first n slots.
  unfoldable pub along : (ℕ → ℕ) → ℕ → ℕ → List ℕ
  along h v zero = []
  along h v (suc n) = h v ∷ along h (g v) n

module _ (a b : ℕ → ℕ) {T : List ℕ} (asc : Asc T) (stop : Settled a b T) where
  abbrev pub held : ℕ → ℕ
  held v = occupant a b T v

  -- g leads from a slot to the other slot of the key that sits there
  module _ (g : ℕ → ℕ) (crosses : (v c : ℕ) → Seat a b T v c → Ends a b c v (g v)) where
    -- a slot in which a key sits whose root is z
    pub record Under (z v : ℕ) : Type 0 where
      pub key : Seat a b T v (held v)
      pub of : root a b T (a (held v)) ≡ z
