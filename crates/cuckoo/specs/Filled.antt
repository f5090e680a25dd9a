-- Which slots are filled, how often a key sits, and that every key is seated or in the stash. Assumes nothing.
use Prim.Native.Nat.{ℕ, ◌+◌}
use Rattle.std.specs.Prelude.{◌≡◌, refl, true, ◌⊎◌}
use Rattle.std.proofs.Common.{sym, ◌∙◌}
use Rattle.std.proofs.Math.Path.{ap}
use Rattle.std.proofs.Math.Bool.{Bool, not, true≢false}
use Rattle.std.proofs.Math.Logic.{inl, inr}
use mathlib.Core.List.{List, Memᴰ as In}
use borrow.Author.Tests.{not-true}
use Rattle.std.proofs.Math.ListN.{length}
use Rattle.basics.specs.Sets.{member, keep, Sub, Asc}
use Rattle.cuckoo.specs.Graph.{root, sits, occupant, seated, stash}
use Rattle.cuckoo.specs.Joined.{Joined}
use Rattle.cuckoo.specs.Settling.{Cyclic, Settled}
use Rattle.cuckoo.specs.Bullets.{InOne, SmallestOf}

module _ (a b : ℕ → ℕ) where
  -- How the key c sits: in exactly one slot, or in both its slots, if it is the smallest key of a component without a cycle.
  pub data Sitting (T : List ℕ) (c : ℕ) : Type 0 where
    in_one : InOne (occupant a b T) c → Sitting T c
    in_both : SmallestOf a b T c → (Cyclic a b T (a c) → ⊥) → occupant a b T (a c) ≡ c → occupant a b T (b c) ≡ c → Sitting T c
