-- Components are those of the whole set, stashed keys included, and what happens in one depends on its keys alone: which of its keys settling
-- takes away, in what order, which slots the others take and which key each points to. Assumes nothing.
use Prim.Native.Nat.{ℕ}
use Rattle.std.specs.Prelude.{◌≡◌, ◌&&◌, ◌||◌, ◌↔◌}
use Rattle.std.proofs.Common.{sym, ◌∙◌}
use Rattle.std.proofs.Math.Path.{ap}
use Rattle.std.proofs.Math.Bool.{Bool, true, not, and-true as and_right}
use Rattle.std.proofs.Math.Logic.{inl, inr}
use mathlib.Core.List.{List, Memᴰ as In}
use Rattle.std.proofs.Math.Dec.{eqb}
use Rattle.basics.specs.Tests.{test}
use Rattle.basics.specs.Sets.{member, keep, without, first, Sub, below, Asc}
use Rattle.cuckoo.specs.Graph.{joined, is_on_cycle, component, seated, stash, root, sits, occupant, next}
use Rattle.cuckoo.specs.Joined.{Joined}
use Rattle.cuckoo.specs.Forest.{forest}
use Rattle.cuckoo.specs.Settling.{OnCycle, Cyclic, Spare, tree, smallest}

module _ (a b : ℕ → ℕ) where
  -- two sets have the same image in v's component: the same keys there are seated, in the same slots and with the same next keys, and the same
  -- are in the stash
  pub record SameImage (S S' : List ℕ) (v : ℕ) : Type 0 where
    pub seats : component a b (seated a b S) v ≡ component a b (seated a b S') v
    pub slots : (u : ℕ) → Joined a b S v u → occupant a b (seated a b S) u ≡ occupant a b (seated a b S') u
    pub nexts : (c : ℕ) → Joined a b S v (a c) → next a b (seated a b S) c ≡ next a b (seated a b S') c
    pub nexts_there : (u : ℕ) → Joined a b S v u → (occupant a b (seated a b S) u ≡ 0 → ⊥)
        → next a b (seated a b S) (occupant a b (seated a b S) u) ≡ next a b (seated a b S') (occupant a b (seated a b S') u)
    pub stashed : keep (λ c. joined a b S v (a c)) (stash a b S) ≡ keep (λ c. joined a b S' v (a c)) (stash a b S')
