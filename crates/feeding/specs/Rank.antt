-- When a key enlarges the stash: exactly if both its slots lie in components with a cycle (`stash_with`), and so, once
-- it does, in every larger set (`diminishing`). Keys that do so one by one seat no more all together (`rank_least`),
-- and of the settled parts of a set none is larger than the seated keys (`rank_most`). Assumes nothing.
use Rattle.std.specs.Prelude.{ℕ, suc, ◌+◌, ◌≤◌, ◌≡◌, cond, ◌⊎◌, ◌↔◌, eqb, length}
use Rattle.std.proofs.Common.{sym, ◌∙◌, arith, eqb-true}
use Rattle.std.proofs.Math.Bool.{true≢false}
use Rattle.std.proofs.Math.Logic.{inl, inr}
use mathlib.Core.List.Memᴰ.{head as here}
use mathlib.Core.List.Memᴰ.{tail as there}
use mathlib.Core.List.{List, ◌∷◌, Memᴰ as In}
use Rattle.std.proofs.lemmas.Bool.{eqb-false}
use Rattle.basics.specs.Tests.{test}
use Rattle.basics.specs.Sets.{without, Sub, Asc}
use Rattle.ordered.specs.Keys.{with_key}
use Rattle.cuckoo.specs.Graph.{cyclic, seated, stash, occupant}
use Rattle.cuckoo.specs.Joined.{Joined, past, along, back}
use Rattle.cuckoo.specs.Settling.{OnCycle, Cyclic, Spare, Settled}

module _ (a b : ℕ → ℕ) where
  -- both slots of c lie in components of R with a cycle
  pub record BothCyclic (R : List ℕ) (c : ℕ) : Type 0 where
    pub left : Cyclic a b R (a c)
    pub right : Cyclic a b R (b c)
