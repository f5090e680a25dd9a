-- Head office's rule (document 02, "Seven") on an ascending list of keys, as definitions that compute; and the theorem
-- that it seats and stashes what document 01's rule does, which takes the largest away: both are Kruskal's algorithm.
-- Assumes nothing.
use Rattle.std.specs.Prelude.{ℕ, ◌≡◌, Bool, false, ◌||◌, ◌↔◌, eqb}
use Rattle.std.proofs.Math.Path.{sym, ap}
use Rattle.std.proofs.Common.{◌∙◌, arith}
use Rattle.std.proofs.Math.Bool.{true, not, true≢false}
use Rattle.std.proofs.Math.Logic.{inl, inr}
use mathlib.Core.List.{List, Memᴰ as In}
use borrow.Author.Tests.{eqb-true, eq-eqb, not-true, not-false}
use Rattle.basics.specs.Tests.{test}
use Rattle.basics.specs.Sets.{keep, first, member, below, Asc}
use Rattle.cuckoo.specs.Graph.{joined, component, seated, stash}
use Rattle.cuckoo.specs.Joined.{Joined}
use Rattle.cuckoo.specs.Forest.{forest}
use Rattle.cuckoo.specs.Settling.{Stays, tree, smallest}

module _ (a b : ℕ → ℕ) where
  -- "Going up, a card that joins two separate groups": the smaller keys do not join its two slots. Of every other key
  -- they do: it closes a loop.
  unfoldable pub joins_groups : List ℕ → ℕ → Bool
  joins_groups S c = not (joined a b (below c S) (a c) (b c))

  -- "the cards that close a loop .. in each finished group": those of slot v's component, as the whole set makes it
  unfoldable pub loop_closers : List ℕ → ℕ → List ℕ
  loop_closers S v = keep (λ c. not (joins_groups S c)) (component a b S v)

  -- A card that joins groups "is seated. Of the cards that close a loop, the smallest in each finished group is
  -- seated",
  unfoldable pub rises_seated : List ℕ → ℕ → Bool
  rises_seated S c = joins_groups S c || eqb c (first (loop_closers S (a c)))

  unfoldable pub rising_seated : List ℕ → List ℕ
  rising_seated S = keep (rises_seated S) S

  -- "and the others go to the drawer."
  unfoldable pub rising_stash : List ℕ → List ℕ
  rising_stash S = keep (λ c. not (rises_seated S c)) S
