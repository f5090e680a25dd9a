-- The forest of a set of keys: those that, as keys are laid down from the smallest up, join what was not joined before (Kruskal's rule). It joins what
-- the set joins and has no cycle, and no key of it is the largest on a cycle. Assumes nothing.
use Rattle.std.specs.Prelude.{ℕ, zero, suc, ◌<◌, ◌≤◌, ◌⊎◌}
use Rattle.std.proofs.Common.{sym, ◌∙◌, inl, inr, arith, not-suc-le-zero}
use Rattle.std.proofs.Math.Bool.{not, true≢false}
use mathlib.Core.List.Memᴰ.{head as here}
use mathlib.Core.List.Memᴰ.{tail as there}
use mathlib.Core.List.{List, ◌∷◌, Memᴰ as In}
use borrow.Author.Tests.{not-true}
use Rattle.basics.specs.Sets.{keep, without, Sub, below}
use Rattle.cuckoo.specs.Graph.{joined}
use Rattle.cuckoo.specs.Joined.{Joined, past, along, back}

module _ (a b : ℕ → ℕ) where
  -- a larger key on a cycle, near the key c
  pub record Larger (R : List ℕ) (c : ℕ) : Type 0 where
    pub m : ℕ
    pub m_in : In m R
    pub c<m : c < m
    pub cycle : Joined a b (below m R) (a m) (b m)
    pub near : Joined a b R (a c) (a m)

  -- the keys that join, as they are laid down from the smallest up, what was not joined
  unfoldable pub forest : List ℕ → List ℕ
  forest S = keep (λ c. not (joined a b (below c S) (a c) (b c))) S
