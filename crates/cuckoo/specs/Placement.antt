-- "Full drawer" without the canonical rule: the stash of a set has at most s keys exactly if its keys can be put, each into one of its two slots or
-- into one of s places aside, no two together. So a refusal for a full stash is no fault of the rule: no placement of the set exists. Assumes nothing.
use Rattle.std.specs.Prelude.{ℕ, ◌+◌, ◌<◌, ◌≤◌, ◌≡◌, refl, cond, ◌⊎◌, ◌↔◌, eqb, length}
use Rattle.std.proofs.Common.{sym, ◌∙◌, ap, arith, eqb-true, length-append}
use Rattle.std.proofs.Math.Bool.{true, true≢false}
use Rattle.std.proofs.Math.Logic.{inl, inr}
use mathlib.Core.List.Memᴰ
use mathlib.Core.List.{List, ◌++◌, map, Memᴰ as In}
use Rattle.std.proofs.lemmas.Bool.{eqb-false}
use Rattle.std.proofs.lemmas.List.{length-map}
use Rattle.basics.specs.Tests.{test}
use Rattle.basics.specs.Sets.{member, without, Sub, below, Asc}
use Rattle.basics.specs.Lists.{upto}
use Rattle.cuckoo.specs.Graph.{cyclic, seated, stash, occupant}
use Rattle.cuckoo.specs.Settling.{Cyclic}

-- where a key may be put: a slot, or a place aside
pub data Place : Type 0 where
  slot : ℕ → Place
  place : ℕ → Place

module _ (a b : ℕ → ℕ) where
  -- the key c may be at p: a slot of its own, or one of s places
  pub data MaySit (s c : ℕ) (p : Place) : Type 0 where
    table_0 : p ≡ slot (a c) → MaySit s c p
    table_1 : p ≡ slot (b c) → MaySit s c p
    aside : (i : ℕ) → i < s → p ≡ place i → MaySit s c p

  -- "no placement of the new set exists": a placement of S is any way to put its keys where they may be, no two at one place
  pub record Placement (s : ℕ) (S : List ℕ) : Type 0 where
    pub at : ℕ → Place
    pub allowed : (c : ℕ) → In c S → MaySit s c (at c)
    pub apart : (c d : ℕ) → In c S → In d S → at c ≡ at d → c ≡ d
