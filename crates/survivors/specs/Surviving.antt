-- Who survives: an entry survives exactly if it stands in a spot that counts, before which no spot counts with its
-- first part (`survives_iff`). The survivors are a set (`survivors_valid`), and "The survivors always fit"
-- (`survivors_fit`): each was found in a place of its own, which is a placement. Assumes nothing.
use Rattle.std.specs.Prelude.{ℕ, ◌+◌, ◌≤◌, ◌≡◌, refl, Bool, false, not, ◌&&◌, ◌⊎◌, ◌↔◌, eqb, leb}
use Rattle.std.proofs.Common.{sym, ◌∙◌, true≢false}
use Rattle.std.proofs.Math.Path.{ap}
use Rattle.std.proofs.Math.Bool.{true}
use Rattle.std.proofs.Math.Logic.{inl, inr}
use mathlib.Core.List.Memᴰ.{head as here}
use mathlib.Core.List.Memᴰ.{tail as there}
use mathlib.Core.List.{List, [], ◌∷◌, ◌++◌, map, Memᴰ as In}
use mathlib.Core.List.Memᴰ
use borrow.Author.Tests.{eqb-true, eq-eqb, ne_eqb, leb-true, not-true}
use Rattle.basics.specs.Tests.{test}
use Rattle.basics.specs.Sets.{keep}
use Rattle.ordered.specs.Keys.{sorted, distinct}
use Rattle.cuckoo.specs.Placement.{slot, MaySit, table_0, table_1, aside, Placement}
use Rattle.hashing.specs.Hash.{Family, first_part, blank}
use Rattle.hashing.specs.Slots.{slot_0, slot_1}
use Rattle.layout.specs.Entries.{Entry, max_tier, keys_of}
use Rattle.layout.specs.Layout.{ValidKeys, ValidSet, params_of, family_of, places_of, fits, Spot, spots, spot_key}
use Rattle.survivors.specs.Salvage.{own_place, counts, counting, standing, standing_keys, survivors}
use Rattle.survivors.specs.Spots.{SpotOf, at_slot, at_place}

-- the entry stands in a spot that counts, and no spot before it counts with its first part
pub record FirstThatCounts (tabulation ws : List ℕ) (e : Entry) : Type 0 where
  pub before : List Spot
  pub spot : Spot
  pub behind : List Spot
  pub is : spots ws ≡ before ++ (spot ∷ behind)
  pub entry : spot.entry ≡ e
  pub counted : counts (family_of tabulation ws) spot ≡ true
  pub first : (y : Spot) → In y before → counts (family_of tabulation ws) y ≡ true
      → first_part (spot_key y) ≡ first_part e.key → ⊥

-- The laws. What counts is sound, and in a place of its own.
pub record SoundSpot (F : Family) (x : Spot) : Type 0 where
  pub not_blank : blank (spot_key x) ≡ false
  pub small_tier : x.entry.tier ≤ max_tier
  pub own : own_place F x.at (spot_key x) ≡ true

-- The first of all spots that counts with a first part.
module _ (F : Family) (c : ℕ) where
  -- X is what comes before it, where none does, itself, and what comes behind it
  pub record Split (X : List Spot) : Type 0 where
    pub before : List Spot
    pub behind : List Spot
    pub is : X ≡ before ++ (standing (keep (counts F) X) c ∷ behind)
    pub none : (y : Spot) → In y before → counts F y ≡ true → first_part (spot_key y) ≡ first_part c → ⊥

-- What survives.
module _ (tabulation ws : List ℕ) where
  abbrev pub F : Family
  F = family_of tabulation ws

  abbrev pub X : List Spot
  X = counting tabulation ws
