-- The same for code: all issues of a first part have the same two slots. So the first that counts of a first part is
-- found where a lookup looks, in its order: what is sound with that first part in its slot of table 0, else in that of
-- table 1, else in the first such place of the stash (`standing_looked`). And how many are lost is told by how many
-- spots are occupied and how many count (`occupied_split`). Assumes nothing.
use Prim.Native.Nat.{ℕ, zero, suc, ◌+◌, ◌-◌, ◌≤◌, ◌<◌}
use Rattle.std.specs.Prelude.{◌≡◌, Bool, true, false, not, cond, ◌&&◌, ◌⊎◌, eqb, leb, length}
use Rattle.std.proofs.Math.Path.{refl}
use Rattle.std.proofs.Common.{sym, ◌∙◌, ap}
use Rattle.std.proofs.Math.Bool.{or-true}
use Rattle.std.proofs.Math.Logic.{inl, inr}
use mathlib.Core.List.Memᴰ.{head as here}
use mathlib.Core.List.{List, [], ◌∷◌, ◌++◌, append_assoc, Memᴰ as In}
use mathlib.Core.List.Memᴰ.{tail as there}
use native.Mathlib.Omega.{arith}
use borrow.Author.Tests.{eqb-true, eq-eqb, ne_eqb, leb-true}
use Rattle.basics.specs.Tests.{test}
use Rattle.basics.specs.Sets.{keep}
use Rattle.cuckoo.specs.Placement.{slot}
use Rattle.hashing.specs.Hash.{Family, first_part, blank}
use Rattle.hashing.specs.Slots.{slot_0, slot_1}
use Rattle.layout.specs.Entries.{Entry, max_tier, no_entry}
use Rattle.layout.specs.Layout.{family_of, slots_of, slot_entry, stash_entries, Spot, slot_spots, place_spots, spots}
use Rattle.layout.specs.Layout.{spot_key, looked_at}
use Rattle.survivors.specs.Salvage.{own_place, counts, counting, standing, occupied, lost_in}
use Rattle.survivors.specs.Spots.{slot_spot}

-- key and tier are in their ranges
abbrev pub sound : Entry → Bool
sound e = not (blank e.key) && leb e.tier max_tier

-- an entry is sound, and an issue of this first part
unfoldable pub is_issue : Entry → ℕ → Bool
is_issue e part = sound e && eqb (first_part e.key) part

-- of these entries the first that is sound and has the key's first part
unfoldable pub sound_issue : List Entry → ℕ → Entry
sound_issue [] key = no_entry
sound_issue (e ∷ L) key = cond (is_issue e (first_part key)) e (sound_issue L key)
