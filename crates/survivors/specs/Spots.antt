-- The spots of given words, by where they are: each slot and each place is one spot, and what stands there is told by
-- where it is. So two spots at one place are one. Assumes nothing.
use Prim.Native.Nat.{ℕ, zero, suc, ◌+◌, ◌*◌, ◌≤◌, ◌<◌}
use Rattle.std.specs.Prelude.{◌≡◌, refl, length, get_or}
use Rattle.std.proofs.Common.{sym, ◌∙◌, ap, length-append}
use Rattle.std.proofs.Math.Logic.{inl, inr}
use mathlib.Core.List.Memᴰ.{head as here}
use mathlib.Core.List.Memᴰ.{tail as there}
use mathlib.Core.List.{List, [], ◌∷◌, Memᴰ as In}
use mathlib.Core.List.Memᴰ
use native.Mathlib.Omega.{arith}
use Rattle.cuckoo.specs.Placement.{Place, slot, place}
use Rattle.layout.specs.Entries.{Entry, no_entry}
use Rattle.layout.specs.Layout.{family_of, slots_of, places_of, slot_entry, stash_entries, Spot, slot_spots}
use Rattle.layout.specs.Layout.{place_spots, spots}
use Rattle.survivors.specs.Salvage.{counts, counting}

-- the spot at a slot, and that at a place of the stash
abbrev pub slot_spot : List ℕ → ℕ → Spot
slot_spot ws v = record { at = slot v; entry = slot_entry ws v }

abbrev pub place_spot : List ℕ → ℕ → Spot
place_spot ws i = record { at = place i; entry = get_or (stash_entries ws) i no_entry }

-- A spot of the words: one of the slots, or one of the places.
pub data SpotOf (ws : List ℕ) (x : Spot) : Type 0 where
  at_slot : (v : ℕ) → v < slots_of ws + slots_of ws → x ≡ slot_spot ws v → SpotOf ws x
  at_place : (i : ℕ) → i < places_of ws → x ≡ place_spot ws i → SpotOf ws x
