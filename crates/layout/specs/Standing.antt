-- Which keys stand in given words, told by position; and that in the image of a set exactly its keys stand. So a set is read back from its image.
-- Assumes nothing.
use Rattle.std.specs.Prelude.{ℕ, zero, suc, ◌+◌, ◌*◌, ◌-◌, ◌≤◌, ◌<◌, ◌≡◌, refl, true, false, ◌↔◌, length, get_or, take, drop, replicate}
use Rattle.std.proofs.Common.{sym, ◌∙◌, arith, get_or-drop}
use Rattle.std.proofs.Math.Path.{ap}
use Rattle.std.proofs.Math.Bool.{not}
use Rattle.std.proofs.Math.Logic.{inl, inr}
use mathlib.Core.List.Memᴰ
use mathlib.Core.List.Memᴰ.{head as here}
use mathlib.Core.List.Memᴰ.{tail as there}
use mathlib.Core.List.{List, [], ◌∷◌, ◌++◌, map, map-append, Memᴰ as In}
use borrow.Author.Tests.{ne_eqb, not-true}
use borrow.Rule.Slice.PartMut.{mid_of}
use Rattle.basics.specs.Sets.{keep, Asc}
use Rattle.cuckoo.specs.Graph.{seated, stash, occupant, next, slot_key, slot_next}
use Rattle.hashing.specs.Hash.{blank}
use Rattle.hashing.specs.Slots.{slot_0, slot_1}
use Rattle.layout.specs.Entries.{Entry, keys_of, tier_of, tiered, no_entry}
use Rattle.layout.specs.Layout.{Params, family, family_of, ValidKeys, place_width, key_at, stash_at, place_at, slots_of, places_of, place_words, image_by}
use Rattle.layout.specs.Layout.{stash_of, fits, stash_words, image, place_entries, stash_entries, slot_spots, place_spots, spot_key, key_words, keys_in, slot_entry, looked_at, tier_in, set_in}

-- the key words of any words

-- c is the key word of a slot, or of a place of the stash
pub data KeyWord (ws : List ℕ) (c : ℕ) : Type 0 where
  at_slot : (v : ℕ) → v < slots_of ws + slots_of ws → get_or ws (key_at v) 0 ≡ c → KeyWord ws c
  in_stash : (i : ℕ) → i < places_of ws → get_or ws (place_at (slots_of ws) i) 0 ≡ c → KeyWord ws c

-- a set in its slots and its stash

module _ (a b : ℕ → ℕ) {S : List ℕ} (asc : Asc S) where
  -- where a key of the set is seen: in its slot of table 0, in that of table 1, or in the stash
  pub data Seen (c : ℕ) : Type 0 where
    table_0 : slot_key a b S (a c) ≡ c → Seen c
    table_1 : slot_key a b S (b c) ≡ c → Seen c
    stashed : In c (stash a b S) → Seen c

module _ (P : Params) (L : List Entry) (e : fits P (keys_of L) ≡ true) where
  abbrev pub S : List ℕ
  S = keys_of L
