-- What was there before tiers and stations, tied to what is: the image of a set, its station number taken away, is the list that document 02's request One
-- describes, and its tiers taken away, too, document 01's image of the keys. Both hash with document 01's own tabulation of 2,048 numbers where that is the
-- tabulation's, moved: seats, next numbers and stash go by the keys alone. Assumes nothing.
use Prim.Native.Nat.{ℕ, zero, suc, ◌+◌, ◌-◌}
use Rattle.std.proofs.Common.{arith}
use Rattle.std.specs.Prelude.{◌≡◌, true, List, [], ◌∷◌, ◌++◌, length, get_or, take, drop, replicate}
use Rattle.std.proofs.Math.Path.{refl, ap}
use Rattle.cuckoo.specs.Graph.{stash, slot_key, slot_next}
use Rattle.hashing.specs.Hash.{first_part}
use Rattle.hashing.specs.Slots.{slot_0, slot_1}
use Rattle.hashing.specs.Stations.{hash_01, Moved}
use Rattle.layout.specs.Entries.{Entry, keys_of, tier_of}
use Rattle.layout.specs.Layout.{Params, family, header_length, slot_width, slots_of, fits, image, slot_words, stash_entries, slot_words_by, body_by, image_by}
use Rattle.layout.specs.Ends.{Known}

-- The list without a station, over two end functions: r, s, the number of keys and that of the stashed ones, then the tables and the stash.
abbrev pub image_before : (a b : ℕ → ℕ) (r s : ℕ) → List Entry → List ℕ
image_before a b r s L = r ∷ s ∷ length (keys_of L) ∷ length (stash a b (keys_of L)) ∷ body_by a b (tier_of L) r s (keys_of L)

-- words without their station number
abbrev pub stationless : List ℕ → List ℕ
stationless ws = take 4 ws ++ drop header_length ws

-- n slots from v on, key and next
module _ (a b : ℕ → ℕ) where
  unfoldable pub key_slots : List ℕ → ℕ → ℕ → List ℕ
  key_slots S v zero = []
  key_slots S v (suc n) = slot_key a b S v ∷ slot_next a b S v ∷ key_slots S (suc v) n

  -- document 01's image of a set of keys: 4 + 4r + s words
  abbrev pub key_image : ℕ → ℕ → List ℕ → List ℕ
  key_image r s S =
      (r ∷ s ∷ length S ∷ length (stash a b S) ∷ []) ++ (key_slots S 0 (r + r) ++ (stash a b S ++ replicate (s - length (stash a b S)) 0))

-- words without their tiers and their station number
unfoldable pub bare_slots : ℕ → List ℕ → List ℕ
bare_slots zero ws = []
bare_slots (suc n) ws = get_or ws 0 0 ∷ get_or ws 1 0 ∷ bare_slots n (drop slot_width ws)

abbrev pub bare : List ℕ → List ℕ
bare ws = take 4 ws ++ (bare_slots (slots_of ws + slots_of ws) (drop header_length ws) ++ keys_of (stash_entries ws))

-- document 01's slots of a number, with its own tabulation, and those of a key, which are its first part's
abbrev pub slot_0_01 : List ℕ → ℕ → ℕ → ℕ
slot_0_01 old r number = hash_01 old r 0 number

abbrev pub slot_1_01 : List ℕ → ℕ → ℕ → ℕ
slot_1_01 old r number = r + hash_01 old r 1 number

abbrev pub old_0 : List ℕ → ℕ → ℕ → ℕ
old_0 old r key = slot_0_01 old r (first_part key)

abbrev pub old_1 : List ℕ → ℕ → ℕ → ℕ
old_1 old r key = slot_1_01 old r (first_part key)

module _ (P : Params) (L : List Entry) where
  abbrev pub S : List ℕ
  S = keys_of L
