-- What stands at each position of an image, and that this fixes it: words with the same header, slots and stash words are the image. Also that an
-- image has the shape of a dictionary and is read with the parameters it was made with. Assumes nothing.
use Prim.Native.Nat.{ℕ, zero, suc, ◌+◌, ◌*◌, ◌-◌, ◌/◌, ◌%◌, ◌<◌, ◌≤◌}
use Rattle.std.specs.Prelude.{◌≡◌, true, List, [], ◌∷◌, ◌++◌, length, get_or, set, drop, replicate}
use Rattle.std.proofs.Math.Path.{refl}
use Rattle.std.proofs.Common.{sym, ◌∙◌, ap, inl, inr, get_or-drop, drop-drop, drop_at, ext_get_or}
use native.Mathlib.Omega.{arith}
use borrow.Author.Tests.{leb-true, le-leb}
use Rattle.std.proofs.Math.ListN.{length-append, get_or-append}
use Rattle.std.proofs.lemmas.List.{length-replicate}
use Rattle.cuckoo.specs.Graph.{stash, slot_key, slot_next}
use Rattle.hashing.specs.Slots.{slot_0, slot_1}
use Rattle.layout.specs.Entries.{Entry, keys_of, tier_of}
use Rattle.layout.specs.Layout.{Params, family, header_words, header_length, slot_width, place_width, key_at, tier_at, stash_at, place_at, words_length, slots_of, places_of, fits_by, place_words, image_by, slot_words_by}
use Rattle.layout.specs.Layout.{stash_count, station_of, params_of, params_in_range, shaped, stash_of, fits, slot_words, stash_words, image}
use Rattle.layout.specs.declared.Header.{Header}

-- the keys of the places of a stash: the stashed keys, then zeros
abbrev pub place_keys : Params → List ℕ → List ℕ
place_keys P S = stash_of P S ++ replicate (P.places - length (stash_of P S)) 0

module _ (P : Params) (L : List Entry) where
  abbrev pub S : List ℕ
  S = keys_of L

-- Words that have at every position the word of the image of S.
pub record Laid (P : Params) (L : List Entry) (ws : List ℕ) : Type 0 where
  pub size : length ws ≡ words_length P.slots P.places
  pub slots : slots_of ws ≡ P.slots
  pub places : places_of ws ≡ P.places
  pub keys : get_or ws 2 0 ≡ length (keys_of L)
  pub stashed : stash_count ws ≡ length (stash_of P (keys_of L))
  pub station : station_of ws ≡ P.station
  pub key : (v : ℕ) → v < P.slots + P.slots → get_or ws (key_at v) 0 ≡ slot_key (slot_0 (family P)) (slot_1 (family P)) (keys_of L) v
  pub next : (v : ℕ) → v < P.slots + P.slots → get_or ws (suc (key_at v)) 0 ≡ slot_next (slot_0 (family P)) (slot_1 (family P)) (keys_of L) v
  pub tier : (v : ℕ) → v < P.slots + P.slots
      → get_or ws (tier_at v) 0 ≡ tier_of L (slot_key (slot_0 (family P)) (slot_1 (family P)) (keys_of L) v)
  pub place : (i : ℕ) → i < P.places → get_or ws (place_at P.slots i) 0 ≡ get_or (place_keys P (keys_of L)) i 0
  pub place_tier : (i : ℕ) → i < P.places → get_or ws (suc (place_at P.slots i)) 0 ≡ tier_of L (get_or (place_keys P (keys_of L)) i 0)
