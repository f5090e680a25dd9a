-- The laws of what specs/Bare.antt defines.
use Prim.Native.Nat.{ℕ, zero, suc, ◌+◌, ◌-◌}
use Rattle.std.proofs.Common.{arith}
use Rattle.std.specs.Prelude.{◌≡◌, true, List, [], ◌∷◌, ◌++◌, length, get_or, take, drop, replicate}
use Rattle.std.proofs.Math.Path.{refl, ap}
use Rattle.cuckoo.specs.Graph.{stash, slot_key, slot_next}
use Rattle.cuckoo.proofs.Agree.{stash_agree, slot_key_agree, slot_next_agree}
use Rattle.hashing.specs.Hash.{first_part}
use Rattle.hashing.specs.Slots.{slot_0, slot_1}
use Rattle.hashing.specs.Stations.{hash_01, Moved}
use Rattle.hashing.proofs.Stations.{moved_hash}
use Rattle.layout.specs.Entries.{Entry, keys_of, tier_of}
use Rattle.layout.specs.Layout.{Params, family, header_length, slot_width, slots_of, fits, image, slot_words, stash_entries, slot_words_by, body_by, image_by}
use Rattle.layout.specs.Ends.{Known}
use Rattle.layout.proofs.Ends.{image_known}
use Rattle.layout.proofs.Standing.{image_stash_keys}
use Rattle.layout.specs.Bare.{image_before, stationless, key_slots, key_image, bare_slots, bare, old_0, old_1, S}

module _ (P : Params) (L : List Entry) where
  module _ {a b : ℕ → ℕ} (g : Known P a b (keys_of L)) where
    stationless_known : stationless (image P L) ≡ image_before a b P.slots P.places L
    unfolding image_by
    stationless_known = ap stationless (image_known P L g)

    slots_bare : (v n : ℕ) (rest : List ℕ) → bare_slots n (slot_words P L v n ++ rest) ≡ key_slots a b (S P L) v n
    unfolding bare_slots key_slots slot_words_by
    slots_bare v zero rest = refl
    slots_bare v (suc n) rest = rw (slots_bare (suc v) n rest, slot_key_agree g v, slot_next_agree g v)

    bare_known : fits P (keys_of L) ≡ true → bare (image P L) ≡ key_image a b P.slots P.places (keys_of L)
    unfolding image image_by
    bare_known e = rw (image_stash_keys P L e, slots_bare 0 (P.slots + P.slots), stash_agree g)

  -- with the hashes of P
  pub bare_image : fits P (keys_of L) ≡ true → bare (image P L) ≡ key_image (slot_0 (family P)) (slot_1 (family P)) P.slots P.places (keys_of L)
  bare_image e = bare_known (record { at_0 = λ c i. refl; at_1 = λ c i. refl }) e

  -- "its rack 1 entries moved to 1,280 and its new stretches zero": with the hashes of document 01, at station 0 and at any other
  module _ {old : List ℕ} (m : Moved old P.tabulation) where
    moved_known : Known P (old_0 old P.slots) (old_1 old P.slots) (keys_of L)
    moved_known = record {
      at_0 = λ c i. moved_hash m P.slots P.station 0 c (omega arith);
      at_1 = λ c i. ap (λ (h : ℕ). P.slots + h) (moved_hash m P.slots P.station 1 c (omega arith));
    }

    pub stationless_image : stationless (image P L) ≡ image_before (old_0 old P.slots) (old_1 old P.slots) P.slots P.places L
    stationless_image = stationless_known moved_known

    pub bare_old : fits P (keys_of L) ≡ true → bare (image P L) ≡ key_image (old_0 old P.slots) (old_1 old P.slots) P.slots P.places (keys_of L)
    bare_old e = bare_known moved_known e
