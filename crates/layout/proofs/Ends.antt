-- The laws of what specs/Ends.antt defines.
use Prim.Native.Nat.{ℕ, zero, suc, ◌+◌}
use Rattle.std.specs.Prelude.{◌≡◌, List}
use Rattle.std.proofs.Math.Path.{refl}
use Rattle.cuckoo.specs.Agree.{Agree}
use Rattle.cuckoo.proofs.Agree.{stash_agree, slot_key_agree, slot_next_agree}
use Rattle.hashing.specs.Slots.{slot_0, slot_1}
use Rattle.layout.specs.Entries.{Entry, keys_of, tier_of}
use Rattle.layout.specs.Layout.{Params, family, fits_by, slot_words_by, image_by, fits, slot_words, image}
use Rattle.layout.specs.Ends.{Known}

-- whether a set of keys fits,
pub fits_known : (P : Params) {a b : ℕ → ℕ} {S : List ℕ} → Known P a b S → fits P S ≡ fits_by a b P.places S
unfolding fits fits_by
fits_known P g = rw (stash_agree g)

-- and each word of the image of a set, are those over a and b
module _ (P : Params) {a b : ℕ → ℕ} (L : List Entry) (g : Known P a b (keys_of L)) where
  slot_words_known : (v n : ℕ) → slot_words P L v n ≡ slot_words_by a b (tier_of L) (keys_of L) v n
  unfolding slot_words_by
  slot_words_known v zero = refl
  slot_words_known v (suc n) = rw (slot_key_agree g v, slot_next_agree g v, slot_words_known (suc v) n)

  pub image_known : image P L ≡ image_by a b (tier_of L) P.slots P.places P.station (keys_of L)
  unfolding image image_by
  image_known = rw (stash_agree g, slot_words_known 0 (P.slots + P.slots))
