-- More laws, which rest on those of Standing.antt.
use Rattle.std.specs.Prelude.{ℕ, zero, suc, ◌+◌, ◌*◌, ◌-◌, ◌≤◌, ◌<◌, ◌≡◌, refl, true, false, ◌↔◌, length, get_or, take, drop, replicate}
use Rattle.std.proofs.Common.{sym, ◌∙◌, arith, get_or-drop}
use Rattle.std.proofs.Math.Path.{ap}
use Rattle.std.proofs.Math.Bool.{not}
use Rattle.std.proofs.Math.Logic.{inl, inr}
use mathlib.Core.List.Memᴰ
use mathlib.Core.List.Memᴰ.{head as here}
use mathlib.Core.List.Memᴰ.{tail as there}
use mathlib.Core.List.{List, [], ◌∷◌, ◌++◌, map, map-append, Memᴰ as In}
use borrow.Author.Tests.{ne_eqb, not-true}
use borrow.Rule.Slice.PartMut.{mid_of}
use Rattle.basics.proofs.Tests.{eq?}
use Rattle.basics.specs.Sets.{keep, Asc}
use Rattle.basics.proofs.Sets.{asc_ext, keep_in, keep_test, in_keep}
use Rattle.basics.proofs.Lists.{get_or_in}
use Rattle.cuckoo.specs.Graph.{seated, stash, occupant, next, slot_key, slot_next}
use Rattle.cuckoo.proofs.Settling.{seated_sub, seated_asc, seated_stops}
use Rattle.cuckoo.proofs.Next.{next_in}
use Rattle.cuckoo.proofs.Seating.{look, occupant_from}
use Rattle.cuckoo.proofs.Filled.{seated_or_stash, stash_sub}
use Rattle.ordered.proofs.Sorting.{in_at}
use Rattle.ordered.proofs.Distinct.{distinct_sorted_asc, distinct_sorted_in, in_distinct_sorted}
use Rattle.hashing.specs.Hash.{blank}
use Rattle.hashing.proofs.Issues.{not_blank_iff}
use Rattle.hashing.specs.Slots.{slot_0, slot_1}
use Rattle.hashing.proofs.Slots.{slot_0_lt, slot_1_lt}
use Rattle.layout.specs.Entries.{Entry, keys_of, tier_of, tiered, no_entry}
use Rattle.layout.proofs.Entries.{keys_tiered, tiered_agree, tier_absent, tier_all, tiered_self, tiered_in, keys_none, none_in, keys_append}
use Rattle.layout.specs.Layout.{Params, family, family_of, ValidKeys, place_width, key_at, stash_at, place_at, slots_of, places_of, place_words, image_by}
use Rattle.layout.specs.Layout.{stash_of, fits, stash_words, image, place_entries, stash_entries, slot_spots, place_spots, spot_key, key_words, keys_in, slot_entry, looked_at, tier_in, set_in}
use Rattle.layout.proofs.Image.{fits_le, image_slots, image_places, image_key, image_next, image_tier, image_stash}
use Rattle.layout.specs.Standing.{KeyWord, Seen, S, at_slot, in_stash, table_0, table_1, stashed}
use Rattle.layout.proofs.Standing.{not_blank, in_key_words, key_word_in, keys_in_asc, keys_in_key, key_keys_in, looked_key_word, image_key_in, image_in_looked, tier_in_image}

module _ (P : Params) (L : List Entry) (e : fits P (keys_of L) ≡ true) where
  module _ (valid : ValidKeys (S P L e)) where
    -- So a set is read back from its image: its keys,
    pub keys_in_image : 0 < P.slots → keys_in (image P L) ≡ (S P L e)
    keys_in_image some =
        let ws = image P L in
        asc_ext (keys_in ws) (S P L e) (keys_in_asc ws) valid.asc
        (λ c i. let k = keys_in_key ws i in (image_key_in P L e valid) (in_key_words ws k.0) (not_blank c k.1))
        (λ c i. key_keys_in ws (key_word_in ws (looked_key_word P.tabulation ws (rw (image_slots P L) some) c ((image_in_looked P L e valid) some i))) (valid.none_blank c i))

    -- and so the set.
    pub set_in_image : 0 < P.slots → set_in P.tabulation (image P L) ≡ L
    set_in_image some =
        rw (keys_in_image some) (tiered_agree (S P L e) (λ c i. (tier_in_image P L e valid) some i) ∙ tiered_self L valid.asc)
