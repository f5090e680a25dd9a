-- What damage can do: the words of a list were changed in k words, and neither r nor s nor the station among them. A card
-- that stands where nothing was changed survives, if nothing else was written with its first part
-- (`untouched_survives`). At most k survivors are new, at most k first parts are gone, and so at most 2k cards of the
-- old list no longer stand (`few_new`, `few_parts_gone`, `few_gone`); at most k are told as lost (`few_lost`). Assumes
-- nothing.
use Prim.Native.Nat.{ℕ, zero, suc, ◌+◌, ◌*◌, ◌-◌, ◌/◌, ◌≤◌, ◌<◌}
use Rattle.std.specs.Prelude.{◌≡◌, refl, true, false, cond, ◌&&◌, eqb, ltb, length, get_or, drop}
use Rattle.std.proofs.Math.Path.{sym, ap}
use Rattle.std.proofs.Common.{◌∙◌, true≢false, inl, inr, eqb-true, eq-eqb, ne_eqb, lt-ltb, le-ltb, get_or-drop}
use Rattle.std.proofs.Math.Bool.{Bool, not}
use mathlib.Core.List.Memᴰ
use mathlib.Core.List.Memᴰ.{head as here}
use mathlib.Core.List.{List, [], ◌∷◌, ◌++◌, map, map-append, Memᴰ as In}
use mathlib.Core.List.Memᴰ.{tail as there}
use native.Mathlib.Omega.{arith}
use Rattle.std.proofs.lemmas.Bool.{eqb-false, not-true}
use Rattle.std.proofs.Math.ListN.{length-map}
use Rattle.basics.specs.Tests.{test}
use Rattle.basics.specs.Sets.{keep, any, Asc, none, some}
use Rattle.basics.specs.Lists.{upto}
use Rattle.cuckoo.specs.Placement.{Place, slot, place}
use Rattle.hashing.specs.Hash.{Family, first_part}
use Rattle.layout.specs.Entries.{Entry, keys_of, no_entry}
use Rattle.layout.specs.Layout.{Params, ValidSet, family, params_of, family_of, slots_of, places_of, words_length}
use Rattle.layout.specs.Layout.{key_at, tier_at, stash_at, place_at, place_width, place_entries, stash_entries}
use Rattle.layout.specs.Layout.{Spot, slot_spots, place_spots, spots, spot_key}
use Rattle.outcome.specs.Held.{Holds}
use Rattle.survivors.specs.Salvage.{counts, counting, standing, standing_keys, survivors, occupied, lost_in}
use Rattle.survivors.specs.Spots.{slot_spot, place_spot, at_slot, at_place}

-- the words that were changed
abbrev pub changed_words : List ℕ → List ℕ → List ℕ
changed_words ws vs = keep (λ i. not (eqb (get_or ws i 0) (get_or vs i 0))) (upto (length ws))

-- an entry is one of these, as a test; and one of these has its first part
abbrev pub entry_listed : List Entry → Entry → Bool
entry_listed L e = any (λ d. eqb d.key e.key && eqb d.tier e.tier) L

abbrev pub part_listed : List Entry → Entry → Bool
part_listed L e = any (λ d. eqb (first_part d.key) (first_part e.key)) L
