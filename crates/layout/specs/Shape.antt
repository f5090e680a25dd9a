-- What the shape of words means, as facts about numbers: for callers, which use these laws and not the text of `shaped`.
use Rattle.std.specs.Prelude.{ℕ, ◌≤◌, ◌<◌, ◌≡◌, refl, true, not, ◌&&◌, List, [], leb, ltb, length}
use Rattle.std.proofs.Common.{ap, ◌∙◌, arith, leb-true, eqb-true, le-leb, eq-eqb, ltb-false}
use Rattle.std.proofs.lemmas.Bool.{not-false}
use Rattle.refusals.specs.Refusal.{none, and}
use Rattle.hashing.specs.Hash.{Family, tables, slots_in_range, station_in_range, max_slots, max_station}
use Rattle.layout.specs.Layout.{family_of, header_length, slots_of, places_of, stash_count, station_of, max_places, sizes_in_range, params_in_range, shaped, words_length}
use Rattle.layout.specs.Answers.{view_refusals, view_refusal}
use Rattle.layout.specs.declared.Header.{Header}

-- r and s are in their ranges
pub record Sized (r s : ℕ) : Type 0 where
  pub has_slots : 0 < r
  pub slots_bound : r ≤ max_slots
  pub places_bound : s ≤ max_places

-- the words have the length that their heading tells, and its sizes and its station number are in their ranges
pub record Shaped (ws : List ℕ) : Type 0 where
  pub sizes : Sized (slots_of ws) (places_of ws)
  pub station : station_of ws ≤ max_station
  pub size : length ws ≡ words_length (slots_of ws) (places_of ws)

-- Equal headings have equal words: what a heading that was read off words (`header_of`) tells of them, one by one.
pub record SameHeader (h g : Header) : Type 0 where
  pub slots : h.slots ≡ g.slots
  pub places : h.places ≡ g.places
  pub keys : h.keys ≡ g.keys
  pub stashed : h.stashed ≡ g.stashed
  pub station : h.station ≡ g.station

-- a view that is not refused
pub record Viewed (ws : List ℕ) : Type 0 where
  pub shape : Shaped ws
  pub filled : stash_count ws ≤ places_of ws
