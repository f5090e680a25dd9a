-- How a dictionary lies in words: the one home of the layout (document 01, "The memory" and "The canonical image"). A heading, then the slots of table 0 and
-- table 1, then the stash. This file is what a reader must believe; Image.antt has the laws.
use Rattle.std.specs.Prelude.{ℕ, zero, suc, ◌+◌, ◌*◌, ◌-◌, ◌≤◌, ◌≡◌, Bool, false, not, ◌&&◌, eqb, leb, length, get_or, drop, replicate}
use mathlib.Core.List.{List, [], ◌∷◌, ◌++◌, map, Memᴰ as In}
use Rattle.basics.specs.Sets.{keep, any, Asc}
use Rattle.cuckoo.specs.Graph.{stash, slot_key, slot_next}
use Rattle.cuckoo.specs.Placement.{Place, slot, place}
use Rattle.ordered.specs.Keys.{sorted, distinct}
use Rattle.hashing.specs.Hash.{Family, first_part, blank, slots_in_range, station_in_range, tables}
use Rattle.hashing.specs.Slots.{slot_0, slot_1}
use Rattle.layout.specs.Entries.{Entry, max_tier, keys_of, tier_of, tiered}
use Rattle.layout.specs.declared.Header.{Header}

-- what an image depends on besides its set: the tabulation, r, s and the station number
pub record Params : Type 0 where
  pub tabulation : List ℕ
  pub slots : ℕ
  pub places : ℕ
  pub station : ℕ

abbrev pub family : Params → Family
family P = tables P.tabulation P.slots P.station

-- A set of keys: strictly ascending, and no key of it is blank.
pub record ValidKeys (S : List ℕ) : Type 0 where
  pub asc : Asc S
  pub none_blank : (c : ℕ) → In c S → blank c ≡ false

-- "another issue is listed": S has the first part of this key, with another digit
unfoldable pub another_issue : ℕ → List ℕ → Bool
another_issue key S = any (λ c. eqb (first_part c) (first_part key) && not (eqb c key)) S

-- "a set has at most one issue of each such first part",
abbrev pub OneIssue : List ℕ → Type 0
OneIssue S = (c d : ℕ) → In c S → In d S → first_part c ≡ first_part d → c ≡ d

-- and as a test: no key of S has another issue in S
unfoldable pub one_issue : List ℕ → Bool
one_issue S = not (any (λ c. another_issue c S) S)

-- A set: keys, one issue of each first part, each with a tier of 0 to 7.
pub record ValidSet (L : List Entry) : Type 0 where
  pub keys : ValidKeys (keys_of L)
  pub issues : OneIssue (keys_of L)
  pub tiers : (e : Entry) → In e L → e.tier ≤ max_tier

-- the heading

-- Words 0 to 4: r, s, the number of keys, the number of stashed keys, and the station number, which "stands as word 4"; as they are read,
abbrev pub header_of : List ℕ → Header
header_of ws = record { slots = get_or ws 0 0; places = get_or ws 1 0; keys = get_or ws 2 0; stashed = get_or ws 3 0; station = get_or ws 4 0 }

-- and as they are written.
abbrev pub header_words : Header → List ℕ
header_words h = h.slots ∷ h.places ∷ h.keys ∷ h.stashed ∷ h.station ∷ []

abbrev pub header_length : ℕ
header_length = 5

-- a heading with another number of keys, and with another number of stashed ones
abbrev pub with_keys : Header → ℕ → Header
with_keys h n =
    record { slots = h.slots; places = h.places; keys = n; stashed = h.stashed; station = h.station }

abbrev pub with_stashed : Header → ℕ → Header
with_stashed h n =
    record { slots = h.slots; places = h.places; keys = h.keys; stashed = n; station = h.station }

abbrev pub slots_of : List ℕ → ℕ
slots_of ws = (header_of ws).slots

abbrev pub places_of : List ℕ → ℕ
places_of ws = (header_of ws).places

abbrev pub key_count : List ℕ → ℕ
key_count ws = (header_of ws).keys

abbrev pub stash_count : List ℕ → ℕ
stash_count ws = (header_of ws).stashed

abbrev pub station_of : List ℕ → ℕ
station_of ws = (header_of ws).station

-- slots and stash places

-- "A pocket becomes card, next, tier"
abbrev pub slot_record : ℕ → ℕ → ℕ → List ℕ
slot_record key next tier = key ∷ next ∷ tier ∷ []

abbrev pub slot_width : ℕ
slot_width = 3

-- "a drawer place becomes card, tier"
abbrev pub place_record : ℕ → ℕ → List ℕ
place_record key tier = key ∷ tier ∷ []

abbrev pub place_width : ℕ
place_width = 2

-- s, the number of stash places, is at most 64
abbrev pub max_places : ℕ
max_places = 64

-- where slot v begins and its tier stands, where the stash begins, and where its place i begins
abbrev pub key_at : ℕ → ℕ
key_at v = header_length + slot_width * v

abbrev pub tier_at : ℕ → ℕ
tier_at v = key_at v + 2

abbrev pub stash_at : ℕ → ℕ
stash_at r = key_at (r + r)

abbrev pub place_at : ℕ → ℕ → ℕ
place_at r i = stash_at r + place_width * i

-- "the length becomes 4 + 6r + 2s"; with the station number "the length grows by one"
abbrev pub words_length : ℕ → ℕ → ℕ
words_length r s = place_at r s

-- "and the work sheet at least 12r + 8s"
abbrev pub scratch_length : ℕ → ℕ → ℕ
scratch_length r s = 12 * r + 8 * s

-- the parameters that a heading tells, with a tabulation
abbrev pub params_with : List ℕ → Header → Params
params_with tabulation h = record { tabulation = tabulation; slots = h.slots; places = h.places; station = h.station }

-- and those that given words are read with
abbrev pub params_of : List ℕ → List ℕ → Params
params_of tabulation ws = params_with tabulation (header_of ws)

-- and the family that hashes their keys, at their own station
abbrev pub family_of : List ℕ → List ℕ → Family
family_of tabulation ws = family (params_of tabulation ws)

-- r and s in their ranges
unfoldable pub sizes_in_range : ℕ → ℕ → Bool
sizes_in_range r s = slots_in_range r && leb s max_places

-- r, s and the station number in their ranges
unfoldable pub params_in_range : ℕ → ℕ → ℕ → Bool
params_in_range r s station = sizes_in_range r s && station_in_range station

-- The shape of a dictionary; its opposite is "list shorter than" 5 "words, r or s outside its range, or length not" 5 + 6r + 2s, or "a station above
-- 255, given or in word 4".
unfoldable pub shaped : List ℕ → Bool
shaped ws =
    leb header_length (length ws) && params_in_range (slots_of ws) (places_of ws) (station_of ws)
    && eqb (length ws) (words_length (slots_of ws) (places_of ws))

-- the image of a set

-- the places of keys that have these tiers
abbrev pub place_words : (ℕ → ℕ) → List ℕ → List ℕ
place_words t [] = []
place_words t (c ∷ R) = place_record c (t c) ++ place_words t R

-- It is made over two end functions, a key's slot in table 0 and in table 1, and the tier of each key.
module _ (a b : ℕ → ℕ) where
  -- the set fits: its stash has at most s keys
  unfoldable pub fits_by : ℕ → List ℕ → Bool
  fits_by s S = leb (length (stash a b S)) s

  module _ (t : ℕ → ℕ) where
    -- n slots from v on
    unfoldable pub slot_words_by : List ℕ → ℕ → ℕ → List ℕ
    slot_words_by S v zero = []
    slot_words_by S v (suc n) =
        slot_record (slot_key a b S v) (slot_next a b S v) (t (slot_key a b S v)) ++ slot_words_by S (suc v) n

    -- "The drawer is ascending, then zeros."
    abbrev pub stash_words_by : ℕ → List ℕ → List ℕ
    stash_words_by s S = place_words t (stash a b S) ++ replicate (place_width * (s - length (stash a b S))) 0

    -- the tables and the stash
    abbrev pub body_by : ℕ → ℕ → List ℕ → List ℕ
    body_by r s S = slot_words_by S 0 (r + r) ++ stash_words_by s S

    -- the heading before them
    unfoldable pub image_by : ℕ → ℕ → ℕ → List ℕ → List ℕ
    image_by r s station S =
        header_words (record { slots = r; places = s; keys = length S; stashed = length (stash a b S); station = station }) ++ body_by r s S

-- With a tabulation the end functions are the hashes.
abbrev pub stash_of : Params → List ℕ → List ℕ
stash_of P S = stash (slot_0 (family P)) (slot_1 (family P)) S

unfoldable pub fits : Params → List ℕ → Bool
fits P S = fits_by (slot_0 (family P)) (slot_1 (family P)) P.places S

-- The canonical image of a set: "set" means cards with their tiers.
unfoldable pub image : Params → List Entry → List ℕ
image P L = image_by (slot_0 (family P)) (slot_1 (family P)) (tier_of L) P.slots P.places P.station (keys_of L)

-- what stands in given words

-- slot v
abbrev pub slot_entry : List ℕ → ℕ → Entry
slot_entry ws v = record { key = get_or ws (key_at v) 0; tier = get_or ws (tier_at v) 0 }

-- n places, of words that begin with one
unfoldable pub place_entries : ℕ → List ℕ → List Entry
place_entries zero ws = []
place_entries (suc n) ws = record { key = get_or ws 0 0; tier = get_or ws 1 0 } ∷ place_entries n (drop place_width ws)

-- the places of the stash
abbrev pub stash_entries : List ℕ → List Entry
stash_entries ws = place_entries (places_of ws) (drop (stash_at (slots_of ws)) ws)

-- A spot: a slot or a place of the stash, and what stands there.
pub record Spot : Type 0 where
  pub at : Place
  pub entry : Entry

-- n slots from v on
unfoldable pub slot_spots : List ℕ → ℕ → ℕ → List Spot
slot_spots ws v zero = []
slot_spots ws v (suc n) = record { at = slot v; entry = slot_entry ws v } ∷ slot_spots ws (suc v) n

-- places from i on, with these entries
abbrev pub place_spots : ℕ → List Entry → List Spot
place_spots i [] = []
place_spots i (e ∷ L) = record { at = place i; entry = e } ∷ place_spots (suc i) L

-- all spots of given words, in word order: the slots of table 0, those of table 1, the places of the stash
abbrev pub spots : List ℕ → List Spot
spots ws = slot_spots ws 0 (slots_of ws + slots_of ws) ++ place_spots 0 (stash_entries ws)

abbrev pub spot_key : Spot → ℕ
spot_key x = x.entry.key

-- every word at which a key can stand
abbrev pub key_words : List ℕ → List ℕ
key_words ws = map spot_key (spots ws)

-- Those that are not blank, ascending, each once. A word from 1 to 9 is no key, and no slot with it is empty either: it makes the words the image of no set
-- (`below_ten` of Canonical).
unfoldable pub keys_in : List ℕ → List ℕ
keys_in ws = distinct (sorted (keep (λ w. not (blank w)) (key_words ws)))

-- where a key is looked for, in this order: its slot in table 0, its slot in table 1, the places of the stash
abbrev pub looked_at : List ℕ → List ℕ → ℕ → List Entry
looked_at tabulation ws key =
    let F = family_of tabulation ws in
    slot_entry ws (slot_0 F key) ∷ slot_entry ws (slot_1 F key) ∷ stash_entries ws

-- "should a tampered list show the card more than once, the first in word order counts"
unfoldable pub tier_in : List ℕ → List ℕ → ℕ → ℕ
tier_in tabulation ws key = tier_of (looked_at tabulation ws key) key

-- the set: the keys that stand in the words, with the tiers at which they are found
abbrev pub set_in : List ℕ → List ℕ → List Entry
set_in tabulation ws = tiered (tier_in tabulation ws) (keys_in ws)

-- The laws speak of the parts of an image by its parameters.
abbrev pub slot_words : Params → List Entry → ℕ → ℕ → List ℕ
slot_words P L v n = slot_words_by (slot_0 (family P)) (slot_1 (family P)) (tier_of L) (keys_of L) v n

abbrev pub stash_words : Params → List Entry → List ℕ
stash_words P L = stash_words_by (slot_0 (family P)) (slot_1 (family P)) (tier_of L) P.places (keys_of L)
