-- What the calls on a list of stolen keys ('stolen-card list') answer and leave, for every tabulation, words, station
-- and key (document 02, "Nine"). The contracts are equalities with these definitions. They and probing's Rule.antt are
-- what a reader must believe.
use Rattle.std.specs.Prelude.{ℕ, ◌≡◌, Bool, true, false, not, cond, ◌&&◌, eqb, length, replicate, Result, Ok, Err}
use mathlib.Core.List.{List, [], ◌∷◌, ◌++◌, Memᴰ as In}
use Rattle.std.proofs.Common.{eq-eqb, ne_eqb}
use Rattle.basics.specs.Sets.{member, any}
use Rattle.basics.specs.Lists.{same}
use Rattle.ordered.specs.Keys.{with_key}
use Rattle.refusals.specs.Refusal.{done, wrong_tabulation, wrong_shape, not_canonical, blank_key, key_present}
use Rattle.refusals.specs.Refusal.{table_full}
use Rattle.refusals.specs.Refusal.{first_refusal}
use Rattle.hashing.specs.Hash.{tabulation_length, slots_in_range, station_in_range, blank, Family, tables}
use Rattle.hashing.specs.Slots.{slot_0}
use Rattle.probing.specs.Rule.{table_image, look, table_keys}
use Rattle.refusals.specs.declared.Refusal.{Refusal}

-- "one rack of 1 to 1,024 one-word pockets": the words are the slots, as many as they are long. "A card starts at its
-- rack 0 place under a given station number."
abbrev pub stolen_family : List ℕ → List ℕ → ℕ → Family
stolen_family tabulation ws station = tables tabulation (length ws) station

-- the image of a set in a list of this family
abbrev pub stolen_image : Family → List ℕ → List ℕ
stolen_image F S = table_image (slot_0 F) F.slots S

-- init

-- Document 02 has no call that lays a list. Ours writes zeros, the image of the empty set, under every book and
-- station; 2 for the length is its one refusal (DECISIONS 2.78).
unfoldable pub stolen_init_refusal : List ℕ → ℕ
stolen_init_refusal ws = first_refusal ((wrong_shape, not (slots_in_range (length ws))) ∷ [])

unfoldable pub stolen_init_words : List ℕ → List ℕ
stolen_init_words ws = cond (eqb (stolen_init_refusal ws) done) (replicate (length ws) 0) ws

-- 1, and "2 (length or station)"
abbrev pub stolen_shape_refusals : List ℕ → List ℕ → ℕ → List (ℕ × Bool)
stolen_shape_refusals tabulation ws station =
    (wrong_tabulation, not (eqb (length tabulation) tabulation_length))
    ∷ (wrong_shape, not (slots_in_range (length ws) && station_in_range station))
    ∷ []

-- lookup

-- the values of a lookup's answer: 1 for yes, 0 for no
abbrev pub values : Result Bool Refusal → List ℕ
values (Ok true) = 1 ∷ []
values (Ok false) = 0 ∷ []
values (Err refusal) = []

-- "Look-up checks 1, 2 (length or station) and 5"
abbrev pub stolen_lookup_refusals : List ℕ → List ℕ → ℕ → ℕ → List (ℕ × Bool)
stolen_lookup_refusals tabulation ws station key =
    stolen_shape_refusals tabulation ws station ++ ((blank_key, blank key) ∷ [])

unfoldable pub stolen_lookup_refusal : List ℕ → List ℕ → ℕ → ℕ → ℕ
stolen_lookup_refusal tabulation ws station key = first_refusal (stolen_lookup_refusals tabulation ws station key)

-- yes or no, as values
abbrev pub says : Bool → List ℕ
says t = cond t (1 ∷ []) (0 ∷ [])

-- "On any words a look-up steps from the card's start to the card (yes), or to an empty pocket, a larger card or a full
-- round (no)"
unfoldable pub stolen_lookup_values : List ℕ → List ℕ → ℕ → ℕ → List ℕ
stolen_lookup_values tabulation ws station key =
    cond (eqb (stolen_lookup_refusal tabulation ws station key) done)
    (says (look (slot_0 (stolen_family tabulation ws station)) (length ws) ws key))
    []

-- insert

-- The words are the image of a set of keys: of those that stand in them, none of which is blank. (The law
-- `stolen_canonical_iff` of Canonical: of some set.)
unfoldable pub stolen_canonical : Family → List ℕ → Bool
stolen_canonical F ws = not (any blank (table_keys ws)) && same ws (stolen_image F (table_keys ws))

-- "adding .. checks 1, 2, 4, 5 and 6", "16 (all pockets filled) after 6"; the set is that of the keys that stand in the
-- words. "Issues count as separate cards here": a key is listed where it stands itself.
abbrev pub stolen_insert_refusals : List ℕ → List ℕ → ℕ → ℕ → List (ℕ × Bool)
stolen_insert_refusals tabulation ws station key =
    stolen_shape_refusals tabulation ws station
    ++ ((not_canonical, not (stolen_canonical (stolen_family tabulation ws station) ws))
    ∷ (blank_key, blank key)
    ∷ (key_present, member key (table_keys ws))
    ∷ (table_full, not (member 0 ws))
    ∷ [])

unfoldable pub stolen_insert_refusal : List ℕ → List ℕ → ℕ → ℕ → ℕ
stolen_insert_refusal tabulation ws station key = first_refusal (stolen_insert_refusals tabulation ws station key)

-- "An accepted adding leaves the image of the old set with the card", "a refusal changes no pocket"
unfoldable pub stolen_insert_words : List ℕ → List ℕ → ℕ → ℕ → List ℕ
stolen_insert_words tabulation ws station key =
    cond (eqb (stolen_insert_refusal tabulation ws station key) done)
    (stolen_image (stolen_family tabulation ws station) (with_key key (table_keys ws)))
    ws
