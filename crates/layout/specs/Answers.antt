-- What lookup, the stash view and the laying of fresh words answer and leave, for every content and length of the lent words (document 01, "What a
-- call gives back"). These definitions are the promises.
use Rattle.std.specs.Prelude.{ℕ, ◌*◌, ◌-◌, Bool, not, cond, ◌&&◌, eqb, ltb, length, take, drop, replicate, Option, Some, None, Result, Ok, Err}
use mathlib.Core.List.{List, [], ◌∷◌, ◌++◌, Memᴰ as In}
use Rattle.basics.specs.Sets.{member}
use Rattle.refusals.specs.Refusal.{done, wrong_tabulation, wrong_shape, not_canonical, blank_key, first_refusal}
use Rattle.refusals.specs.declared.Refusal.{Refusal}
use Rattle.hashing.specs.Hash.{tabulation_length, blank}
use Rattle.layout.specs.Entries.{Entry, keys_of, tier_of}
use Rattle.layout.specs.Layout.{header_words, header_length, shaped, params_in_range, slots_of, places_of, stash_count, place_width, stash_at, words_length, looked_at}
use Rattle.layout.specs.declared.Header.{Header}

-- lookup

-- "Look-up answers the tier or that the card isn't listed": what was found of a key, told as values: 1 and its tier, or 0; and the values of a
-- lookup's answer
abbrev pub found : Option ℕ → List ℕ
found (Some tier) = 1 ∷ tier ∷ []
found None = 0 ∷ []

abbrev pub values : Result (Option ℕ) Refusal → List ℕ
values (Ok tier) = found tier
values (Err refusal) = []

abbrev pub lookup_refusals : List ℕ → List ℕ → ℕ → List (ℕ × Bool)
lookup_refusals tabulation ws key =
    (wrong_tabulation, not (eqb (length tabulation) tabulation_length))
    ∷ (wrong_shape, not (shaped ws))
    ∷ (blank_key, blank key)
    ∷ []

unfoldable pub lookup_refusal : List ℕ → List ℕ → ℕ → ℕ
lookup_refusal tabulation ws key = first_refusal (lookup_refusals tabulation ws key)

-- what a lookup among these entries says: 1 and the tier of the first that has the key, or 0 if none has it
abbrev pub looked_up : List Entry → ℕ → List ℕ
looked_up L key = cond (member key (keys_of L)) (1 ∷ tier_of L key ∷ []) (0 ∷ [])

-- "the number stands as a card number in its rack 0 place, its rack 1 place or one of the s drawer" places
unfoldable pub lookup_values : List ℕ → List ℕ → ℕ → List ℕ
lookup_values tabulation ws key =
    cond (eqb (lookup_refusal tabulation ws key) done) (looked_up (looked_at tabulation ws key) key) []

-- the stash view

-- "The drawer view gives only 2, or 4 when word 3 exceeds s."
abbrev pub view_refusals : List ℕ → List (ℕ × Bool)
view_refusals ws = (wrong_shape, not (shaped ws)) ∷ (not_canonical, ltb (places_of ws) (stash_count ws)) ∷ []

unfoldable pub view_refusal : List ℕ → ℕ
view_refusal ws = first_refusal (view_refusals ws)

-- "the filled stretch of the drawer as part of the lent list", "both words of each filled place"; "Refused, the stretch is empty"
unfoldable pub view_of : List ℕ → List ℕ
view_of ws = cond (eqb (view_refusal ws) done) (take (place_width * stash_count ws) (drop (stash_at (slots_of ws)) ws)) []

-- fresh words

-- "Laying fresh takes r and s and gives only 2"; the station number "is given when a list is laid"
abbrev pub fresh_refusals : ℕ → ℕ → ℕ → ℕ → List (ℕ × Bool)
fresh_refusals len r s station = (wrong_shape, not (params_in_range r s station && eqb len (words_length r s))) ∷ []

unfoldable pub fresh_refusal : ℕ → ℕ → ℕ → ℕ → ℕ
fresh_refusal len r s station = first_refusal (fresh_refusals len r s station)

-- the heading of a dictionary that has no keys
abbrev pub fresh_header : ℕ → ℕ → ℕ → Header
fresh_header r s station = record { slots = r; places = s; keys = 0; stashed = 0; station = station }

-- "accepted it leaves r, s and zeros", the station number "as word 4"; a refusal leaves the words
unfoldable pub fresh_words : List ℕ → ℕ → ℕ → ℕ → List ℕ
fresh_words ws r s station =
    cond (eqb (fresh_refusal (length ws) r s station) done)
    (header_words (fresh_header r s station) ++ replicate (length ws - header_length) 0) ws
