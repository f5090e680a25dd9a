-- Worked rows on a small board, one test that the checker computes: a wrong definition is refused in this very crate.
-- Five slots; at station 0 the keys of first part 1, 2, 3, 4, 5 and 9 start at slots 2, 4, 1, 3, 0 and 3, at station 3
-- at slots 0, 2, 4, 1, 3 and 1.
use Rattle.std.specs.Prelude.{ℕ, zero, suc, ◌-◌, Bool, cond, ◌&&◌, List, [], ◌∷◌, T, eqb, ltb, leb, replicate}
use Rattle.basics.specs.Sets.{below}
use Rattle.basics.specs.Lists.{same}
use Rattle.ordered.specs.Keys.{with_key, above}
use Rattle.hashing.specs.Hash.{tabulation_length, slots_in_range, station_in_range, blank, tables, hash}
use Rattle.probing.specs.Rule.{after, place, placed, table_image, looks, look, table_keys}
use Rattle.stolen.specs.Answers.{stolen_image, stolen_canonical, stolen_lookup_refusal, stolen_lookup_values}
use Rattle.stolen.specs.Answers.{stolen_insert_refusal, stolen_insert_words}

-- table 0's first stretch and its station's stretch count up, all other entries are 0
abbrev board_entry : ℕ → ℕ
board_entry i = cond (ltb i 256) i (cond (leb 1024 i && ltb i 1280) (i - 1024) 0)

abbrev entries : ℕ → ℕ → List ℕ
entries i zero = []
entries i (suc n) = board_entry i ∷ entries (suc i) n

unfoldable pub stolen_board : List ℕ
stolen_board = entries 0 tabulation_length

-- the image of a set, at a station
abbrev shows : ℕ → List ℕ → List ℕ → Bool
shows station S ws = same (stolen_image (tables stolen_board 5 station) S) ws

-- an insert's number, and the words it leaves
abbrev inserts : List ℕ → ℕ → ℕ → ℕ → List ℕ → Bool
inserts ws station key n vs =
    eqb (stolen_insert_refusal stolen_board ws station key) n
    && same (stolen_insert_words stolen_board ws station key) vs

-- a lookup's number and its values
abbrev tells : List ℕ → ℕ → ℕ → ℕ → List ℕ → Bool
tells ws station key n vs =
    eqb (stolen_lookup_refusal stolen_board ws station key) n
    && same (stolen_lookup_values stolen_board ws station key) vs

abbrev empty : List ℕ
empty = 0 ∷ 0 ∷ 0 ∷ 0 ∷ 0 ∷ []

abbrev part : List ℕ
part = 21 ∷ 57 ∷ 0 ∷ 42 ∷ 20 ∷ []

abbrev full : List ℕ
full = 21 ∷ 57 ∷ 10 ∷ 42 ∷ 20 ∷ []

abbrev pub stolen_rows : Bool
stolen_rows =
    -- images: round the end, of two issues, all slots filled, at another station, of no key
    shows 0 (20 ∷ 21 ∷ 42 ∷ 57 ∷ []) part
    && shows 0 (10 ∷ 20 ∷ 21 ∷ 42 ∷ 57 ∷ []) full
    && shows 3 (20 ∷ 21 ∷ 42 ∷ 57 ∷ []) (0 ∷ 42 ∷ 20 ∷ 21 ∷ 57 ∷ [])
    && shows 0 [] empty
    -- inserts: into an empty slot, over a larger key that steps on round the end, another issue, the last slot
    && inserts empty 0 57 0 (57 ∷ 0 ∷ 0 ∷ 0 ∷ 0 ∷ [])
    && inserts (57 ∷ 0 ∷ 0 ∷ 42 ∷ 21 ∷ []) 0 20 0 part
    && inserts part 0 10 0 full
    -- 1 and 2, before all others
    && eqb (stolen_insert_refusal [] part 256 9) 1
    && eqb (stolen_insert_refusal stolen_board [] 0 9) 2
    && eqb (stolen_insert_refusal stolen_board (replicate 1025 0) 0 9) 2
    && inserts part 256 9 2 part
    -- 4, before 5: a key too far on, a number below 10, a key twice, another station's image
    && inserts (0 ∷ 57 ∷ 0 ∷ 0 ∷ 0 ∷ []) 0 9 4 (0 ∷ 57 ∷ 0 ∷ 0 ∷ 0 ∷ [])
    && inserts (9 ∷ 0 ∷ 0 ∷ 0 ∷ 0 ∷ []) 0 10 4 (9 ∷ 0 ∷ 0 ∷ 0 ∷ 0 ∷ [])
    && inserts (57 ∷ 57 ∷ 0 ∷ 0 ∷ 0 ∷ []) 0 10 4 (57 ∷ 57 ∷ 0 ∷ 0 ∷ 0 ∷ [])
    && inserts part 3 10 4 part
    -- 5, 6 and 16: 6 also where all slots are filled
    && inserts full 0 9 5 full
    && inserts full 0 42 6 full
    && inserts full 0 90 16 full
    -- lookups: found after the end; ended by an empty slot, a larger key, a full round; on words that are no image; 1,
    -- 2 and 5
    && tells full 0 57 0 (1 ∷ [])
    && tells part 0 11 0 (0 ∷ [])
    && tells full 0 41 0 (0 ∷ [])
    && tells full 0 99 0 (0 ∷ [])
    && tells (0 ∷ 0 ∷ 0 ∷ 3 ∷ 40 ∷ []) 0 40 0 (1 ∷ [])
    && tells (0 ∷ 57 ∷ 0 ∷ 0 ∷ 0 ∷ []) 0 57 0 (0 ∷ [])
    && eqb (stolen_lookup_refusal [] full 256 9) 1
    && tells full 256 9 2 []
    && tells full 0 9 5 []
