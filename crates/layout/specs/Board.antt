-- Document 01's "Cards on a test board": K1 to K12 and the console listing as ONE table, every word of every image written out, proved as a
-- whole to follow from the image rule; "with every card multiplied by ten" (document 02, "Six"). The hashes come from the test board's 2,560 numbers through the definition of crate tabulation: one
-- test, which the checker computes, sees that each key's two hashes are its plain ends and that the image over these has the words; the laws
-- of Ends turn it into statements about `image` and `fits`. Assumes nothing.
use Rattle.std.specs.Prelude.{ℕ, zero, suc, ◌+◌, ◌*◌, ◌-◌, ◌/◌, ◌%◌, ◌<◌, ◌≤◌, ◌≡◌, refl, Bool, true, false, not, cond, ◌&&◌, T, eqb, ltb, leb, length, get_or}
use Rattle.std.proofs.Common.{sym, ◌∙◌, ap, arith, eqb-true, leb-true, le-leb, lt-ltb, le-ltb, inl, inr}
use mathlib.Core.List.Memᴰ.{head as here}
use mathlib.Core.List.Memᴰ.{tail as there}
use mathlib.Core.List.{List, [], ◌∷◌, Memᴰ as In}
use Rattle.std.proofs.lemmas.Bool.{not-true, lt-leb}
use Rattle.basics.specs.Sets.{without}
use Rattle.basics.specs.Lists.{same, rises}
use Rattle.cuckoo.specs.Graph.{label, joined, component, is_on_cycle, cyclic, spare, settle, seated, stash, root, sits, occupant, next, slot_key, slot_next}
use Rattle.hashing.specs.Hash.{Family, first_part, entry, hash, blank, tabulation_length}
use Rattle.hashing.specs.Stations.{Moved}
use Rattle.hashing.specs.Slots.{slot_0, slot_1}
use Rattle.layout.specs.Entries.{Entry, max_tier, keys_of, tier_of, tiered}
use Rattle.layout.specs.Layout.{Params, family, ValidSet, another_issue, one_issue, fits, image, fits_by, slot_words_by, image_by}
use Rattle.layout.specs.Ends.{Known}

-- the test board's tabulation

-- "entry v is v and entry 1,024 + v is v/16 rounded down, for v from 0 to 255; all others 0": table 1's entries from `start` on
abbrev pub board_entry : ℕ → ℕ → ℕ
board_entry start i = cond (ltb i 256) i (cond (leb start i && ltb i (start + 256)) ((i - start) / 16) 0)

-- n entries from entry i on
abbrev pub entries : (ℕ → ℕ) → ℕ → ℕ → List ℕ
entries f i zero = []
entries f i (suc n) = f i ∷ entries f (suc i) n

-- with stations: "its rack 1 entries moved to 1,280 and its new stretches zero"
unfoldable pub board_tabulation : List ℕ
board_tabulation = entries (board_entry 1280) 0 tabulation_length

-- as document 01 has it
unfoldable pub old_board : List ℕ
old_board = entries (board_entry 1024) 0 2048

-- an image on the test board: r slots to a table, s places in the stash; "The test board runs with station 0"
abbrev pub board : ℕ → ℕ → Params
board r s = record { tabulation = board_tabulation; slots = r; places = s; station = 0 }

-- "the places are card modulo 4 and card/16 rounded down, modulo 4", and so for each r, of a card's first part
abbrev pub plain_0 : ℕ → ℕ → ℕ
plain_0 r c = first_part c % r

abbrev pub plain_1 : ℕ → ℕ → ℕ
plain_1 r c = r + first_part c / 16 % r

-- rows

-- the image of a set has these words, or the set does not fit ("refused 8")
pub data Row : Type 0 where
  shows : (r s : ℕ) → List Entry → List ℕ → Row
  full : (r s : ℕ) → List Entry → Row

-- "Document 01's board has tier 0 throughout."
abbrev pub plain : List ℕ → List Entry
plain S = tiered (λ c. 0) S

pub record Shown (r s : ℕ) (L : List Entry) (words : List ℕ) : Type 0 where
  pub valid : ValidSet L
  pub fit : fits (board r s) (keys_of L) ≡ true
  pub words_are : image (board r s) L ≡ words
  pub known : Known (board r s) (plain_0 r) (plain_1 r) (keys_of L)

pub record Full (r s : ℕ) (L : List Entry) : Type 0 where
  pub valid : ValidSet L
  pub unfit : fits (board r s) (keys_of L) ≡ false

abbrev pub RowHolds : Row → Type 0
RowHolds (shows r s L words) = Shown r s L words
RowHolds (full r s L) = Full r s L

-- In a row of words: r, s, keys, keys in the stash, station; then key, next, tier of the slots of table 0; of table 1; then key, tier of the stash. "0.1" is
-- table 0, slot 1.
abbrev pub rows : List Row
rows =
    -- K1 {}: all slots empty
    shows 4 1 (plain []) (4 ∷ 1 ∷ 0 ∷ 0 ∷ 0 ∷ 0 ∷ 0 ∷ 0 ∷ 0 ∷ 0 ∷ 0 ∷ 0 ∷ 0 ∷ 0 ∷ 0 ∷ 0 ∷ 0 ∷ 0 ∷ 0 ∷ 0 ∷ 0 ∷ 0 ∷ 0 ∷ 0 ∷ 0 ∷ 0 ∷ 0 ∷ 0 ∷ 0 ∷ 0 ∷ 0 ∷ [])
    -- K2 {170}: 0.1 and 1.1 hold 170, next 170
    ∷ shows 4 1 (plain (170 ∷ [])) (4 ∷ 1 ∷ 1 ∷ 0 ∷ 0 ∷ 0 ∷ 0 ∷ 0 ∷ 170 ∷ 170 ∷ 0 ∷ 0 ∷ 0 ∷ 0 ∷ 0 ∷ 0 ∷ 0 ∷ 0 ∷ 0 ∷ 0 ∷ 170 ∷ 170 ∷ 0 ∷ 0 ∷ 0 ∷ 0 ∷ 0 ∷ 0 ∷ 0 ∷ 0 ∷ 0 ∷ [])
    -- K3 {10, 170}: 0.1 and 1.0 hold 10; 1.1 holds 170
    ∷ shows 4 1 (plain (10 ∷ 170 ∷ [])) (4 ∷ 1 ∷ 2 ∷ 0 ∷ 0 ∷ 0 ∷ 0 ∷ 0 ∷ 10 ∷ 170 ∷ 0 ∷ 0 ∷ 0 ∷ 0 ∷ 0 ∷ 0 ∷ 0 ∷ 10 ∷ 170 ∷ 0 ∷ 170 ∷ 10 ∷ 0 ∷ 0 ∷ 0 ∷ 0 ∷ 0 ∷ 0 ∷ 0 ∷ 0 ∷ 0 ∷ [])
    -- K4 {10, 650}: 0.1 holds 10, 1.0 holds 650
    ∷ shows 4 1 (plain (10 ∷ 650 ∷ [])) (4 ∷ 1 ∷ 2 ∷ 0 ∷ 0 ∷ 0 ∷ 0 ∷ 0 ∷ 10 ∷ 650 ∷ 0 ∷ 0 ∷ 0 ∷ 0 ∷ 0 ∷ 0 ∷ 0 ∷ 650 ∷ 10 ∷ 0 ∷ 0 ∷ 0 ∷ 0 ∷ 0 ∷ 0 ∷ 0 ∷ 0 ∷ 0 ∷ 0 ∷ 0 ∷ 0 ∷ [])
    -- K5 {10, 650, 1290}: as K4, stash 1290
    ∷ shows 4 1 (plain (10 ∷ 650 ∷ 1290 ∷ [])) (4 ∷ 1 ∷ 3 ∷ 1 ∷ 0 ∷ 0 ∷ 0 ∷ 0 ∷ 10 ∷ 650 ∷ 0 ∷ 0 ∷ 0 ∷ 0 ∷ 0 ∷ 0 ∷ 0 ∷ 650 ∷ 10 ∷ 0 ∷ 0 ∷ 0 ∷ 0 ∷ 0 ∷ 0 ∷ 0 ∷ 0 ∷ 0 ∷ 0 ∷ 1290 ∷ 0 ∷ [])
    -- K5 with the tiers 3, 0 and 7
    ∷ shows 4 1 (record { key = 10; tier = 3 } ∷ record { key = 650; tier = 0 } ∷ record { key = 1290; tier = 7 } ∷ [])
    (4 ∷ 1 ∷ 3 ∷ 1 ∷ 0 ∷ 0 ∷ 0 ∷ 0 ∷ 10 ∷ 650 ∷ 3 ∷ 0 ∷ 0 ∷ 0 ∷ 0 ∷ 0 ∷ 0 ∷ 650 ∷ 10 ∷ 0 ∷ 0 ∷ 0 ∷ 0 ∷ 0 ∷ 0 ∷ 0 ∷ 0 ∷ 0 ∷ 0 ∷ 1290 ∷ 7 ∷ [])
    -- K3 with the tiers 2 and 5: the smallest key of a tree has its tier in both slots
    ∷ shows 4 1 (record { key = 10; tier = 2 } ∷ record { key = 170; tier = 5 } ∷ [])
    (4 ∷ 1 ∷ 2 ∷ 0 ∷ 0 ∷ 0 ∷ 0 ∷ 0 ∷ 10 ∷ 170 ∷ 2 ∷ 0 ∷ 0 ∷ 0 ∷ 0 ∷ 0 ∷ 0 ∷ 10 ∷ 170 ∷ 2 ∷ 170 ∷ 10 ∷ 5 ∷ 0 ∷ 0 ∷ 0 ∷ 0 ∷ 0 ∷ 0 ∷ 0 ∷ 0 ∷ [])
    -- K6, K5 plus 1930: refused 8
    ∷ full 4 1 (plain (10 ∷ 650 ∷ 1290 ∷ 1930 ∷ []))
    -- K6 with s = 2: accepted, stash 1290, 1930
    ∷ shows 4 2 (plain (10 ∷ 650 ∷ 1290 ∷ 1930 ∷ [])) (4 ∷ 2 ∷ 4 ∷ 2 ∷ 0 ∷ 0 ∷ 0 ∷ 0 ∷ 10 ∷ 650 ∷ 0 ∷ 0 ∷ 0 ∷ 0 ∷ 0 ∷ 0 ∷ 0 ∷ 650 ∷ 10 ∷ 0 ∷ 0 ∷ 0 ∷ 0 ∷ 0 ∷ 0 ∷ 0 ∷ 0 ∷ 0 ∷ 0 ∷ 1290 ∷ 0 ∷ 1930 ∷ 0 ∷ [])
    -- K7, K5 less 650: 0.1 holds 10, 1.0 holds 1290, stash empty
    ∷ shows 4 1 (plain (10 ∷ 1290 ∷ [])) (4 ∷ 1 ∷ 2 ∷ 0 ∷ 0 ∷ 0 ∷ 0 ∷ 0 ∷ 10 ∷ 1290 ∷ 0 ∷ 0 ∷ 0 ∷ 0 ∷ 0 ∷ 0 ∷ 0 ∷ 1290 ∷ 10 ∷ 0 ∷ 0 ∷ 0 ∷ 0 ∷ 0 ∷ 0 ∷ 0 ∷ 0 ∷ 0 ∷ 0 ∷ 0 ∷ 0 ∷ [])
    -- K8 {170, 650, 1290}: 0.1 holds 650, 1.0 holds 1290, 1.1 holds 170; next 170 to 650 to 1290 to 170
    ∷ shows 4 1 (plain (170 ∷ 650 ∷ 1290 ∷ [])) (4 ∷ 1 ∷ 3 ∷ 0 ∷ 0 ∷ 0 ∷ 0 ∷ 0 ∷ 650 ∷ 1290 ∷ 0 ∷ 0 ∷ 0 ∷ 0 ∷ 0 ∷ 0 ∷ 0 ∷ 1290 ∷ 170 ∷ 0 ∷ 170 ∷ 650 ∷ 0 ∷ 0 ∷ 0 ∷ 0 ∷ 0 ∷ 0 ∷ 0 ∷ 0 ∷ 0 ∷ [])
    -- K9 {10, 330, 340, 650, 980}: 0.1 holds 10, 1.0 holds 650, 1.2 holds 330, 0.2 holds 340, stash 980
    ∷ shows 4 1 (plain (10 ∷ 330 ∷ 340 ∷ 650 ∷ 980 ∷ [])) (4 ∷ 1 ∷ 5 ∷ 1 ∷ 0 ∷ 0 ∷ 0 ∷ 0 ∷ 10 ∷ 330 ∷ 0 ∷ 340 ∷ 650 ∷ 0 ∷ 0 ∷ 0 ∷ 0 ∷ 650 ∷ 10 ∷ 0 ∷ 0 ∷ 0 ∷ 0 ∷ 330 ∷ 340 ∷ 0 ∷ 0 ∷ 0 ∷ 0 ∷ 980 ∷ 0 ∷ [])
    -- K10, K9 less 330: 1.2 holds 980, the stash is empty
    ∷ shows 4 1 (plain (10 ∷ 340 ∷ 650 ∷ 980 ∷ [])) (4 ∷ 1 ∷ 4 ∷ 0 ∷ 0 ∷ 0 ∷ 0 ∷ 0 ∷ 10 ∷ 650 ∷ 0 ∷ 340 ∷ 980 ∷ 0 ∷ 0 ∷ 0 ∷ 0 ∷ 650 ∷ 10 ∷ 0 ∷ 0 ∷ 0 ∷ 0 ∷ 980 ∷ 340 ∷ 0 ∷ 0 ∷ 0 ∷ 0 ∷ 0 ∷ 0 ∷ [])
    -- K11 {10, 340, 650, 980, 2250}: 2250 in 1.2, stash 980
    ∷ shows 4 1 (plain (10 ∷ 340 ∷ 650 ∷ 980 ∷ 2250 ∷ [])) (4 ∷ 1 ∷ 5 ∷ 1 ∷ 0 ∷ 0 ∷ 0 ∷ 0 ∷ 10 ∷ 340 ∷ 0 ∷ 340 ∷ 650 ∷ 0 ∷ 0 ∷ 0 ∷ 0 ∷ 650 ∷ 2250 ∷ 0 ∷ 0 ∷ 0 ∷ 0 ∷ 2250 ∷ 10 ∷ 0 ∷ 0 ∷ 0 ∷ 0 ∷ 980 ∷ 0 ∷ [])
    -- K12, r = 1, s = 0: two keys fit, the smaller in table 0 (for every two keys: Smallest.antt)
    ∷ shows 1 0 (plain (70 ∷ 2000 ∷ [])) (1 ∷ 0 ∷ 2 ∷ 0 ∷ 0 ∷ 70 ∷ 2000 ∷ 0 ∷ 2000 ∷ 70 ∷ 0 ∷ [])
    -- K12: a third is refused 8
    ∷ full 1 0 (plain (70 ∷ 2000 ∷ 2010 ∷ []))
    -- the console listing, r = 2: 0.1 holds 10, next 330; 1.0 holds 330, next 10; stash 650
    ∷ shows 2 1 (plain (10 ∷ 330 ∷ 650 ∷ [])) (2 ∷ 1 ∷ 3 ∷ 1 ∷ 0 ∷ 0 ∷ 0 ∷ 0 ∷ 10 ∷ 330 ∷ 0 ∷ 330 ∷ 10 ∷ 0 ∷ 0 ∷ 0 ∷ 0 ∷ 650 ∷ 0 ∷ [])
    -- the console listing: 970 on top is refused 8
    ∷ full 2 1 (plain (10 ∷ 330 ∷ 650 ∷ 970 ∷ []))
    -- K5 with other issues, {13, 657, 1299}: the same seats
    ∷ shows 4 1 (plain (13 ∷ 657 ∷ 1299 ∷ [])) (4 ∷ 1 ∷ 3 ∷ 1 ∷ 0 ∷ 0 ∷ 0 ∷ 0 ∷ 13 ∷ 657 ∷ 0 ∷ 0 ∷ 0 ∷ 0 ∷ 0 ∷ 0 ∷ 0 ∷ 657 ∷ 13 ∷ 0 ∷ 0 ∷ 0 ∷ 0 ∷ 0 ∷ 0 ∷ 0 ∷ 0 ∷ 0 ∷ 0 ∷ 1299 ∷ 0 ∷ [])
    -- "but for the edge 4,294,967,295": 0.1 and 1.1 hold it, its first part being 429,496,729
    ∷ shows 4 1 (plain (4294967295 ∷ [])) (4 ∷ 1 ∷ 1 ∷ 0 ∷ 0 ∷ 0 ∷ 0 ∷ 0 ∷ 4294967295 ∷ 4294967295 ∷ 0 ∷ 0 ∷ 0 ∷ 0 ∷ 0 ∷ 0 ∷ 0 ∷ 0 ∷ 0 ∷ 0 ∷ 4294967295 ∷ 4294967295 ∷ 0 ∷ 0 ∷ 0 ∷ 0 ∷ 0 ∷ 0 ∷ 0 ∷ 0 ∷ 0 ∷ [])
    ∷ []
