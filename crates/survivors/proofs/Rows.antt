-- The laws of what specs/Rows.antt defines.
use Rattle.std.specs.Prelude.{ℕ, ◌≤◌, ◌≡◌, refl, Bool, true, not, ◌&&◌, T, eqb, length}
use Rattle.std.proofs.Common.{sym}
use mathlib.Core.List.{List, [], ◌∷◌, ◌++◌, Memᴰ as In}
use Rattle.basics.specs.Sets.{keep}
use Rattle.refusals.specs.Refusal.{done}
use Rattle.basics.specs.Lists.{same, upto}
use Rattle.ordered.specs.Keys.{put, sorted, distinct}
use Rattle.hashing.specs.Hash.{slots_in_range, station_in_range, hash, blank}
use Rattle.layout.specs.Entries.{Entry}
use Rattle.layout.specs.Layout.{sizes_in_range, params_in_range, scratch_length, shaped, place_entries, slot_spots}
use Rattle.layout.specs.Board.{Row, RowHolds, board_tabulation, board}
use Rattle.layout.proofs.Board.{board_length, board_rows}
use Rattle.layout.specs.Board as Board
use Rattle.outcome.specs.Held.{Holds}
use Rattle.survivors.specs.Salvage.{counting, standing, survivors, lost_in, salvage_refusal}
use Rattle.survivors.specs.Salvage.{salvage_outcome}
use Rattle.survivors.proofs.LawsAfter.{untampered_number, untampered_target, untampered_values}
use Rattle.survivors.specs.Damage.{changed_words, entry_listed, part_listed}
use Rattle.survivors.specs.Rows.{RowSalvages}

-- damaged words with r = 4, s = 1 and station 0: words 2 and 3, a record of three words for each slot of table 0 and of
-- table 1, and the place of the stash
abbrev words_with : List ℕ → List ℕ → List ℕ → List ℕ → List ℕ
words_with counts table_0 table_1 stash = 4 ∷ 1 ∷ (counts ++ (0 ∷ (table_0 ++ (table_1 ++ stash))))

-- an empty slot
abbrev no : List ℕ
no = 0 ∷ 0 ∷ 0 ∷ []

-- keys and tiers of these entries, one after the other
abbrev flat : List Entry → List ℕ
flat [] = []
flat (e ∷ L) = e.key ∷ e.tier ∷ flat L

-- the words, their survivors, how many are lost, and the answer with a target and scratch of the right lengths
record Salvages : Type 0 where
  ws : List ℕ
  left : List ℕ
  lost : ℕ
  answer : ℕ

abbrev holds : Salvages → Bool
holds x =
    same (flat (survivors board_tabulation x.ws)) x.left
    && eqb (lost_in board_tabulation x.ws) x.lost
    && eqb (salvage_refusal board_tabulation x.ws 31 56) x.answer

abbrev all : List Salvages → Bool
all [] = true
all (x ∷ xs) = holds x && all xs

-- K4: 10 sits in 0.1 and 650 in 1.0; each may sit in the other's slot, too.
abbrev k4 : List ℕ
k4 = words_with (2 ∷ 0 ∷ []) (no ++ (10 ∷ 650 ∷ 0 ∷ (no ++ no))) (650 ∷ 10 ∷ 0 ∷ (no ++ (no ++ no))) (0 ∷ 0 ∷ [])

abbrev set_k4 : List Entry
set_k4 = record { key = 10; tier = 0 } ∷ record { key = 650; tier = 0 } ∷ []

-- with 651 in place of 10: one word is changed
abbrev wet_k4 : List ℕ
wet_k4 = words_with (2 ∷ 0 ∷ []) (no ++ (651 ∷ 650 ∷ 0 ∷ (no ++ no))) (650 ∷ 10 ∷ 0 ∷ (no ++ (no ++ no))) (0 ∷ 0 ∷ [])

abbrev rows : List Salvages
rows =
    -- K4 as it is; and with other numbers in words 2 and 3 and as next numbers, which have no say
    record { ws = k4; left = 10 ∷ 0 ∷ 650 ∷ 0 ∷ []; lost = 0; answer = 0 }
    ∷ record {
      ws = words_with (99 ∷ 77 ∷ []) (no ++ (10 ∷ 1 ∷ 0 ∷ (no ++ no))) (650 ∷ 2 ∷ 0 ∷ (no ++ (no ++ no))) (0 ∷ 0 ∷ []);
      left = 10 ∷ 0 ∷ 650 ∷ 0 ∷ [];
      lost = 0;
      answer = 0;
    }
    -- 651 is the first issue of its first part that counts: 650 does not stand, and is not counted as lost
    ∷ record { ws = wet_k4; left = 651 ∷ 0 ∷ []; lost = 0; answer = 0 }
    -- a tier of 8 does not count, so that the later issue stands
    ∷ record {
      ws = words_with (2 ∷ 0 ∷ []) (no ++ (171 ∷ 0 ∷ 8 ∷ (no ++ no))) (no ++ (172 ∷ 0 ∷ 7 ∷ (no ++ no))) (0 ∷ 0 ∷ []);
      left = 172 ∷ 7 ∷ [];
      lost = 1;
      answer = 0;
    }
    -- of three copies the first stands, with its tier; all places of the stash are read, whatever word 3 says
    ∷ record {
      ws = words_with (0 ∷ 0 ∷ []) (no ++ (170 ∷ 0 ∷ 3 ∷ (no ++ no))) (no ++ (170 ∷ 0 ∷ 5 ∷ (no ++ no))) (170 ∷ 6 ∷ []);
      left = 170 ∷ 3 ∷ [];
      lost = 0;
      answer = 0;
    }
    -- a slot that is not its own, and a number below 10: lost; in the stash every place will do
    ∷ record {
      ws = words_with (0 ∷ 0 ∷ []) (9 ∷ 0 ∷ 0 ∷ (no ++ (170 ∷ 0 ∷ 0 ∷ no))) (no ++ (no ++ (no ++ no))) (250 ∷ 4 ∷ []);
      left = 250 ∷ 4 ∷ [];
      lost = 2;
      answer = 0;
    }
    -- something stands there, and nothing counts; nothing stands there at all
    ∷ record {
      ws = words_with (1 ∷ 0 ∷ []) (no ++ (no ++ (170 ∷ 0 ∷ 0 ∷ no))) (no ++ (no ++ (no ++ no))) (0 ∷ 0 ∷ []);
      left = [];
      lost = 1;
      answer = 15;
    }
    ∷ record {
      ws = words_with (5 ∷ 1 ∷ []) (no ++ (no ++ (no ++ no))) (no ++ (no ++ (no ++ no))) (0 ∷ 7 ∷ []);
      left = [];
      lost = 0;
      answer = 0;
    }
    ∷ []

-- The laws. K1 to K12.
salvages : (R : Row) → RowHolds R → RowSalvages R
salvages (Row.shows r s L ws) h = λ target scratch range size room.
    let H : Holds (board r s) L ws =
    record { range = range; is = record { valid = h.valid; fit = h.fit; is = sym h.words_are } } in (
      untampered_number H board_length target scratch size room,
      untampered_target H board_length target scratch size room,
      untampered_values H board_length target scratch size room,
    )
salvages (Row.full r s L) h = tt

pub board_salvages : (R : Row) → In R Board.rows → RowSalvages R
board_salvages R i = salvages R (board_rows R i)

-- damaged words
pub salvage_rows : T (all rows)
unfolding survivors counting standing lost_in salvage_refusal same sorted put distinct blank shaped params_in_range sizes_in_range slots_in_range station_in_range place_entries slot_spots hash board_tabulation
salvage_rows = tt

-- One changed word reaches what Damage says of cards: two no longer stand, one first part is gone, and one card is new.
pub bounds_reached :
    let L = survivors board_tabulation wet_k4 in
    (length (changed_words k4 wet_k4) ≡ 1)
    × (length (keep (λ e. not (entry_listed L e)) set_k4) ≡ 2)
    × (length (keep (λ e. not (part_listed L e)) set_k4) ≡ 1)
    × (length (keep (λ e. not (entry_listed set_k4 e)) L) ≡ 1)
unfolding survivors counting standing sorted put distinct blank place_entries slot_spots hash board_tabulation upto
bounds_reached = (refl, refl, refl, refl)
