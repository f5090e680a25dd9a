-- The laws of what specs/Rows.antt defines.
use Rattle.std.specs.Prelude.{ℕ, ◌≤◌, ◌≡◌, Bool, true, ◌&&◌, T, eqb, length}
use Rattle.std.proofs.Common.{sym, ◌∙◌}
use mathlib.Core.List.{List, [], ◌∷◌, Memᴰ as In}
use Rattle.refusals.specs.Refusal.{done, stash_full, first_refusal}
use Rattle.hashing.specs.Hash.{blank}
use Rattle.layout.specs.Layout.{another_issue, one_issue, params_in_range, words_length, scratch_length}
use Rattle.layout.specs.Board.{Row, RowHolds, rows, board}
use Rattle.layout.proofs.Board.{board_length, board_rows}
use Rattle.outcome.specs.Held.{Holds}
use Rattle.bulk.specs.Bulk.{input_keys, input_tiers, rising, input_refusals, bulk_outcome}
use Rattle.bulk.specs.Input.{input_of}
use Rattle.bulk.proofs.Input.{input_of_keys, input_of_sound}
use Rattle.bulk.specs.Laws.{Layable}
use Rattle.bulk.proofs.Laws.{bulk_answer, bulk_fits, bulk_holds}
use Rattle.bulk.specs.Rows.{RowLoads}

-- the answers to the input alone: 5, 9, 14, 13, each over the whole input before the next
abbrev refused : List ℕ → ℕ
refused input = first_refusal (input_refusals input)

abbrev answers : List (List ℕ × ℕ) → Bool
answers [] = true
answers (x ∷ xs) = eqb (refused x.0) x.1 && answers xs

-- The laws. K1 to K12, each in one call.
loads : (R : Row) → RowHolds R → RowLoads R
loads (Row.shows r s L ws) h = λ target scratch range size room.
    let H : Holds (board r s) L ws =
    record { range = range; is = record { valid = h.valid; fit = h.fit; is = sym h.words_are } } in
    bulk_holds H board_length target scratch size room
loads (Row.full r s L) h = λ target scratch range size room.
    let Y : Layable (board r s) (length target) (length scratch) =
    record { full_length = board_length; range = range; size = size; room = room } in
    bulk_answer (board r s) (input_of L) target scratch
    ∙ bulk_fits (board r s) (input_of L) (length target) (length scratch) Y (input_of_sound L h.valid)
    ∙ (rw (input_of_keys L, h.unfit))

pub board_loads : (R : Row) → In R rows → RowLoads R
board_loads R i = loads R (board_rows R i)

-- What is refused of an input.
refusal_rows : T (answers (
    -- nothing, and one card
    ([], 0) ∷ (10 ∷ 7 ∷ [], 0)
    -- a lone last word is a card: blank, or one word too many; it is no tier
    ∷ (9 ∷ [], 5) ∷ (10 ∷ [], 14) ∷ (10 ∷ 0 ∷ 20 ∷ [], 14)
    -- a blank card anywhere is 5, before any tier above 7,
    ∷ (10 ∷ 8 ∷ 9 ∷ [], 5) ∷ (20 ∷ 8 ∷ 0 ∷ 0 ∷ [], 5)
    -- which is 9, before an odd number of words and before cards that do not rise,
    ∷ (10 ∷ 8 ∷ 20 ∷ [], 9) ∷ (20 ∷ 0 ∷ 10 ∷ 8 ∷ [], 9)
    -- which are 14, equal neighbours, too, before two issues of one card,
    ∷ (10 ∷ 0 ∷ 10 ∷ 0 ∷ [], 14) ∷ (20 ∷ 0 ∷ 10 ∷ 0 ∷ [], 14) ∷ (11 ∷ 0 ∷ 10 ∷ 0 ∷ [], 14)
    ∷ (10 ∷ 0 ∷ 11 ∷ 0 ∷ 5000 ∷ 0 ∷ 40 ∷ 0 ∷ [], 14)
    -- which are 13, whatever their tiers
    ∷ (10 ∷ 3 ∷ 19 ∷ 3 ∷ [], 13) ∷ (10 ∷ 0 ∷ 20 ∷ 1 ∷ 29 ∷ 2 ∷ [], 13) ∷ (10 ∷ 0 ∷ 20 ∷ 0 ∷ [], 0) ∷ []))
unfolding input_keys input_tiers rising blank one_issue another_issue
refusal_rows = tt
