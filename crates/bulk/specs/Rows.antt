-- Bulk load at work: every row of document 01's board laid in one call, each card multiplied by ten; and small inputs
-- with what is refused of them, by computation. Assumes nothing.
use Rattle.std.specs.Prelude.{ℕ, ◌≤◌, ◌≡◌, Bool, true, ◌&&◌, T, eqb, length}
use Rattle.std.proofs.Common.{sym, ◌∙◌}
use mathlib.Core.List.{List, [], ◌∷◌, Memᴰ as In}
use Rattle.refusals.specs.Refusal.{done, stash_full, first_refusal}
use Rattle.hashing.specs.Hash.{blank}
use Rattle.layout.specs.Layout.{another_issue, one_issue, params_in_range, words_length, scratch_length}
use Rattle.layout.specs.Board.{Row, RowHolds, rows, board}
use Rattle.outcome.specs.Held.{Holds}
use Rattle.bulk.specs.Bulk.{input_keys, input_tiers, rising, input_refusals, bulk_outcome}
use Rattle.bulk.specs.Input.{input_of}
use Rattle.bulk.specs.Laws.{Layable}

-- A row in one call, over a target of the right length and with scratch that is long enough: its words are laid, or 8.
abbrev pub RowLoads : Row → Type 0
RowLoads (Row.shows r s L ws) = (target scratch : List ℕ) → params_in_range r s 0 ≡ true
    → length target ≡ words_length r s → scratch_length r s ≤ length scratch
    → ((bulk_outcome (board r s) (input_of L) target scratch).answer ≡ done)
    × ((bulk_outcome (board r s) (input_of L) target scratch).words ≡ ws)
RowLoads (Row.full r s L) = (target scratch : List ℕ) → params_in_range r s 0 ≡ true
    → length target ≡ words_length r s → scratch_length r s ≤ length scratch
    → (bulk_outcome (board r s) (input_of L) target scratch).answer ≡ stash_full
