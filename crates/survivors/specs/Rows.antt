-- Salvage at work on document 01's board, each card multiplied by ten: every row gives itself and 0; damaged words with
-- what survives, how many are lost and the answer, by computation; one word reaches what Damage says of cards. Assumes
-- nothing.
use Rattle.std.specs.Prelude.{ℕ, ◌≤◌, ◌≡◌, refl, Bool, true, not, ◌&&◌, T, eqb, length}
use Rattle.std.proofs.Common.{sym}
use mathlib.Core.List.{List, [], ◌∷◌, ◌++◌, Memᴰ as In}
use Rattle.basics.specs.Sets.{keep}
use Rattle.refusals.specs.Refusal.{done}
use Rattle.basics.specs.Lists.{same, upto}
use Rattle.ordered.specs.Keys.{put, sorted, distinct}
use Rattle.hashing.specs.Hash.{slots_in_range, station_in_range, hash, blank}
use Rattle.layout.specs.Entries.{Entry}
use Rattle.layout.specs.Layout.{sizes_in_range, params_in_range, scratch_length, shaped, place_entries, slot_spots}
use Rattle.layout.specs.Board.{Row, RowHolds, board_tabulation, board}
use Rattle.layout.specs.Board as Board
use Rattle.outcome.specs.Held.{Holds}
use Rattle.survivors.specs.Salvage.{counting, standing, survivors, lost_in, salvage_refusal}
use Rattle.survivors.specs.Salvage.{salvage_outcome}
use Rattle.survivors.specs.Damage.{changed_words, entry_listed, part_listed}

-- A row is salvaged to a target of its length, with scratch that is long enough: its words, and 0. (A set that does not
-- fit has no words.)
abbrev pub RowSalvages : Row → Type 0
RowSalvages (Row.shows r s L ws) = (target scratch : List ℕ) → params_in_range r s 0 ≡ true
    → length target ≡ length ws → scratch_length r s ≤ length scratch
    → let o = salvage_outcome board_tabulation ws target scratch in
    (o.number ≡ done) × (o.target ≡ ws) × (o.values ≡ 0 ∷ [])
RowSalvages (Row.full r s L) = Unit {0}
