-- `stolen_table::is_canonical` meets its contract. The invariant: the walls of the turns so far are kept, and what is
-- left of the round decides.
use Rattle.std.proofs.Common.{◌≡◌, ◌-◌, length}
use Rattle.hashing.specs.Slots.{slot_0}
use Rattle.probing.specs.Moves.{all_settled}
use Rattle.probing.specs.Walls.{Walled}
use Rattle.stolen.specs.Answers.{stolen_family, stolen_canonical}
use Rattle.stolen_table.proofs.is_canonical.Given as goal

abbrev pub invariant-loop-turn : goal.invariant-loop-turn
invariant-loop-turn l =
    let F = stolen_family l.tabulation l.words l.station in
    (length l.walls ≡ 1024)
    × Walled (length l.words) l.words l.base l.walls l.turn
    × (stolen_canonical F l.words
    ≡ all_settled (length l.words) l.words l.base (slot_0 F) 10 (length l.words - l.turn) l.turn)
