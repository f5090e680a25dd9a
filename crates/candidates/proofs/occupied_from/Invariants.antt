-- `candidates::occupied_from` meets its contract: what is counted, and what is still to be counted.
use Rattle.std.proofs.Common.{◌≡◌, ◌+◌, ◌≤◌}
use Rattle.candidates.specs.Candidates.{occupied_left}
use Rattle.candidates.proofs.occupied_from.Given as goal

abbrev pub invariant-loop-i : goal.invariant-loop-i
invariant-loop-i l =
    (l.total ≤ l.i)
    × (occupied_left l.words l.from l.step l.count 0 ≡ l.total + occupied_left l.words l.from l.step l.count l.i)
