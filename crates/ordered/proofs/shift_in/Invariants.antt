-- What is still to be done gives the same list.
use Rattle.std.proofs.Common.{◌≡◌, ◌≤◌}
use Rattle.ordered.specs.Shift.{shifted_in}
use Rattle.ordered.proofs.shift_in.Given as goal

abbrev pub invariant-loop-i : goal.invariant-loop-i
invariant-loop-i l =
    (l.i ≤ l.n) × (shifted_in l.initial.words l.at l.n l.initial.carry ≡ shifted_in l.words l.i l.n l.carry)
