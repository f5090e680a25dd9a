-- What is still to be done gives the same list.
use Rattle.std.proofs.Common.{◌≡◌, ◌<◌}
use Rattle.ordered.specs.Shift.{shifted_out}
use Rattle.ordered.proofs.shift_out.Given as goal

abbrev pub invariant-loop-i : goal.invariant-loop-i
invariant-loop-i l = (l.i < l.n) × (shifted_out l.initial.words l.at l.n ≡ shifted_out l.words l.i l.n)
