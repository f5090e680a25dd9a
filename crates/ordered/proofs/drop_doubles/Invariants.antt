-- The n keys that were kept, and what `distinct` keeps of the rest, are what it keeps of the whole.
use Rattle.std.proofs.Common.{◌≡◌, ◌≤◌}
use Rattle.ordered.specs.Keys.{distinct}
use Rattle.ordered.specs.Distinct.{keeping}
use Rattle.ordered.proofs.drop_doubles.Given as goal

abbrev pub invariant-loop-i : goal.invariant-loop-i
invariant-loop-i l = (l.n ≤ l.i) × (distinct l.initial.keys ≡ keeping l.keys l.n l.i)
