-- `sale::are_steps` meets its contract: before turn i the steps before i were in their range, so that those from i on
-- decide.
use Rattle.std.proofs.Common.{◌≡◌, drop}
use Rattle.outcome.specs.Sale.{all_in_range}
use Rattle.sale.proofs.are_steps.Given as goal

abbrev pub invariant-loop-i : goal.invariant-loop-i
invariant-loop-i l = all_in_range l.steps ≡ all_in_range (drop l.i l.steps)
