-- `seating::finish::finish_ranks` meets its contract: the ranks below the present one are finished.
use Rattle.std.proofs.Common.{◌≡◌, ◌+◌, ◌-◌, ◌≤◌}
use Rattle.build.specs.Scratch.{parts}
use Rattle.build.specs.FinishCode.{ranks_finished}
use Rattle.seating.proofs.finish.finish_ranks.Given as goal

abbrev pub invariant-loop-rank : goal.invariant-loop-rank
invariant-loop-rank l = (l.rank ≤ l.n + 1) × (parts l.r l.s l.n l.scratch ≡ ranks_finished l.r (l.rank - 1) (parts l.r l.s l.n l.initial.scratch))
