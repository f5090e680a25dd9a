-- `linking::link_each` meets its contract: the ranks below the present one are linked.
use Rattle.std.proofs.Common.{◌≡◌, ◌+◌, ◌-◌, ◌≤◌, length}
use Rattle.build.specs.Scratch.{parts}
use Rattle.build.specs.LinkCode.{ranks_linked}
use Rattle.linking.proofs.link_each.Given as goal

abbrev pub invariant-loop-rank : goal.invariant-loop-rank
invariant-loop-rank l =
    (l.rank ≤ l.n + 1)
    × (length l.scratch ≡ length l.initial.scratch)
    × (parts l.r l.s l.n l.scratch ≡ ranks_linked l.r (l.rank - 1) (parts l.r l.s l.n l.initial.scratch))
