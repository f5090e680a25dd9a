-- `linking::label_ranks` meets its contract: the labels of the present rank and of those after it are still to come.
use Rattle.std.proofs.Common.{◌≡◌, ◌+◌, ◌-◌, ◌≤◌, length}
use Rattle.build.specs.Scratch.{parts}
use Rattle.build.specs.LinkCode.{Marks, labelled_parts, labels_from}
use Rattle.linking.proofs.label_ranks.Given as goal

abbrev pub invariant-loop-rank : goal.invariant-loop-rank
invariant-loop-rank l =
    (l.rank ≤ l.n + 1)
    × (length l.scratch ≡ length l.initial.scratch)
    × ((parts l.r l.s l.n l.scratch).graph ≡ (parts l.r l.s l.n l.initial.scratch).graph)
    × Marks l.r l.n (l.rank - 1) (parts l.r l.s l.n l.scratch).next
    × (labelled_parts l.r l.n (parts l.r l.s l.n l.initial.scratch) ≡ labels_from l.r l.n (l.rank - 1) (parts l.r l.s l.n l.scratch))
