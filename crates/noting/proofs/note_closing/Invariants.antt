-- `noting::note_closing` meets its contract: the present rank and those after it are still to come.
use Rattle.std.proofs.Common.{◌+◌, ◌-◌, ◌≤◌}
use Rattle.build.specs.Scratch.{parts}
use Rattle.build.specs.NotesCode.{Closing}
use Rattle.noting.proofs.note_closing.Given as goal

abbrev pub invariant-loop-rank : goal.invariant-loop-rank
invariant-loop-rank l =
    (l.rank ≤ l.n + 1) × Closing l.r l.n (parts l.r l.s l.n l.initial.scratch) (l.rank - 1) l.count (parts l.r l.s l.n l.scratch)
