-- `noting::note_smallest` meets its contract: the ranks above the present one are noted.
use Rattle.build.specs.Scratch.{parts}
use Rattle.build.specs.NotesCode.{Lowing}
use Rattle.noting.proofs.note_smallest.Given as goal

abbrev pub invariant-loop-rank : goal.invariant-loop-rank
invariant-loop-rank l = Lowing l.r l.n (parts l.r l.s l.n l.initial.scratch) l.rank (parts l.r l.s l.n l.scratch)
