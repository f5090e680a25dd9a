-- The whole build over the parts of scratch: the passes one after the other, what has to hold before each, and that they leave what Build.antt says.
-- Assumes nothing.
use Rattle.std.specs.Prelude.{ℕ}
use Rattle.build.specs.Notes.{Noting}
use Rattle.build.specs.Scratch.{Parts}
use Rattle.build.specs.LinkCode.{linked_parts, labelled_parts}
use Rattle.build.specs.NotesCode.{cleared_parts, smallest_parts, with_noting, ranks_noted}
use Rattle.build.specs.FinishCode.{ranks_finished}
use Rattle.build.specs.NextCode.{chained_parts}

module _ (r s n : ℕ) (P : Parts) where
  -- after steps 1 and 2, and after step 3
  abbrev pub labelled_from : Parts
  labelled_from = labelled_parts r n (linked_parts r n P)

  abbrev pub smallest_from : Parts
  smallest_from = smallest_parts r n (cleared_parts r s labelled_from)

  -- what step 4 finds, and the parts after it
  abbrev pub whole_noting : Noting
  whole_noting = ranks_noted r n 0 0 smallest_from

  abbrev pub noted_from : Parts
  noted_from = with_noting smallest_from whole_noting

  -- after steps 5 and 6
  abbrev pub seated_from : Parts
  seated_from = chained_parts r n (ranks_finished r n noted_from)
