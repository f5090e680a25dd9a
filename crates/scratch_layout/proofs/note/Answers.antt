-- `scratch_layout::note` meets its contract: a word of a part.
use native.Mathlib.Omega.{arith}
use Rattle.build.proofs.Access.{sets_part, part_word}
use Rattle.scratch_layout.proofs.note.Goals as goal

pub returns : goal.returns
returns c =
    part_word (sets_part c.requires.0) (omega (arith, c.sets_start.ensures, c.wide.ensures)) c.requires.1
