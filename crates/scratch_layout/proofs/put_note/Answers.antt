-- `scratch_layout::put_note` meets its contract: a word of a part, written.
use native.Mathlib.Omega.{arith}
use Rattle.build.proofs.Access.{sets_part, part_set}
use Rattle.scratch_layout.proofs.put_note.Goals as goal

pub returns : goal.returns
returns c =
    part_set (sets_part c.requires.0) (omega (arith, c.sets_start.ensures, c.wide.ensures)) c.requires.1 c.args.note
