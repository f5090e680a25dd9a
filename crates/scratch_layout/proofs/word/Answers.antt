-- `scratch_layout::word` meets its contract: a word of a part.
use native.Mathlib.Omega.{arith}
use Rattle.build.proofs.Access.{next_part, part_word}
use Rattle.scratch_layout.proofs.word.Goals as goal

pub returns : goal.returns
returns c =
    part_word (next_part c.requires.0) (omega (arith, c.next_start.ensures, c.wide.ensures)) (omega (arith, c.requires.0.few))
