-- `scratch_layout::put_word` meets its contract: a word of a part, written.
use native.Mathlib.Omega.{arith}
use Rattle.build.proofs.Access.{next_part, part_set}
use Rattle.scratch_layout.proofs.put_word.Goals as goal

pub returns : goal.returns
returns c =
    part_set (next_part c.requires.0) (omega (arith, c.next_start.ensures, c.wide.ensures)) (omega (arith, c.requires.0.few)) c.args.word
