-- `scratch_layout::put_stashed` meets its contract: a word of a part, written.
use native.Mathlib.Omega.{arith}
use Rattle.build.proofs.Access.{stash_part, part_set}
use Rattle.scratch_layout.proofs.put_stashed.Goals as goal

pub returns : goal.returns
returns c =
    part_set (stash_part c.requires.0) (omega (arith, c.stashed_start.ensures, c.wide.ensures)) c.requires.1 c.args.rank
