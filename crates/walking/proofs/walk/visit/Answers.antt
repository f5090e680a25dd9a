-- `walk::visit` meets its contract: the two words that it writes.
use native.Mathlib.Omega.{arith}
use lib.ListN.{length-set}
use Rattle.walking.proofs.WalkLaws.{noted_fits}
use Rattle.walking.proofs.walk.visit.Goals as goal

pub bounds-scratch-wide-2 : goal.bounds-scratch-wide-2
bounds-scratch-wide-2 c = let n = c.requires.1 in simp length-set (omega (arith, c.wide-3.ensures, c.wide-2.ensures, noted_fits n, n.room.long))
