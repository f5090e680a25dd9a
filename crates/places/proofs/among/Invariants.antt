-- The word is found already, or stands in what is left of the two stretches.
use Rattle.std.proofs.Common.{◌≡◌, ◌||◌, drop}
use Rattle.basics.specs.Sets.{member}
use Rattle.places.proofs.among.Given as goal

abbrev pub invariant-loop-i : goal.invariant-loop-i
invariant-loop-i l =
    (member l.word l.front || member l.word l.back) ≡ (l.found || (member l.word (drop l.i l.front) || member l.word (drop l.i l.back)))
