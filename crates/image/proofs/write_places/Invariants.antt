-- What is written, and the places of the ranks that are left, are together the places.
use Rattle.std.proofs.Common.{◌≡◌, ◌+◌, ◌*◌, drop}
use Rattle.layout.specs.Layout.{place_width}
use Rattle.image.specs.Ranks.{ranked_places_put}
use Rattle.image.proofs.write_places.Given as goal

abbrev pub invariant-loop-i : goal.invariant-loop-i
invariant-loop-i l =
    ranked_places_put l.initial.words l.start l.r l.keys l.graph l.stash
    ≡ ranked_places_put l.words (l.start + place_width * l.i) l.r l.keys l.graph (drop l.i l.stash)
