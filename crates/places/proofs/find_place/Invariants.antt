-- The place of the key, if it has one, is among those from i on.
use Rattle.std.proofs.Common.{◌≡◌}
use Rattle.layout.specs.Layout.{place_entries}
use Rattle.layout.specs.Answers.{looked_up}
use Rattle.places.specs.Search.{from_place}
use Rattle.places.proofs.find_place.Given as goal

abbrev pub invariant-loop-i : goal.invariant-loop-i
invariant-loop-i l = looked_up (place_entries l.count l.places) l.key ≡ looked_up (from_place l.places l.count l.key l.i) l.key
