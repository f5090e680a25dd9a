-- `salvage::issue_in_places` meets its contract: what is left to look through are the places that are left.
use Rattle.std.proofs.Common.{◌≡◌}
use Rattle.layout.specs.Layout.{place_entries}
use Rattle.survivors.specs.Looked.{sound_issue}
use Rattle.salvage.specs.Issue.{issue_left}
use Rattle.salvage.proofs.issue_in_places.Given as goal

abbrev pub invariant-loop-i : goal.invariant-loop-i
invariant-loop-i l = sound_issue (place_entries l.count l.places) l.key ≡ issue_left l.places l.count l.key l.i
