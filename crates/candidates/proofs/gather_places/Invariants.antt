-- `candidates::gather_places` meets its contract: as `gather_slots`, over the places that are left.
use Prim.Native.Nat.{◌≤◌, ◌-◌, ◌+◌}
use mathlib.Core.Path.{◌≡◌}
use lib.ListN.{length}
use Rattle.candidates.specs.Candidates.{places_sifted}
use Rattle.candidates.proofs.gather_places.Given as goal

abbrev pub invariant-loop-i : goal.invariant-loop-i
invariant-loop-i l =
    (l.end + (l.count - l.i) ≤ length l.scratch)
    × (length l.scratch ≡ length l.initial.scratch)
    × (places_sifted l.places l.initial.scratch l.n l.count 0 ≡ places_sifted l.places l.scratch l.end l.count l.i)
