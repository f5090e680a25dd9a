-- `candidates::gather_slots` meets its contract: what is gathered and what is still to be gathered are together what is
-- to be gathered from the start.
use Prim.Native.Nat.{◌≤◌, ◌-◌, ◌+◌}
use mathlib.Core.Path.{◌≡◌}
use lib.ListN.{length}
use Rattle.hashing.specs.Hash.{tables}
use Rattle.candidates.specs.Candidates.{slots_sifted}
use Rattle.candidates.proofs.gather_slots.Given as goal

abbrev pub invariant-loop-v : goal.invariant-loop-v
invariant-loop-v l =
    (l.end + (l.v-end - l.v) ≤ length l.scratch)
    × (length l.scratch ≡ length l.initial.scratch)
    × (slots_sifted (tables l.tabulation l.r l.station) l.words l.initial.scratch 1 0 (l.r + l.r)
    ≡ slots_sifted (tables l.tabulation l.r l.station) l.words l.scratch l.end l.v (l.r + l.r))
