-- No slot before this one is empty, and none holds a larger word.
use Rattle.std.proofs.Common.{ℕ, ◌≤◌, ◌<◌, length, get_or}
use Rattle.probe.proofs.barrier.Given as goal

abbrev pub invariant-loop-slot : goal.invariant-loop-slot
invariant-loop-slot l =
    (l.largest < length l.words) × ((p : ℕ) → p < l.slot → (0 < get_or l.words p 0) × (get_or l.words p 0 ≤ get_or l.words l.largest 0))
