-- What is gathered, and what is still to be gathered, are together what is to be gathered from the start; the words that are left lie inside, and scratch
-- has room for them.
use Rattle.std.proofs.Common.{◌≡◌, ◌≤◌, ◌+◌, ◌*◌, ◌-◌, length}
use Rattle.collect.specs.Collect.{gathering}
use Rattle.collect.proofs.gather.Given as goal

abbrev pub invariant-loop : goal.invariant-loop
invariant-loop l =
    let left = l.count - l.counter in
    (l.at + l.step * left ≤ length l.words)
    × (l.end + left ≤ length l.initial.scratch)
    × (gathering l.words l.step l.initial.scratch l.n l.from l.count ≡ gathering l.words l.step l.scratch l.end l.at left)
