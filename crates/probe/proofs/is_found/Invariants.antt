-- A look-up from here on, with the budget that is left, says what the whole one does.
use Rattle.std.proofs.Common.{◌≡◌, ◌<◌, ◌-◌, length}
use Rattle.probing.specs.Rule.{looks}
use Rattle.probe.proofs.is_found.Given as goal

abbrev pub invariant-loop : goal.invariant-loop
invariant-loop l =
    let m = length l.words in
    (l.slot < m) × (looks m m l.words l.key l.start ≡ looks m (m - l.counter) l.words l.key l.slot)
