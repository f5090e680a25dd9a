-- What is carried from here on, with the budget that is left, leaves what the whole way does.
use Rattle.std.proofs.Common.{◌≡◌, ◌<◌, ◌-◌, length}
use Rattle.probing.specs.Moves.{displace}
use Rattle.probe.proofs.carry.Given as goal

abbrev pub invariant-loop : goal.invariant-loop
invariant-loop l =
    let m = length l.initial.words in
    (l.slot < m)
    × (displace m m l.initial.words l.key l.start ≡ displace m (m - l.counter) l.words l.carried l.slot)
