-- `partition::representative` meets its contract: what is left of the walk leads where the whole does.
use Rattle.std.proofs.Common.{◌≡◌, ◌-◌, ◌<◌, length}
use Rattle.partition.specs.Words.{max_steps, walk}
use Rattle.partition.proofs.representative.Given as goal

abbrev pub invariant-loop : goal.invariant-loop
invariant-loop l = (l.v < length l.words) × (walk l.words max_steps l.slot ≡ walk l.words (max_steps - l.counter) l.v)
