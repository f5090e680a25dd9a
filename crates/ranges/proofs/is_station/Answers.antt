-- `ranges::is_station` meets its contract: its test is the definition's.
use borrow.Author.Rules.{rules}
use Rattle.hashing.specs.Hash.{station_in_range}
use Rattle.ranges.proofs.is_station.Goals as goal

pub returns : goal.returns
unfolding station_in_range
returns c = search rules
