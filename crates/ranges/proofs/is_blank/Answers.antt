-- `ranges::is_blank` meets its contract: its test is the definition's.
use borrow.Author.Rules.{rules}
use Rattle.hashing.specs.Hash.{blank}
use Rattle.ranges.proofs.is_blank.Goals as goal

pub returns : goal.returns
unfolding blank
returns c = search rules
