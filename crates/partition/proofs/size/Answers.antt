-- `partition::size` meets its contract: a representative's word is at least n.
use borrow.Author.Rules.{rules}
use Rattle.partition.specs.Words.{size_of}
use Rattle.partition.proofs.size.Goals as goal

pub returns : goal.returns
unfolding size_of
returns c = search rules
