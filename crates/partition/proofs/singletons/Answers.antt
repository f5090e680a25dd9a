-- `partition::singletons` meets its contract: it fills the words with n + 1.
use Rattle.partition.specs.Words.{singletons_of}
use Rattle.partition.proofs.singletons.Goals as goal

pub returns : goal.returns
unfolding singletons_of
returns c = c.fill.ensures
