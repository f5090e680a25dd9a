-- `scratch_set::tier_at` meets its contract: the edge of that place is read.
use borrow.Author.Rules.{rules}
use Rattle.scratch_set.proofs.tier_at.Goals as goal

pub returns : goal.returns
returns c = rw c.edges_start-start.ensures at c.tier.ensures
