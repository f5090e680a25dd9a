-- `access::slot_tier` meets its contract.
use borrow.Author.Rules.{rules}
use Rattle.access.proofs.slot_tier.Goals as goal

pub returns : goal.returns
returns c = rw c.wide.ensures
