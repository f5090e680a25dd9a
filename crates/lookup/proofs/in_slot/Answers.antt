-- `lookup::in_slot` meets its contract.
use borrow.Author.Rules.{rules}
use Rattle.lookup.proofs.in_slot.Goals as goal

pub returns : goal.returns
returns c = rw c.key_in.ensures
