-- `access::key_in` meets its contract.
use borrow.Author.Rules.{rules}
use Rattle.access.proofs.key_in.Goals as goal

pub returns : goal.returns
returns c = rw c.wide.ensures
