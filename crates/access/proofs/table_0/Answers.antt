-- `access::table_0` meets its contract: from the end of the heading, as many slots as a table has.
use native.Mathlib.Nat.{add-sub_cancel_left}
use borrow.Author.Rules.{rules}
use Rattle.access.proofs.table_0.Goals as goal

pub returns : goal.returns
returns c = record {
  part = rw (c.wide.ensures, add-sub_cancel_left);
  sized = search rules;
}
