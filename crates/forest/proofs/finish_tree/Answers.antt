-- `forest::finish_tree` meets its contract, which is that of the one call.
use Rattle.forest.specs.Finish.{finish_tree}
use Rattle.forest.proofs.finish_tree.Goals as goal

pub returns : goal.returns
unfolding finish_tree
returns c =
    cc (c.reroot.ensures, c.first_slot-first.ensures.0)
