-- `scratch_set::edge_column::edge_given` meets its contract: slots of tables of r fit into an edge.
use borrow.Author.Rules.{rules}
use Rattle.scratch_set.specs.Edges.{packable}
use Rattle.scratch_set.proofs.edge_column.edge_given.Goals as goal

pub pack-requires : goal.pack-requires
pack-requires c =
    packable c.args.tabulation.now c.args.r c.args.station c.args.key c.requires.0.has_slots c.requires.0.slots_bound
    c.first_slot-first.ensures c.second_slot-second.ensures c.requires.1
