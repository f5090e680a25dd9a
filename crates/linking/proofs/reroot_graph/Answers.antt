-- `linking::reroot_graph` meets its contract: the graph is lent whole, and comes back re-rooted.
use Rattle.forest.specs.Graph.{rerooted}
use Rattle.build.proofs.Access.{graph_part, part_lent, part_renewed}
use Rattle.linking.proofs.reroot_graph.Goals as goal

pub reroot-requires : goal.reroot-requires
reroot-requires c =
    let e = part_lent (graph_part c.requires.0) c.graph_range.ensures.0 c.graph_range.ensures.1 in
    (rw e c.requires.1, c.requires.2, rw e c.requires.3)

pub returns : goal.returns
returns c =
    part_renewed (graph_part c.requires.0) c.graph_range.ensures.0 c.graph_range.ensures.1
    (λ graph. rerooted c.args.r graph c.args.carry c.args.slot) c.reroot.ensures c.reroot.auto.graph
