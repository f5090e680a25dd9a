-- `seating::finish::finish_tree` meets its contract: the graph is lent whole, and comes back finished.
use Rattle.forest.specs.Graph.{finished_tree}
use Rattle.build.proofs.Access.{graph_part, part_lent, part_renewed}
use Rattle.seating.proofs.finish.finish_tree.Goals as goal

pub finish_tree-requires : goal.finish_tree-requires
finish_tree-requires c =
    let e = part_lent (graph_part c.requires.0) c.graph_range.ensures.0 c.graph_range.ensures.1 in
    (rw e c.requires.1, rw e c.requires.2)

pub returns : goal.returns
returns c =
    part_renewed (graph_part c.requires.0) c.graph_range.ensures.0 c.graph_range.ensures.1
    (λ graph. finished_tree c.args.r graph c.args.rank) c.finish_tree.ensures c.finish_tree.auto.graph
