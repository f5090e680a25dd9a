-- `seating::finish::finish_cycle` meets its contract: the graph is lent whole, and comes back finished.
use Rattle.forest.specs.Graph.{finished_cycle}
use Rattle.build.proofs.Access.{graph_part, part_lent, part_renewed}
use Rattle.seating.proofs.finish.finish_cycle.Goals as goal

pub finish_cycle-requires : goal.finish_cycle-requires
finish_cycle-requires c =
    let e = part_lent (graph_part c.requires.0) c.graph_range.ensures.0 c.graph_range.ensures.1 in
    (rw e c.requires.1, c.requires.2, rw e c.requires.3)

pub returns : goal.returns
returns c =
    part_renewed (graph_part c.requires.0) c.graph_range.ensures.0 c.graph_range.ensures.1
    (λ graph. finished_cycle c.args.r graph c.args.rank) c.finish_cycle.ensures c.finish_cycle.auto.graph
