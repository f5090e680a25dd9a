-- `forest::edge` meets its contract.
use native.Mathlib.Omega.{arith}
use Rattle.forest.proofs.Graph.{edges_length, edge_word}
use Rattle.forest.proofs.edge.Goals as goal

pub bounds-graph-at : goal.bounds-graph-at
bounds-graph-at c = omega (arith, c.requires.0.long, edges_length c.args.r c.args.graph.now)

pub returns : goal.returns
returns c =
    let w1 = c.wide.ensures in
    let w2 = c.wide-2.ensures in
    rw (w1, w2) (edge_word c.args.r c.args.graph.now c.args.rank c.requires.1 c.requires.2)
