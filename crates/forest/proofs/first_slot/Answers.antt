-- `forest::first_slot` meets its contract.
use native.Mathlib.Omega.{arith}
use mathlib.Core.Path.{sym, ◌∙◌, ap}
use Rattle.edges.specs.Edge.{first_of}
use Rattle.forest.specs.Edges.{end_0}
use Rattle.forest.proofs.Edges.{ends_fit}
use Rattle.forest.proofs.Graph.{first_none}
use Rattle.forest.proofs.first_slot.Goals as goal

pub returns-then-rank-eq0 : goal.returns-then-rank-eq0
returns-then-rank-eq0 c =
    let e = first_none c.args.r c.args.graph.now in
    (rw c.if-rank-eq0.true (sym e), omega (arith, c.requires.0.edges.some))

pub returns-else-rank-eq0 : goal.returns-else-rank-eq0
unfolding end_0
returns-else-rank-eq0 c =
    let e = c.first.ensures ∙ ap first_of c.edge.ensures in
    (e, omega (arith, e, (ends_fit c.requires.0.edges c.args.rank).0))
