-- `forest::second_slot` meets its contract.
use native.Mathlib.Omega.{arith}
use mathlib.Core.Path.{◌∙◌, ap}
use Rattle.edges.specs.Edge.{second_of}
use Rattle.forest.specs.Edges.{end_1}
use Rattle.forest.proofs.Edges.{ends_fit}
use Rattle.forest.proofs.second_slot.Goals as goal

pub returns : goal.returns
unfolding end_1
returns c =
    let e = c.second.ensures ∙ ap second_of c.edge.ensures in
    (e, omega (arith, e, (ends_fit c.requires.0.edges c.args.rank).1))
