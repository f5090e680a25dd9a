-- `linking::ends_of` meets its contract: its slots are those of its edge.
use Rattle.std.proofs.Common.{◌≡◌, ◌∙◌, ap, ℕ, List, arith, rules}
use Rattle.edges.specs.Edge.{first_of, second_of}
use Rattle.forest.specs.Edges.{edge_at, end_0, end_1}
use Rattle.forest.proofs.Edges.{ends_fit}
use Rattle.linking.proofs.ends_of.Goals as goal

-- the slots read from an edge are those of its rank
first_is : (r rank : ℕ) {e v : ℕ} (E : List ℕ) → v ≡ first_of e → e ≡ edge_at r E rank → v ≡ end_0 r E rank
unfolding end_0
first_is r rank E f k = f ∙ ap first_of k

second_is : (r rank : ℕ) {e v : ℕ} (E : List ℕ) → v ≡ second_of e → e ≡ edge_at r E rank → v ≡ end_1 r E rank
unfolding end_1
second_is r rank E f k = f ∙ ap second_of k

pub set_of-one-requires : goal.set_of-one-requires
set_of-one-requires c =
    (search rules, omega (arith, first_is c.args.r c.args.rank _ c.first-first.ensures c.edge-edge.ensures, (ends_fit c.requires.3 c.args.rank).0))

pub set_of-two-requires : goal.set_of-two-requires
set_of-two-requires c =
    (search rules, omega (arith, second_is c.args.r c.args.rank _ c.second-second.ensures c.edge-edge.ensures, (ends_fit c.requires.3 c.args.rank).1))

pub returns : goal.returns
returns c = record {
  first_is = first_is c.args.r c.args.rank _ c.first-first.ensures c.edge-edge.ensures;
  second_is = second_is c.args.r c.args.rank _ c.second-second.ensures c.edge-edge.ensures;
  one_is = c.set_of-one.ensures.0;
  two_is = c.set_of-two.ensures.0;
}
