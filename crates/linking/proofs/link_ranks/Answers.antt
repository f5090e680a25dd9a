-- `linking::link_ranks` meets its contract: all ranks, from bare slots on.
use native.Mathlib.Omega.{arith}
use Prim.Native.Nat.{ℕ, ◌*◌, ◌≤◌}
use mathlib.Core.Path.{◌≡◌, ◌∙◌}
use lib.ListN.{length}
use Rattle.forest.specs.Edges.{Edges}
use Rattle.forest.specs.Graph.{edges_in}
use Rattle.build.specs.Scratch.{Parts, parts}
use Rattle.build.proofs.Access.{parts_fit}
use Rattle.build.specs.LinkCode.{unlinked_parts, ranks_linked, linked_parts}
use Rattle.build.proofs.LinkCode.{start_linkable, start_all}
use borrow.Author.Rules.{rules}
use Rattle.linking.proofs.link_ranks.Goals as goal

-- `linking::link_ranks` meets its contract: all ranks, from bare slots on.
all : {r : ℕ} (n : ℕ) (P : Parts) {Q R : Parts} → Edges r (edges_in r P.graph) → 2 * r ≤ length P.graph → Q ≡ unlinked_parts r P → R ≡ ranks_linked r n Q → R ≡ linked_parts r n P
all n P E l e f = f ∙ rw e (start_all P E l n)

pub link_each-requires : goal.link_each-requires
link_each-requires c =
    let before : Parts = parts c.args.r c.args.s c.args.n c.args.scratch.now in
    let E = c.requires.0 in
    (search rules, rw c.unlink.ensures (start_linkable (before) c.requires.1 (omega (arith, (parts_fit E).graph_size))))

pub returns : goal.returns
returns c =
    let before : Parts = parts c.args.r c.args.s c.args.n c.args.scratch.now in
    all c.args.n (before) c.requires.1 (omega (arith, (parts_fit c.requires.0).graph_size)) c.unlink.ensures c.link_each.ensures
