-- `gateway::built::matches_built` meets its contract: what is lent to `image` are the parts of scratch, and the words say r and s.
use mathlib.Core.Path.{◌∙◌, ap}
use lib.ListN.{length}
use Rattle.gateway.specs.Columns.{readable_stash}
use borrow.Author.Rules.{rules}
use Rattle.gateway.proofs.built.matches_built.Goals as goal

pub matches-requires : goal.matches-requires
matches-requires c =
    let p = c.requires in (
      (p.0.0, ap length c.stash_part-stash.ensures ∙ readable_stash p.1 ∙ p.0.1.1),
      rw (c.graph_part-graph.ensures, c.next_part-next.ensures, c.stash_part-stash.ensures, ← p.0.1.0) p.1.ranked,
    )

pub returns : goal.returns
returns c =
    rw (c.graph_part-graph.ensures, c.next_part-next.ensures, c.stash_part-stash.ensures) at c.matches.ensures
