-- `scratch_layout::edge` meets its contract: the edges stand in the graph, behind the held words.
use Rattle.build.proofs.Access.{edge_at_word}
use Rattle.scratch_layout.proofs.edge.Goals as goal

pub returns : goal.returns
returns c =
    edge_at_word c.requires.0 (rw (c.edges_start.ensures, c.wide.ensures)) c.requires.1 c.requires.2
