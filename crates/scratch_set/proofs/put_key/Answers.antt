-- `scratch_set::put_key` meets its contract: the keys move, then the edges at the same place.
use Rattle.scratch_set.specs.Members.{put_both}
use borrow.Author.Rules.{rules}
use Rattle.scratch_set.proofs.put_key.Goals as goal

pub returns : goal.returns
returns c =
    let d = c.args in
    put_both d.r d.s d.n d.at d.scratch.now c.edges_start-start.ensures d.key c.edge_given-edge.ensures
    c.shift_in.ensures c.shift_in-2.ensures
