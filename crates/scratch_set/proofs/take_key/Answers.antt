-- `scratch_set::take_key` meets its contract: the keys move, then the edges at the same place.
use Rattle.scratch_set.specs.Members.{taken_both}
use borrow.Author.Rules.{rules}
use Rattle.scratch_set.proofs.take_key.Goals as goal

pub returns : goal.returns
returns c =
    let d = c.args in
    taken_both d.r d.s d.n d.at d.scratch.now c.edges_start-start.ensures c.shift_out.ensures c.shift_out-2.ensures
