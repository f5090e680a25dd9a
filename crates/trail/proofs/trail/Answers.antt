-- `trail::trail` meets its contract: what `trail_words` tells and writes, and cleared scratch.
use Rattle.trail.specs.Traced.{told_outcome}
use borrow.Author.Rules.{rules}
use Rattle.trail.proofs.trail.Goals as goal

pub returns : goal.returns
returns c =
    let a = c.args in
    told_outcome a.tabulation.now a.words.now a.scratch.now a.key c.trail_words-answer.ensures
    (rw c.trail_words-answer.auto.scratch at c.clear.ensures)
