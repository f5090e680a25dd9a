-- `partition::unite` meets its contract: the comparison of the sizes is that of the definition.
use native.Mathlib.Omega.{arith}
use borrow.Author.Tests.{lt-ltb, le-ltb}
use Rattle.partition.specs.Words.{size_of, smaller, larger, united}
use Rattle.partition.proofs.unite.Goals as goal

pub returns-then-size : goal.returns-then-size
unfolding united smaller larger
returns-then-size c =
    let a = c.args in
    rw (lt-ltb (size_of a.words.now a.first) (size_of a.words.now a.second) (omega arith)) c.link.ensures

pub returns-else-size : goal.returns-else-size
unfolding united smaller larger
returns-else-size c =
    let a = c.args in
    rw (le-ltb (size_of a.words.now a.first) (size_of a.words.now a.second) (omega arith)) c.link-else-size.ensures
