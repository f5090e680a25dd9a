-- `scratch_set::is_at` meets its contract: a key of the set stands at its rank.
use native.Mathlib.Omega.{arith}
use Rattle.scratch_set.specs.Members.{stands_at, stands_nowhere}
use Rattle.std.proofs.Common.{◌∙◌}
use borrow.Author.Tests.{le-ltb}
use Rattle.scratch_set.proofs.is_at.Goals as goal

pub returns-then-at-n : goal.returns-then-at-n
returns-then-at-n c =
    stands_at c.args.scratch.now c.args.n c.requires.0.0 c.args.key c.requires.0.1 c.requires.1 c.if-at-n.true

pub returns-else-at-n : goal.returns-else-at-n
returns-else-at-n c =
    le-ltb _ _ c.if-at-n.false
    ∙ stands_nowhere c.args.scratch.now c.args.n c.requires.0.0 c.args.key c.requires.0.1 c.requires.1 (omega arith)
