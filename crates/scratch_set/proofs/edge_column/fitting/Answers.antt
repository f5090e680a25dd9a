-- `scratch_set::edge_column::fitting` meets its contract: a tier above 7, or not.
use Prim.Native.Nat.{◌≤◌, ◌<◌}
use borrow.Author.Tests.{lt-ltb, le-ltb}
use native.Mathlib.Omega.{arith}
use Rattle.layout.specs.Entries.{max_tier}
use Rattle.scratch_set.proofs.edge_column.fitting.Goals as goal

pub returns-then-tier-gt-MAX_TIER : goal.returns-then-tier-gt-MAX_TIER
returns-then-tier-gt-MAX_TIER c = let l = c.if-tier-gt-MAX_TIER.true in let m : max_tier < c.args.tier = omega arith in rw (lt-ltb max_tier _ m)

pub returns : goal.returns
returns c = let l = c.if-tier-gt-MAX_TIER.false in let m : c.args.tier ≤ max_tier = omega arith in rw (le-ltb max_tier _ m)
