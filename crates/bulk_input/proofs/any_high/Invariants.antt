-- `bulk_input::any_high` meets its contract: what is left to test are the tiers that are left.
use Rattle.std.proofs.Common.{◌≡◌, drop}
use lib.Dec.{ltb}
use Rattle.basics.specs.Sets.{any}
use Rattle.layout.specs.Entries.{max_tier}
use Rattle.bulk.specs.Bulk.{input_tiers}
use Rattle.bulk_input.proofs.any_high.Given as goal

abbrev pub invariant-loop-i : goal.invariant-loop-i
invariant-loop-i l = any (ltb max_tier) (input_tiers l.input) ≡ any (ltb max_tier) (drop l.i (input_tiers l.input))
