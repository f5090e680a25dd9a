-- `bulk_input::any_blank` meets its contract: what is left to test are the keys that are left.
use Rattle.std.proofs.Common.{◌≡◌, drop}
use Rattle.basics.specs.Sets.{any}
use Rattle.hashing.specs.Hash.{blank}
use Rattle.bulk.specs.Bulk.{input_keys}
use Rattle.bulk_input.proofs.any_blank.Given as goal

abbrev pub invariant-loop-i : goal.invariant-loop-i
invariant-loop-i l = any blank (input_keys l.input) ≡ any blank (drop l.i (input_keys l.input))
