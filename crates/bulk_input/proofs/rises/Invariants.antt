-- `bulk_input::rises` meets its contract: what is left to compare are the neighbours that are left.
use Rattle.std.proofs.Common.{◌≡◌, drop}
use Rattle.basics.specs.Lists.{rises}
use Rattle.bulk.specs.Bulk.{input_keys, rising}
use Rattle.bulk_input.proofs.rises.Given as goal

abbrev pub invariant-loop-i : goal.invariant-loop-i
invariant-loop-i l = rising (input_keys l.input) ≡ rises l.last (drop l.i (input_keys l.input))
