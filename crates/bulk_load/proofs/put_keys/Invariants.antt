-- `bulk_load::put_keys` meets its contract: after i turns i keys stand behind word 0.
use Rattle.std.proofs.Common.{◌≡◌}
use lib.Seq.{paste}
use Rattle.bulk.specs.Bulk.{input_keys}
use Rattle.bulk_load.proofs.put_keys.Given as goal

abbrev pub invariant-loop-i : goal.invariant-loop-i
invariant-loop-i l = l.scratch ≡ paste l.initial.scratch 1 (input_keys l.input) l.i
