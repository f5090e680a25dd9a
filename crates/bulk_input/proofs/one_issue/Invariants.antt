-- `bulk_input::one_issue` meets its contract: what is left to compare are the neighbours that are left.
use Rattle.std.proofs.Common.{◌≡◌, drop}
use Rattle.layout.specs.Issues.{parts_apart}
use Rattle.bulk.specs.Bulk.{input_keys}
use Rattle.bulk_input.proofs.one_issue.Given as goal

abbrev pub invariant-loop-i : goal.invariant-loop-i
invariant-loop-i l = parts_apart 0 (input_keys l.input) ≡ parts_apart l.last (drop l.i (input_keys l.input))
