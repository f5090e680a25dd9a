-- `writing::put_number` meets its contract: the digits that are still to come stand before index i.
use Rattle.grammar.specs.Decimal.{decimal}
use Prim.Native.Nat.{◌≤◌, ◌+◌}
use mathlib.Core.Path.{◌≡◌}
use lib.ListN.{length}
use Rattle.writing.specs.Written.{to_come}
use Rattle.writing.proofs.put_number.Given as goal

abbrev pub invariant-loop-rest : goal.invariant-loop-rest
invariant-loop-rest l =
    (l.i ≡ l.at + length (decimal l.rest)) × (l.i ≤ length l.out) × (length l.out ≡ length l.initial.out) × (to_come l.initial.out l.at l.end l.n ≡ to_come l.out l.at l.i l.rest)

abbrev pub decreases-loop-rest : goal.decreases-loop-rest
decreases-loop-rest l = l.rest
