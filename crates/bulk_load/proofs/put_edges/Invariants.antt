-- `bulk_load::put_edges` meets its contract: after i turns the edges of i keys stand at their place.
use Rattle.std.proofs.Common.{◌≡◌, ◌*◌, length}
use Rattle.bulk_load.specs.Loading.{EdgesGiven}
use Rattle.bulk_load.proofs.put_edges.Given as goal

abbrev pub invariant-loop-i : goal.invariant-loop-i
invariant-loop-i l =
    (length l.input ≡ 2 * l.n) × EdgesGiven l.tabulation l.r l.station l.input l.initial.scratch l.scratch l.start l.i
