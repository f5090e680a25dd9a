-- `scratch_set::edge_column::write_edges` meets its contract: after i turns the edges of i keys stand at their place, and
-- the words before it are as they were.
use Prim.Native.Nat.{◌-◌, ◌≤◌}
use mathlib.Core.Path.{◌≡◌}
use native.Mathlib.Omega.{arith}
use Rattle.layout.proofs.Shape.{shape}
use Rattle.scratch_set.specs.Edges.{edges_length}
use Rattle.scratch_set.specs.Collected.{EdgesFound, collected_room, collected_start, collected_turn, collected_listed}
use borrow.Author.Rules.{rules}
use Rattle.scratch_set.proofs.edge_column.write_edges.Given as goal

abbrev pub invariant-loop-i : goal.invariant-loop-i
invariant-loop-i l =
    (l.i ≤ l.n) × EdgesFound l.tabulation l.words l.initial.scratch l.scratch l.start l.i
