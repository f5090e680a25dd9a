use Prim.Native.Nat.{◌-◌, ◌≤◌}
use mathlib.Core.Path.{◌≡◌}
use native.Mathlib.Omega.{arith}
use Rattle.layout.proofs.Shape.{shape}
use Rattle.scratch_set.specs.Edges.{edges_length}
use Rattle.scratch_set.specs.Collected.{EdgesFound, collected_room, collected_start, collected_turn, collected_listed}
use borrow.Author.Rules.{rules}
use Rattle.scratch_set.proofs.edge_column.write_edges.Goals as goal

pub edges_start-start-requires : goal.edges_start-start-requires
edges_start-start-requires c = let z = (collected_room c.requires).0 in (z.slots_bound, z.places_bound)

pub loop-i-init : goal.loop-i-init
loop-i-init c = (search rules, collected_start c.requires c.edges_start-start.ensures)

pub offset_bounds-scratch-i : goal.offset_bounds-scratch-i
offset_bounds-scratch-i c = omega (arith, collected_room c.requires)

pub bounds-scratch-i : goal.bounds-scratch-i
bounds-scratch-i c =
    omega (arith, collected_room c.requires, edges_length c.loop-i.invariant.1)

pub edge_found-requires : goal.edge_found-requires
edge_found-requires c = let p = c.requires in (p.ready.full_length, (shape _ p.ready.shape, (p.slots, p.stationed)))

pub overflow_add-scratch : goal.overflow_add-scratch
overflow_add-scratch c = omega (arith, collected_room c.requires, c.edges_start-start.ensures)

pub offset_bounds-scratch-start : goal.offset_bounds-scratch-start
offset_bounds-scratch-start c = omega (arith, collected_room c.requires, c.edges_start-start.ensures)

pub bounds-scratch-start : goal.bounds-scratch-start
bounds-scratch-start c =
    omega (arith, collected_room c.requires, c.edges_start-start.ensures, edges_length c.loop-i.invariant.1)

pub loop-i-preserved : goal.loop-i-preserved
loop-i-preserved c =
    let e = c.edges_start-start.ensures in
    (search rules, collected_turn c.requires e c.loop-i.invariant.1 (omega arith) c.edge_found.ensures)

pub shape_of-scratch : goal.shape_of-scratch
shape_of-scratch c = let e = edges_length c.loop-i.invariant.1 in search rules

pub returns : goal.returns
returns c =
    let e : c.loop-i.i ≡ c.args.n = omega arith in
    collected_listed c.requires c.edges_start-start.ensures c.loop-i.invariant.1 e
