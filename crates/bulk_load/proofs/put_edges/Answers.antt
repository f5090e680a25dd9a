use mathlib.Core.Path.{◌≡◌}
use native.Mathlib.Omega.{arith}
use Rattle.scratch_set.specs.Edges.{edges_length}
use Rattle.bulk_load.specs.Loading.{fill_size, fill_tier, fill_start, fill_turn, fill_lined}
use Rattle.bulk_load.proofs.put_edges.Goals as goal

pub edges_start-start-requires : goal.edges_start-start-requires
edges_start-start-requires c = let h = c.requires.0 in (h.hashing.slots_bound, h.places)

pub loop-i-init : goal.loop-i-init
loop-i-init c =
    let h = c.requires.0 in
    (fill_size h, fill_start h c.edges_start-start.ensures)

pub edge_given-requires : goal.edge_given-requires
edge_given-requires c =
    let h = c.requires.0 in
    (h.hashing, fill_tier h c.loop-i.i (omega arith))

pub overflow_add-scratch : goal.overflow_add-scratch
overflow_add-scratch c =
    let h = c.requires.0 in
    omega (arith, h.few, h.places, h.hashing, c.edges_start-start.ensures)

pub offset_bounds-scratch-start : goal.offset_bounds-scratch-start
offset_bounds-scratch-start c =
    let h = c.requires.0 in
    omega (arith, h.few, h.places, h.hashing, c.edges_start-start.ensures)

pub bounds-scratch-start : goal.bounds-scratch-start
bounds-scratch-start c =
    let h = c.requires.0 in
    omega (arith, h.few, h.room, c.edges_start-start.ensures, edges_length c.loop-i.invariant.1)

pub loop-i-preserved : goal.loop-i-preserved
loop-i-preserved c =
    let h = c.requires.0 in
    let T = c.loop-i.invariant in
    (T.0, fill_turn h c.edges_start-start.ensures T.1 (omega arith) c.edge_given.ensures)

pub shape_of-scratch : goal.shape_of-scratch
shape_of-scratch c = edges_length c.loop-i.invariant.1

pub returns : goal.returns
returns c =
    let p = c.requires in
    let e : c.loop-i.i ≡ c.args.n = omega arith in
    fill_lined p.0 c.edges_start-start.ensures c.loop-i.invariant.1 e p.1
