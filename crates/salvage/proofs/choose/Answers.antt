use Prim.Native.Nat.{◌<◌, ◌+◌}
use mathlib.Core.Path.{sym, ◌∙◌, ap}
use native.Mathlib.Omega.{arith}
use lib.ListN.{length, get_or, length-set}
use Rattle.salvage.specs.Chosen.{candidates, chosen_skip, chosen_take, choosing_shaped}
use Rattle.salvage.specs.Chosen.{own_slots_in}
use Rattle.salvage.specs.Chosen.{stays, edge, choosing_hashing, choosing_room, choosing_start, choosing_parts}
use Rattle.salvage.specs.Chosen.{choosing_end}
use Rattle.salvage.specs.Chosen.{issue_packable, issue_edge, issue_stays, issue_goes}
use Rattle.salvage.proofs.choose.Goals as goal

pub edges_start-start-requires : goal.edges_start-start-requires
edges_start-start-requires c = let z = (choosing_room c.requires).0
    in (z.slots_bound, z.places_bound)

pub loop-i-init : goal.loop-i-init
loop-i-init c = choosing_start c.requires c.edges_start-start.result

pub offset_bounds-scratch-i : goal.offset_bounds-scratch-i
offset_bounds-scratch-i c = omega (arith, choosing_room c.requires)

pub bounds-scratch-i : goal.bounds-scratch-i
bounds-scratch-i c = omega (arith, choosing_room c.requires, c.loop-i.invariant.same_length)

pub first_slot-first-requires : goal.first_slot-first-requires
first_slot-first-requires c = choosing_hashing c.requires

pub second_slot-second-requires : goal.second_slot-second-requires
second_slot-second-requires c = choosing_hashing c.requires

pub issue_at-issue-requires : goal.issue_at-issue-requires
issue_at-issue-requires c =
    let C = c.requires in
    (choosing_shaped C, own_slots_in C _ c.first_slot-first.ensures c.second_slot-second.ensures)

pub offset_bounds-scratch-m : goal.offset_bounds-scratch-m
offset_bounds-scratch-m c = omega (arith, choosing_room c.requires, c.loop-i.invariant.few)

pub bounds-scratch-m : goal.bounds-scratch-m
bounds-scratch-m c =
    omega (arith, choosing_room c.requires, c.loop-i.invariant.few, c.loop-i.invariant.same_length)

pub pack-requires : goal.pack-requires
pack-requires c =
    issue_packable c.requires _ c.first_slot-first.ensures c.second_slot-second.ensures
    c.issue_at-issue.ensures

pub overflow_add-scratch-then-stands : goal.overflow_add-scratch-then-stands
overflow_add-scratch-then-stands c =
    omega (arith, choosing_room c.requires, c.loop-i.invariant.few, c.edges_start-start.ensures)

pub offset_bounds-scratch-start : goal.offset_bounds-scratch-start
offset_bounds-scratch-start c =
    omega (arith, choosing_room c.requires, c.loop-i.invariant.few, c.edges_start-start.ensures)

pub bounds-scratch-start : goal.bounds-scratch-start
bounds-scratch-start c =
    omega (
      arith,
      choosing_room c.requires,
      c.loop-i.invariant.few,
      c.edges_start-start.ensures,
      c.loop-i.invariant.same_length,
      length-set c.loop-i.scratch (c.loop-i.m + 1) (get_or c.loop-i.scratch (c.loop-i.i + 1) 0),
    )

pub loop-i-preserved : goal.loop-i-preserved
loop-i-preserved c =
    let a = c.args in
    let C = c.requires in
    let T = c.loop-i.invariant in
    let K = candidates a.tabulation.now a.words.now in
    let lt : c.loop-i.i < length K = omega (arith, C.count) in
    let k = T.rest c.loop-i.i (omega arith) lt in
    let f = c.first_slot-first.ensures in
    let h = c.second_slot-second.ensures in
    let e = c.issue_at-issue.ensures in
    let room = choosing_parts C c.edges_start-start.ensures in
    elim c.if-stands.branch [
      | goal.then-stands t ↦
          rw (t.m-is, t.scratch-is) (chosen_take (stays C) (edge C) K a.scratch.now c.edges_start-start.result T lt
          (ap (stays C) (sym k) ∙ issue_stays C _ f h e t.if-stands.true) k
          (issue_edge C _ f h e t.pack.ensures ∙ ap (edge C) k) room.0 room.1)
      | goal.else-stands t ↦
          rw (t.m-is, t.scratch-is) (chosen_skip (stays C) (edge C) K a.scratch.now c.edges_start-start.result T lt
          (ap (stays C) (sym k) ∙ issue_goes C _ f h e t.if-stands.false))
    ]

pub returns : goal.returns
returns c =
    choosing_end c.requires c.edges_start-start.ensures (omega arith) c.loop-i.invariant
