-- `image::write_image` meets its contract: the heading, the slots, then the stash.
use mathlib.Core.Path.{sym}
use native.Mathlib.Omega.{arith}
use Rattle.image.specs.Ranks.{held_length, slot_ranks, place_ranks, written_by_parts}
use Rattle.image.proofs.write_image.Goals as goal

pub slice_bounds-write_slots-end : goal.slice_bounds-write_slots-end
slice_bounds-write_slots-end c = sym (held_length c.requires.1 c.wide-r.result c.wide-r.ensures)

pub write_slots-requires : goal.write_slots-requires
write_slots-requires c =
    let p = c.requires in
    slot_ranks p.1 c.wide-r.result c.wide-r.ensures _ (omega (arith, p.0.1.0))

pub write_places-requires : goal.write_places-requires
write_places-requires c =
    let p = c.requires in
    place_ranks p.1 c.wide-r.result c.wide-r.ensures _ _ (omega (arith, p.0.1.0, p.0.1.1, c.stash_start-start.ensures))

pub returns : goal.returns
returns c =
    let a = c.args in
    written_by_parts a.words.now a.header a.keys.now a.graph.now a.next.now a.stash.now
    c.wide-r.ensures
    c.stash_start-start.ensures
    c.write_header.ensures
    c.write_slots.ensures
    c.write_places.ensures
