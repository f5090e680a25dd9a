-- `salvage::salvage_set` meets its contract: 15 by how many spots are occupied and how many count, or the survivors.
use mathlib.Core.Path.{refl, sym, ◌∙◌, ap}
use native.Mathlib.Omega.{arith}
use Rattle.layout.proofs.Shape.{shape, same_header}
use Rattle.std.proofs.Common.{Ok}
use Rattle.salvage.specs.Salvaging.{hopeless, saved, hopeless_test, lost_left, salvable_hashing}
use Rattle.salvage.proofs.salvage_set.Goals as goal

pub count_occupied-occupied-requires : goal.count_occupied-occupied-requires
count_occupied-occupied-requires c =
    let p = c.requires in
    let s = same_header p.1 in
    (shape _ p.0.shape, (s.slots, s.places))

pub gather_counting-counted-requires : goal.gather_counting-counted-requires
gather_counting-counted-requires c =
    let p = c.requires in
    let s = same_header p.1 in
    let z = shape _ p.0.shape in (
      (salvable_hashing p.0 s.slots s.station, (z, (s.slots, (s.places, s.station)))),
      omega (arith, p.0.room, z.sizes, s.slots, s.places),
    )

pub returns-then-is_hopeless : goal.returns-then-is_hopeless
returns-then-is_hopeless c =
    let a = c.args in
    hopeless (hopeless_test a.tabulation.now a.words.now c.count_occupied-occupied.ensures.0
    c.gather_counting-counted.ensures.counted ∙ sym c.is_hopeless.ensures ∙ c.if-is_hopeless.true) refl refl

pub write_survivors-requires : goal.write_survivors-requires
write_survivors-requires c =
    let p = c.requires in
    record {
      salvable = record {
        full_length = p.0.full_length;
        shape = p.0.shape;
        size = p.0.size;
        room = omega (arith, p.0.room, c.gather_counting-counted.auto.scratch);
      };
      heading = p.1;
      count = c.gather_counting-counted.ensures.counted;
      front = c.gather_counting-counted.ensures.front;
    }

pub overflow_sub-lost : goal.overflow_sub-lost
overflow_sub-lost c =
    let a = c.args in
    let l = lost_left a.tabulation.now a.words.now c.count_occupied-occupied.ensures.0
    c.gather_counting-counted.ensures.counted in
    omega (arith, l.0)

pub overflow_cast-result : goal.overflow_cast-result
overflow_cast-result c =
    let s = same_header c.requires.1 in
    omega (arith, c.count_occupied-occupied.ensures.1, (shape _ c.requires.0.shape).sizes, s.slots, s.places)

pub returns : goal.returns
returns c =
    let a = c.args in
    let f = c.count_occupied-occupied.ensures.0 in
    let n = c.gather_counting-counted.ensures.counted in
    saved (hopeless_test a.tabulation.now a.words.now f n ∙ sym c.is_hopeless.ensures
    ∙ c.if-is_hopeless.false)
    (ap Ok (lost_left a.tabulation.now a.words.now f n).1) c.write_survivors.ensures
