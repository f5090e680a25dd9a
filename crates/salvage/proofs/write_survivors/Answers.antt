-- `salvage::write_survivors` meets its contract: what counts is sorted, the survivors are chosen and committed.
use Prim.Native.Nat.{◌-◌}
use native.Mathlib.Omega.{arith}
use borrow.Rule.Slice.PartMut.{put_mid}
use lib.ListN.{length, length-take, length-drop}
use Rattle.salvage.specs.Chosen.{CandidatesStand, choosing_shaped}
use Rattle.salvage.specs.Salvaging.{gathered_room, gathered_candidates, chosen_few, chosen_committable}
use Rattle.salvage.specs.Salvaging.{chosen_committed}
use Rattle.salvage.proofs.write_survivors.Goals as goal

pub slice_bounds-make_set-count : goal.slice_bounds-make_set-count
slice_bounds-make_set-count c = omega (arith, gathered_room c.requires)

pub make_set-n-requires : goal.make_set-n-requires
make_set-n-requires c =
    let h = gathered_room c.requires in
    simp (length-take, length-drop) (omega arith)

pub choose-m-requires : goal.choose-m-requires
choose-m-requires c =
    let a = c.args in
    let m = c.make_set-n in
    let stand : CandidatesStand a.tabulation.now a.words.now
    (put_mid 1 (length a.scratch.now - 1) a.scratch.now m.new.keys) a.header.slots a.header.places a.header.station
    m.result =
    gathered_candidates c.requires m.new.keys m.auto.keys m.ensures.counted m.ensures.front in
    stand

pub overflow_cast-m : goal.overflow_cast-m
overflow_cast-m c =
    let a = c.args in
    let m = c.make_set-n in
    let stand : CandidatesStand a.tabulation.now a.words.now
    (put_mid 1 (length a.scratch.now - 1) a.scratch.now m.new.keys) a.header.slots a.header.places a.header.station
    m.result =
    gathered_candidates c.requires m.new.keys m.auto.keys m.ensures.counted m.ensures.front in
    omega (arith, chosen_few stand c.choose-m.ensures.0, (choosing_shaped stand).sizes)

pub commit-requires : goal.commit-requires
commit-requires c =
    let a = c.args in
    let m = c.make_set-n in
    let stand : CandidatesStand a.tabulation.now a.words.now
    (put_mid 1 (length a.scratch.now - 1) a.scratch.now m.new.keys) a.header.slots a.header.places a.header.station
    m.result =
    gathered_candidates c.requires m.new.keys m.auto.keys m.ensures.counted m.ensures.front in
    chosen_committable stand a.target.now c.requires.salvable.size c.choose-m.auto.scratch
    c.choose-m.ensures.0 c.choose-m.ensures.1 c.requires.heading c.with_keys-heading.ensures

pub returns : goal.returns
returns c =
    let a = c.args in
    let m = c.make_set-n in
    let stand : CandidatesStand a.tabulation.now a.words.now
    (put_mid 1 (length a.scratch.now - 1) a.scratch.now m.new.keys) a.header.slots a.header.places a.header.station
    m.result =
    gathered_candidates c.requires m.new.keys m.auto.keys m.ensures.counted m.ensures.front in
    chosen_committed stand a.target.now c.requires.salvable.size c.choose-m.auto.scratch
    c.choose-m.ensures.0 c.choose-m.ensures.1 c.requires.heading c.with_keys-heading.ensures c.commit.ensures
