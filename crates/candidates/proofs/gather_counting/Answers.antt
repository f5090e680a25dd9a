-- `candidates::gather_counting` meets its contract: the keys of the slots leave room for those of the places, and
-- together they are those that count.
use Prim.Native.Nat.{◌+◌}
use mathlib.Core.Path.{◌∙◌}
use native.Mathlib.Omega.{arith}
use lib.ListN.{length-set, length-take, length-drop}
use Rattle.hashing.specs.Hash.{tables}
use Rattle.candidates.specs.Candidates.{slots_few, gathered_counting}
use Rattle.candidates.proofs.gather_counting.Goals as goal

pub gather_places-end-requires : goal.gather_places-end-requires
gather_places-end-requires c =
    let p = c.requires in
    let few = slots_few (tables c.args.tabulation.now c.args.r c.args.station) c.args.words.now
    (c.args.r + c.args.r) in
    let e = simp length-set at c.gather_slots-n.auto.scratch in
    (simp (length-take, length-drop) (omega arith), omega arith, omega arith)

pub returns : goal.returns
returns c =
    let a = c.args in
    let p = c.requires.0.1.1 in
    let all = gathered_counting a.tabulation.now a.words.now a.scratch.now _ _ p.0 p.1.1
    c.stash_start-start.ensures (c.wide-count.ensures ∙ p.1.0) (omega arith)
    (c.gather_slots-n.ensures.front, c.gather_slots-n.ensures.counted)
    (c.gather_places-end.ensures.front, c.gather_places-end.ensures.counted) in
    record { front = all.0; counted = all.1 }
