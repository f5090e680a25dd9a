-- `scratch_set::edge_column::edge_found` meets its contract: its slots are slots of the words, and the tier found by them fits when it is made small.
use Prim.Native.Nat.{◌≤◌, ◌<◌}
use native.Mathlib.Omega.{arith}
use borrow.Author.Rules.{rules}
use Rattle.scratch_set.specs.Edges.{small_le, slots_in, packable, edge_made}
use Rattle.scratch_set.proofs.edge_column.edge_found.Goals as goal

pub tier_at-tier-requires : goal.tier_at-tier-requires
tier_at-tier-requires c =
    let some : 0 < c.args.r = omega (arith, c.requires.1.1.0, c.requires.1.0.sizes) in
    let most : c.args.r ≤ 1024 = omega (arith, c.requires.1.1.0, c.requires.1.0.sizes) in
    let l = slots_in c.args.tabulation.now c.args.r c.args.station c.args.key (some) (most) c.first_slot-first.ensures c.second_slot-second.ensures in
    (c.requires.1.0, (omega (arith, c.requires.1.1.0), omega (arith, c.requires.1.1.0)))

pub pack-requires : goal.pack-requires
pack-requires c =
    let some : 0 < c.args.r = omega (arith, c.requires.1.1.0, c.requires.1.0.sizes) in
    let most : c.args.r ≤ 1024 = omega (arith, c.requires.1.1.0, c.requires.1.0.sizes) in
    packable c.args.tabulation.now c.args.r c.args.station c.args.key (some) (most) c.first_slot-first.ensures c.second_slot-second.ensures
    (rw c.fitting.ensures (small_le c.tier_at-tier.result))

pub returns : goal.returns
returns c =
    edge_made c.args.tabulation.now c.args.words.now c.args.key c.requires.1.1.0 c.requires.1.1.1 c.first_slot-first.ensures
    c.second_slot-second.ensures c.tier_at-tier.ensures c.fitting.ensures c.pack.ensures
