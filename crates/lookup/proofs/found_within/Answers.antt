-- `lookup::found_within` meets its contract: both slots lie inside words of the right shape; one of them has the key, or it is looked for in the stash.
use Prim.Native.Nat.{◌+◌, ◌<◌}
use mathlib.Core.Path.{◌≡◌, refl, ◌∙◌}
use native.Mathlib.Omega.{arith}
use Rattle.hashing.specs.Slots.{slot_0, slot_1}
use Rattle.hashing.proofs.Slots.{slot_0_lt, slot_1_lt}
use Rattle.layout.proofs.Shape.{by_own_family, same_header}
use Rattle.layout.specs.Layout.{family_of, slots_of}
use borrow.Author.Rules.{rules}
use Rattle.lookup.specs.Found.{own_listed, own_missed}
use Rattle.lookup.proofs.found_within.Goals as goal

pub first_slot-one-requires : goal.first_slot-one-requires
first_slot-one-requires c = let h = same_header c.read_header-header.ensures in search rules

pub second_slot-other-requires : goal.second_slot-other-requires
second_slot-other-requires c = let h = same_header c.read_header-header.ensures in search rules

pub in_slot-in_one-requires : goal.in_slot-in_one-requires
in_slot-in_one-requires c =
    let first_in : c.first_slot-one.result < slots_of c.args.words.now = let first_is : let a = c.args in c.first_slot-one.result ≡ slot_0 (family_of a.tabulation.now a.words.now) a.key = let a = c.args in
    let h = same_header c.read_header-header.ensures in
    by_own_family (λ F. slot_0 F a.key) a.tabulation.now a.words.now h.slots h.station c.first_slot-one.ensures in
    let a = c.args in
    omega (arith, first_is, slot_0_lt (family_of a.tabulation.now a.words.now) c.requires.1.sizes.has_slots a.key) in
    let l = first_in in let h = c.requires.1 in (omega (arith, h), omega (arith, h))

pub in_slot-in_other-requires : goal.in_slot-in_other-requires
in_slot-in_other-requires c =
    let second-in : c.second_slot-other.result < slots_of c.args.words.now + slots_of c.args.words.now = let second_is : let a = c.args in c.second_slot-other.result ≡ slot_1 (family_of a.tabulation.now a.words.now) a.key = let a = c.args in
    let h = same_header c.read_header-header.ensures in
    by_own_family (λ F. slot_1 F a.key) a.tabulation.now a.words.now h.slots h.station c.second_slot-other.ensures in
    let a = c.args in
    omega (arith, second_is, slot_1_lt (family_of a.tabulation.now a.words.now) c.requires.1.sizes.has_slots a.key) in
    let l = second-in in let h = c.requires.1 in (omega (arith, h), omega (arith, h))

pub tier_at-requires : goal.tier_at-requires
tier_at-requires c =
    let first_in : c.first_slot-one.result < slots_of c.args.words.now = let first_is : let a = c.args in c.first_slot-one.result ≡ slot_0 (family_of a.tabulation.now a.words.now) a.key = let a = c.args in
    let h = same_header c.read_header-header.ensures in
    by_own_family (λ F. slot_0 F a.key) a.tabulation.now a.words.now h.slots h.station c.first_slot-one.ensures in
    let a = c.args in
    omega (arith, first_is, slot_0_lt (family_of a.tabulation.now a.words.now) c.requires.1.sizes.has_slots a.key) in
    let second-in : c.second_slot-other.result < slots_of c.args.words.now + slots_of c.args.words.now = let second_is : let a = c.args in c.second_slot-other.result ≡ slot_1 (family_of a.tabulation.now a.words.now) a.key = let a = c.args in
    let h = same_header c.read_header-header.ensures in
    by_own_family (λ F. slot_1 F a.key) a.tabulation.now a.words.now h.slots h.station c.second_slot-other.ensures in
    let a = c.args in
    omega (arith, second_is, slot_1_lt (family_of a.tabulation.now a.words.now) c.requires.1.sizes.has_slots a.key) in
    let l = first_in in
    let m = second-in in
    (c.requires.1, (omega arith, omega arith))

pub returns-then-in_one-in_other : goal.returns-then-in_one-in_other
returns-then-in_one-in_other c =
    let first_is : let a = c.args in c.first_slot-one.result ≡ slot_0 (family_of a.tabulation.now a.words.now) a.key = let a = c.args in
    let h = same_header c.read_header-header.ensures in
    by_own_family (λ F. slot_0 F a.key) a.tabulation.now a.words.now h.slots h.station c.first_slot-one.ensures in
    let second_is : let a = c.args in c.second_slot-other.result ≡ slot_1 (family_of a.tabulation.now a.words.now) a.key = let a = c.args in
    let h = same_header c.read_header-header.ensures in
    by_own_family (λ F. slot_1 F a.key) a.tabulation.now a.words.now h.slots h.station c.second_slot-other.ensures in
    let a = c.args in own_listed a.words.now _ _ a.key c.in_slot-in_one.ensures c.in_slot-in_other.ensures a.tabulation.now (first_is) (second_is)
    c.if-in_one-in_other.true c.tier_at.ensures

pub returns : goal.returns
returns c =
    let first_is : let a = c.args in c.first_slot-one.result ≡ slot_0 (family_of a.tabulation.now a.words.now) a.key = let a = c.args in
    let h = same_header c.read_header-header.ensures in
    by_own_family (λ F. slot_0 F a.key) a.tabulation.now a.words.now h.slots h.station c.first_slot-one.ensures in
    let second_is : let a = c.args in c.second_slot-other.result ≡ slot_1 (family_of a.tabulation.now a.words.now) a.key = let a = c.args in
    let h = same_header c.read_header-header.ensures in
    by_own_family (λ F. slot_1 F a.key) a.tabulation.now a.words.now h.slots h.station c.second_slot-other.ensures in
    let a = c.args in c.in_stash.ensures ∙ own_missed a.words.now _ _ a.key c.in_slot-in_one.ensures c.in_slot-in_other.ensures
    a.tabulation.now (first_is) (second_is) c.if-in_one-in_other.false
