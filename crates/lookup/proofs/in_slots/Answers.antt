-- `lookup::in_slots` meets its contract: both slots lie inside words of the right shape, and they are looked at in this order.
use Prim.Native.Nat.{◌+◌, ◌<◌}
use mathlib.Core.Path.{◌≡◌, refl, sym, ◌∙◌}
use native.Mathlib.Omega.{arith}
use lib.Dec.{eqb}
use Rattle.hashing.specs.Slots.{slot_0, slot_1}
use Rattle.hashing.proofs.Slots.{slot_0_lt, slot_1_lt}
use Rattle.layout.proofs.Shape.{by_own_family, same_header}
use Rattle.layout.specs.Layout.{family_of, slots_of, slot_entry}
use borrow.Author.Rules.{rules}
use Rattle.lookup.specs.Found.{found_first, found_second, found_neither}
use Rattle.lookup.proofs.in_slots.Goals as goal

pub first_slot-first-requires : goal.first_slot-first-requires
first_slot-first-requires c = let h = same_header c.read_header-header.ensures in search rules

pub in_slot-requires : goal.in_slot-requires
in_slot-requires c =
    let first_in : c.first_slot-first.result < slots_of c.args.words.now = let first_is : let a = c.args in c.first_slot-first.result ≡ slot_0 (family_of a.tabulation.now a.words.now) a.key = let a = c.args in
    let h = same_header c.read_header-header.ensures in
    by_own_family (λ F. slot_0 F a.key) a.tabulation.now a.words.now h.slots h.station c.first_slot-first.ensures in
    let a = c.args in
    omega (arith, first_is, slot_0_lt (family_of a.tabulation.now a.words.now) c.requires.1.sizes.has_slots a.key) in
    let l = first_in in let h = c.requires.1 in (omega (arith, h), omega (arith, h))

pub slot_tier-requires : goal.slot_tier-requires
slot_tier-requires c =
    let first_in : c.first_slot-first.result < slots_of c.args.words.now = let first_is : let a = c.args in c.first_slot-first.result ≡ slot_0 (family_of a.tabulation.now a.words.now) a.key = let a = c.args in
    let h = same_header c.read_header-header.ensures in
    by_own_family (λ F. slot_0 F a.key) a.tabulation.now a.words.now h.slots h.station c.first_slot-first.ensures in
    let a = c.args in
    omega (arith, first_is, slot_0_lt (family_of a.tabulation.now a.words.now) c.requires.1.sizes.has_slots a.key) in
    let l = first_in in let h = c.requires.1 in (omega (arith, h), omega (arith, h))

pub returns-then-in_slot : goal.returns-then-in_slot
returns-then-in_slot c =
    let first_is : let a = c.args in c.first_slot-first.result ≡ slot_0 (family_of a.tabulation.now a.words.now) a.key = let a = c.args in
    let h = same_header c.read_header-header.ensures in
    by_own_family (λ F. slot_0 F a.key) a.tabulation.now a.words.now h.slots h.station c.first_slot-first.ensures in
    let first-test : let a = c.args in c.in_slot.result ≡ eqb a.key (slot_entry a.words.now (slot_0 (family_of a.tabulation.now a.words.now) a.key)).key = let first_is : let a = c.args in c.first_slot-first.result ≡ slot_0 (family_of a.tabulation.now a.words.now) a.key = let a = c.args in
    let h = same_header c.read_header-header.ensures in
    by_own_family (λ F. slot_0 F a.key) a.tabulation.now a.words.now h.slots h.station c.first_slot-first.ensures in
    rw (first_is) at c.in_slot.ensures in
    let a = c.args in
    found_first a.tabulation.now a.words.now a.key (sym (first-test) ∙ c.if-in_slot.true) (rw (first_is) at c.slot_tier.ensures)

pub second_slot-second-requires : goal.second_slot-second-requires
second_slot-second-requires c = let h = same_header c.read_header-header.ensures in search rules

pub in_slot-requires-2 : goal.in_slot-requires-2
in_slot-requires-2 c =
    let second-in : let w = c.args.words.now in c.second_slot-second.result < slots_of w + slots_of w = let second_is : let a = c.args in c.second_slot-second.result ≡ slot_1 (family_of a.tabulation.now a.words.now) a.key = let a = c.args in
    let h = same_header c.read_header-header.ensures in
    by_own_family (λ F. slot_1 F a.key) a.tabulation.now a.words.now h.slots h.station c.second_slot-second.ensures in
    let a = c.args in
    omega (arith, second_is, slot_1_lt (family_of a.tabulation.now a.words.now) c.requires.1.sizes.has_slots a.key) in
    let l = second-in in let h = c.requires.1 in (omega (arith, h), omega (arith, h))

pub slot_tier-requires-then-in_slot-2 : goal.slot_tier-requires-then-in_slot-2
slot_tier-requires-then-in_slot-2 c =
    let second-in : let w = c.args.words.now in c.second_slot-second.result < slots_of w + slots_of w = let second_is : let a = c.args in c.second_slot-second.result ≡ slot_1 (family_of a.tabulation.now a.words.now) a.key = let a = c.args in
    let h = same_header c.read_header-header.ensures in
    by_own_family (λ F. slot_1 F a.key) a.tabulation.now a.words.now h.slots h.station c.second_slot-second.ensures in
    let a = c.args in
    omega (arith, second_is, slot_1_lt (family_of a.tabulation.now a.words.now) c.requires.1.sizes.has_slots a.key) in
    let l = second-in in
    let h = c.requires.1 in
    (omega (arith, h), omega (arith, h))

pub returns-then-in_slot-2 : goal.returns-then-in_slot-2
returns-then-in_slot-2 c =
    let second_is : let a = c.args in c.second_slot-second.result ≡ slot_1 (family_of a.tabulation.now a.words.now) a.key = let a = c.args in
    let h = same_header c.read_header-header.ensures in
    by_own_family (λ F. slot_1 F a.key) a.tabulation.now a.words.now h.slots h.station c.second_slot-second.ensures in
    let second-test : let a = c.args in c.in_slot-2.result ≡ eqb a.key (slot_entry a.words.now (slot_1 (family_of a.tabulation.now a.words.now) a.key)).key = let second_is : let a = c.args in c.second_slot-second.result ≡ slot_1 (family_of a.tabulation.now a.words.now) a.key = let a = c.args in
    let h = same_header c.read_header-header.ensures in
    by_own_family (λ F. slot_1 F a.key) a.tabulation.now a.words.now h.slots h.station c.second_slot-second.ensures in
    rw (second_is) at c.in_slot-2.ensures in
    let first-test : let a = c.args in c.in_slot.result ≡ eqb a.key (slot_entry a.words.now (slot_0 (family_of a.tabulation.now a.words.now) a.key)).key = let first_is : let a = c.args in c.first_slot-first.result ≡ slot_0 (family_of a.tabulation.now a.words.now) a.key = let a = c.args in
    let h = same_header c.read_header-header.ensures in
    by_own_family (λ F. slot_0 F a.key) a.tabulation.now a.words.now h.slots h.station c.first_slot-first.ensures in
    rw (first_is) at c.in_slot.ensures in
    let a = c.args in found_second a.tabulation.now a.words.now a.key (sym (first-test) ∙ c.if-in_slot.false) (sym (second-test) ∙ c.if-in_slot-2.true) (rw (second_is) at c.slot_tier-then-in_slot-2.ensures)

pub returns : goal.returns
returns c =
    let second-test : let a = c.args in c.in_slot-2.result ≡ eqb a.key (slot_entry a.words.now (slot_1 (family_of a.tabulation.now a.words.now) a.key)).key = let second_is : let a = c.args in c.second_slot-second.result ≡ slot_1 (family_of a.tabulation.now a.words.now) a.key = let a = c.args in
    let h = same_header c.read_header-header.ensures in
    by_own_family (λ F. slot_1 F a.key) a.tabulation.now a.words.now h.slots h.station c.second_slot-second.ensures in
    rw (second_is) at c.in_slot-2.ensures in
    let first-test : let a = c.args in c.in_slot.result ≡ eqb a.key (slot_entry a.words.now (slot_0 (family_of a.tabulation.now a.words.now) a.key)).key = let first_is : let a = c.args in c.first_slot-first.result ≡ slot_0 (family_of a.tabulation.now a.words.now) a.key = let a = c.args in
    let h = same_header c.read_header-header.ensures in
    by_own_family (λ F. slot_0 F a.key) a.tabulation.now a.words.now h.slots h.station c.first_slot-first.ensures in
    rw (first_is) at c.in_slot.ensures in
    let a = c.args in
    found_neither a.tabulation.now a.words.now a.key (sym (first-test) ∙ c.if-in_slot.false) (sym (second-test) ∙ c.if-in_slot-2.false)
