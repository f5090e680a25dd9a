-- `dictionary::insert_key` meets its contract: the tier is too large, another issue or the key is there, there is no
-- room for a further key, or the set with it is
-- committed.
use Prim.Native.Nat.{◌+◌, ◌*◌, ◌≤◌, ◌<◌}
use native.Mathlib.Omega.{arith}
use lib.ListN.{length}
use Rattle.hashing.specs.Hash.{Hashing}
use Rattle.layout.specs.Entries.{max_tier}
use Rattle.build.specs.Scratch.{used}
use Rattle.dictionary.specs.Core.{searchable, in_range, at_le, at_lt, placed}
use Rattle.dictionary.specs.Core.{insert_large, insert_issue, insert_other, insert_present, insert_crowded}
use Rattle.dictionary.specs.Core.{insert_committable, insert_committed}
use borrow.Author.Rules.{rules}
use Rattle.dictionary.proofs.insert_key.Goals as goal

pub returns-then-tier-gt-MAX_TIER : goal.returns-then-tier-gt-MAX_TIER
returns-then-tier-gt-MAX_TIER c = insert_large c.requires c.if-tier-gt-MAX_TIER.true

pub place_of-at-requires : goal.place_of-at-requires
place_of-at-requires c = searchable c.requires

pub other_issue-requires : goal.other_issue-requires
other_issue-requires c = placed c.requires c.place_of-at.ensures

pub returns-then-other_issue : goal.returns-then-other_issue
returns-then-other_issue c =
    let small : c.args.tier ≤ max_tier = let l = c.if-tier-gt-MAX_TIER.false in omega arith in
    insert_issue c.requires c.place_of-at.ensures c.other_issue.ensures c.if-other_issue.true (small)

pub is_at-requires : goal.is_at-requires
is_at-requires c = (searchable c.requires, c.place_of-at.ensures)

pub tier_at-requires : goal.tier_at-requires
tier_at-requires c =
    let ranges : let a = c.args in let h = a.heading in Hashing a.tabulation.now h.slots h.station × ((h.places ≤ 64) × ((a.n ≤ 2 * h.slots + h.places) × (used h.slots h.places ≤ length a.scratch.now))) = in_range c.requires in
    let b = ranges in
    let l = at_lt c.requires c.place_of-at.ensures c.is_at.ensures c.if-is_at.true in
    ((b.0.slots_bound, b.1.0), omega arith)

pub returns-then-tier_at-tier : goal.returns-then-tier_at-tier
returns-then-tier_at-tier c =
    let small : c.args.tier ≤ max_tier = let l = c.if-tier-gt-MAX_TIER.false in omega arith in
    insert_other c.requires c.place_of-at.ensures c.is_at.ensures c.if-is_at.true
    c.tier_at.ensures (small) (λ q. c.if-tier_at-tier.true q)

pub returns-then-is_at : goal.returns-then-is_at
returns-then-is_at c =
    let small : c.args.tier ≤ max_tier = let l = c.if-tier-gt-MAX_TIER.false in omega arith in
    insert_present c.requires c.place_of-at.ensures c.is_at.ensures c.if-is_at.true
    c.tier_at.ensures (small) c.if-tier_at-tier.false

pub overflow_mul-r : goal.overflow_mul-r
overflow_mul-r c =
    let ranges : let a = c.args in let h = a.heading in Hashing a.tabulation.now h.slots h.station × ((h.places ≤ 64) × ((a.n ≤ 2 * h.slots + h.places) × (used h.slots h.places ≤ length a.scratch.now))) = in_range c.requires in
    omega (arith, ranges)

pub overflow_add-r : goal.overflow_add-r
overflow_add-r c =
    let ranges : let a = c.args in let h = a.heading in Hashing a.tabulation.now h.slots h.station × ((h.places ≤ 64) × ((a.n ≤ 2 * h.slots + h.places) × (used h.slots h.places ≤ length a.scratch.now))) = in_range c.requires in
    omega (arith, ranges)

pub returns-then-wide-n : goal.returns-then-wide-n
returns-then-wide-n c =
    let small : c.args.tier ≤ max_tier = let l = c.if-tier-gt-MAX_TIER.false in omega arith in
    let w = c.wide.ensures in
    let l = c.if-wide-n.true in
    insert_crowded c.requires c.place_of-at.ensures c.is_at.ensures c.if-is_at.false
    c.other_issue.ensures
    c.if-other_issue.false (small) (omega arith)

pub put_key-requires : goal.put_key-requires
put_key-requires c =
    let few : let a = c.args in a.n < 2 * a.heading.slots + a.heading.places = let w = c.wide.ensures in
    let l = c.if-wide-n.false in
    omega arith in
    let ranges : let a = c.args in let h = a.heading in Hashing a.tabulation.now h.slots h.station × ((h.places ≤ 64) × ((a.n ≤ 2 * h.slots + h.places) × (used h.slots h.places ≤ length a.scratch.now))) = in_range c.requires in
    let small : c.args.tier ≤ max_tier = let l = c.if-tier-gt-MAX_TIER.false in omega arith in
    let b = ranges in (
      ((b.0, omega (arith, small)), b.1.0),
      (at_le c.requires c.place_of-at.ensures, (few, b.1.1.1)),
    )

pub overflow_add-heading : goal.overflow_add-heading
overflow_add-heading c =
    let few : let a = c.args in a.n < 2 * a.heading.slots + a.heading.places = let w = c.wide.ensures in
    let l = c.if-wide-n.false in
    omega arith in
    let ranges : let a = c.args in let h = a.heading in Hashing a.tabulation.now h.slots h.station × ((h.places ≤ 64) × ((a.n ≤ 2 * h.slots + h.places) × (used h.slots h.places ≤ length a.scratch.now))) = in_range c.requires in
    omega (arith, few, ranges, c.requires.count)

pub commit-requires : goal.commit-requires
commit-requires c =
    let few : let a = c.args in a.n < 2 * a.heading.slots + a.heading.places = let w = c.wide.ensures in
    let l = c.if-wide-n.false in
    omega arith in
    let small : c.args.tier ≤ max_tier = let l = c.if-tier-gt-MAX_TIER.false in omega arith in
    rw c.with_keys-next.ensures
    (insert_committable c.requires c.place_of-at.ensures c.is_at.ensures c.if-is_at.false
    c.other_issue.ensures
    c.if-other_issue.false (small) (few) c.put_key.ensures c.put_key.auto.scratch)

pub returns : goal.returns
returns c =
    let few : let a = c.args in a.n < 2 * a.heading.slots + a.heading.places = let w = c.wide.ensures in
    let l = c.if-wide-n.false in
    omega arith in
    let small : c.args.tier ≤ max_tier = let l = c.if-tier-gt-MAX_TIER.false in omega arith in
    insert_committed c.requires c.place_of-at.ensures c.is_at.ensures c.if-is_at.false
    c.other_issue.ensures
    c.if-other_issue.false (small) (few) c.put_key.ensures c.put_key.auto.scratch
    (rw c.with_keys-next.ensures at c.commit.ensures)
