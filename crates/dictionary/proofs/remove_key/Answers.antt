-- `dictionary::remove_key` meets its contract: the key is not in the set, or the set without it is committed.
use native.Mathlib.Omega.{arith}
use mathlib.Core.Path.{◌≡◌, refl, ap}
use mathlib.Core.Bool.{true}
use mathlib.Core.Logic.{inl, inr}
use denote.Enum.Declared.{tag_of}
use Rattle.basics.specs.Sets.{member}
use Rattle.scratch_set.specs.Members.{keys_at, looked_listed, looked_absent}
use Rattle.dictionary.specs.Core.{searchable, in_range, at_lt, remove_absent, remove_committable}
use Rattle.dictionary.specs.Core.{remove_committed}
use borrow.Author.Rules.{rules}
use Rattle.dictionary.proofs.remove_key.Goals as goal

pub place_of-at-requires : goal.place_of-at-requires
place_of-at-requires c = searchable c.requires

pub look-requires : goal.look-requires
look-requires c =
    let b = in_range c.requires in
    ((searchable c.requires, c.place_of-at.ensures), ((b.0.slots_bound, b.1.0), omega (arith, b.1.1)))

pub returns-in_default : goal.returns-in_default
returns-in_default c =
    let a = c.args in
    remove_absent c.requires c.place_of-at.ensures refl
    (looked_absent a.heading.slots a.heading.places a.n c.place_of-at.result a.key a.scratch.now
    c.look.result c.look.ensures
    c.in_default.not-Some)

pub take_key-requires : goal.take_key-requires
take_key-requires c =
    let here : let a = c.args in member a.key (keys_at a.n a.scratch.now) ≡ true = let a = c.args in
    looked_listed a.heading.slots a.heading.places a.n c.place_of-at.result a.key a.scratch.now
    c.look.result c.look.ensures
    c.in-Some.is in
    let b = in_range c.requires in
    ((b.0.slots_bound, b.1.0), (at_lt c.requires c.place_of-at.ensures refl (here), b.1.1))

pub overflow_sub-heading : goal.overflow_sub-heading
overflow_sub-heading c =
    let here : let a = c.args in member a.key (keys_at a.n a.scratch.now) ≡ true = let a = c.args in
    looked_listed a.heading.slots a.heading.places a.n c.place_of-at.result a.key a.scratch.now
    c.look.result c.look.ensures
    c.in-Some.is in
    omega (arith, at_lt c.requires c.place_of-at.ensures refl (here), c.requires.count)

pub commit-requires : goal.commit-requires
commit-requires c =
    let here : let a = c.args in member a.key (keys_at a.n a.scratch.now) ≡ true = let a = c.args in
    looked_listed a.heading.slots a.heading.places a.n c.place_of-at.result a.key a.scratch.now
    c.look.result c.look.ensures
    c.in-Some.is in
    rw c.with_keys-next.ensures
    (remove_committable c.requires c.place_of-at.ensures refl (here) c.take_key.ensures
    c.take_key.auto.scratch)

pub returns : goal.returns
returns c =
    let here : let a = c.args in member a.key (keys_at a.n a.scratch.now) ≡ true = let a = c.args in
    looked_listed a.heading.slots a.heading.places a.n c.place_of-at.result a.key a.scratch.now
    c.look.result c.look.ensures
    c.in-Some.is in
    remove_committed c.requires c.place_of-at.ensures refl (here) c.take_key.ensures c.take_key.auto.scratch
    (rw c.with_keys-next.ensures at c.commit.ensures)
