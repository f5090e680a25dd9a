-- `trail::seat_of` meets its contract.
use mathlib.Core.Path.{refl}
use Rattle.trail.specs.Traced.{slot_readable, first_lt, seat_first, seat_second}
use borrow.Author.Rules.{rules}
use Rattle.trail.proofs.seat_of.Goals as goal

pub key_in-requires : goal.key_in-requires
key_in-requires c =
    let p = c.requires in
    slot_readable p (first_lt p c.args.key c.first_slot-first.ensures refl)

pub returns-then-key_in-key : goal.returns-then-key_in-key
returns-then-key_in-key c =
    seat_first c.requires c.args.key c.first_slot-first.ensures c.key_in.ensures c.if-key_in-key.true

pub returns : goal.returns
returns c =
    seat_second c.requires c.args.key c.first_slot-first.ensures c.key_in.ensures c.if-key_in-key.false
    c.second_slot.ensures
