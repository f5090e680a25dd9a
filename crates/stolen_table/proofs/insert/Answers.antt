-- `stolen_table::insert` meets its contract: a slot is empty exactly where the one that no key passes is; past the
-- refusals the key is carried to its slot.
use Rattle.std.proofs.Common.{arith}
use Rattle.stolen.specs.Answers.{stolen_insert_refusal, stolen_insert_words}
use Rattle.stolen_table.specs.Decided.{found_member, shaped_hashing, carried, room_at, no_room_at}
use Rattle.stolen_table.proofs.insert.Goals as goal

pub returns-then-words-base-ne0-clause-numbered : goal.returns-then-words-base-ne0-clause-numbered
unfolding stolen_insert_refusal
returns-then-words-base-ne0-clause-numbered c =
    let full = no_room_at c.args.words.now c.barrier-base.result c.barrier-base.ensures.unpassed c.if-words-base-ne0.true in
    grind (arith, found_member, shaped_hashing)

pub returns-then-words-base-ne0-clause-laid : goal.returns-then-words-base-ne0-clause-laid
unfolding stolen_insert_refusal stolen_insert_words
returns-then-words-base-ne0-clause-laid c =
    let full = no_room_at c.args.words.now c.barrier-base.result c.barrier-base.ensures.unpassed c.if-words-base-ne0.true in
    grind (arith, found_member, shaped_hashing)

pub returns-clause-numbered : goal.returns-clause-numbered
unfolding stolen_insert_refusal
returns-clause-numbered c =
    let room = room_at c.args.words.now c.barrier-base.result c.barrier-base.ensures.inside c.if-words-base-ne0.false in
    grind (arith, found_member, shaped_hashing)

pub returns-clause-laid : goal.returns-clause-laid
unfolding stolen_insert_refusal stolen_insert_words
returns-clause-laid c =
    let room = room_at c.args.words.now c.barrier-base.result c.barrier-base.ensures.inside c.if-words-base-ne0.false in
    grind (arith, found_member, shaped_hashing, carried)
