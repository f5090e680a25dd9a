-- `rows::put_slot` meets its contract: the row field by field.
use Rattle.writing.specs.Written.{◌then◌}
use Rattle.grammar.specs.Row.{slot_row}
use borrow.Author.Rules.{rules}
use Rattle.rows.proofs.put_slot.Goals as goal

pub returns : goal.returns
unfolding slot_row
returns c =
    record {
      written = c.put_byte-second.ensures then c.put_field-third.ensures.written then c.put_field-fourth.ensures.written then c.put_field-fifth.ensures.written then c.put_field-sixth.ensures.written then c.put_field-end.ensures.written then c.put_byte.ensures;
      short = search rules;
    }
