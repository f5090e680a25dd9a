-- `rows::put_insert` meets its contract: the row field by field.
use Rattle.writing.specs.Written.{◌then◌}
use Rattle.grammar.specs.Row.{insert_row}
use borrow.Author.Rules.{rules}
use Rattle.rows.proofs.put_insert.Goals as goal

pub returns : goal.returns
unfolding insert_row
returns c =
    record {
      written = c.put_byte-second.ensures then c.put_field-third.ensures.written then c.put_field-fourth.ensures.written then c.put_field-end.ensures.written then c.put_byte.ensures;
      short = search rules;
    }
