-- `rows::put_refused` meets its contract: the row field by field.
use Rattle.writing.specs.Written.{◌then◌}
use Rattle.grammar.specs.Row.{lookup_row}
use borrow.Author.Rules.{rules}
use Rattle.rows.proofs.put_refused.Goals as goal

pub returns : goal.returns
unfolding lookup_row
returns c =
    record {
      written = c.put_byte-second.ensures then c.put_field-third.ensures.written then c.put_byte-letter.ensures then c.put_byte-number.ensures then c.put_word-end.ensures.written then c.put_byte.ensures;
      short = search rules;
    }
