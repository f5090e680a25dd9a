-- `rows::put_error` meets its contract: the row field by field.
use Rattle.writing.specs.Written.{◌then◌}
use Rattle.grammar.specs.Row.{error_row}
use borrow.Author.Rules.{rules}
use Rattle.rows.proofs.put_error.Goals as goal

pub returns : goal.returns
unfolding error_row
returns c =
    record {
      written = c.put_byte-second.ensures then c.put_byte-number.ensures then c.put_long-end.ensures.written then c.put_byte.ensures;
      short = search rules;
    }
