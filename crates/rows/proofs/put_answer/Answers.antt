-- `rows::put_answer` meets its contract: the row field by field.
use Rattle.writing.specs.Written.{◌then◌}
use borrow.Author.Rules.{rules}
use Rattle.rows.proofs.put_answer.Goals as goal

pub returns : goal.returns
returns c =
    record {
      written = c.put_byte-second.ensures then c.put_field-third.ensures.written then c.put_field-end.ensures.written then c.put_byte.ensures;
      short = search rules;
    }
