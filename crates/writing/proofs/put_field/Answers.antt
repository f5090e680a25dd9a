-- `writing::put_field` meets its contract: a comma, then the number.
use Rattle.writing.specs.Written.{◌then◌}
use borrow.Author.Rules.{rules}
use Rattle.writing.proofs.put_field.Goals as goal

pub returns : goal.returns
returns c =
    record {
      written = c.put_byte-start.ensures then c.put_word.ensures.written;
      short = search rules;
    }
