-- `rows::put_no_book` meets its contract.
use Rattle.writing.specs.Written.{◌then◌}
use Rattle.grammar.specs.Row.{book_row}
use borrow.Author.Rules.{rules}
use Rattle.rows.proofs.put_no_book.Goals as goal

pub returns : goal.returns
unfolding book_row
returns c =
    record {
      written = c.put_byte-end.ensures then c.put_byte.ensures;
      short = search rules;
    }
