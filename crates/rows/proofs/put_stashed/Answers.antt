-- `rows::put_stashed` meets its contract.
use Rattle.grammar.specs.Row.{stash_row}
use Rattle.rows.proofs.put_stashed.Goals as goal

pub returns : goal.returns
unfolding stash_row
returns c = record { written = c.put_answer.ensures.written; short = c.put_answer.ensures.short }
