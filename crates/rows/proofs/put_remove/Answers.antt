-- `rows::put_remove` meets its contract.
use Rattle.grammar.specs.Row.{remove_row}
use Rattle.rows.proofs.put_remove.Goals as goal

pub returns : goal.returns
unfolding remove_row
returns c = record { written = c.put_answer.ensures.written; short = c.put_answer.ensures.short }
