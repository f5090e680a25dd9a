-- `rows::put_lookup` meets its contract: a row for each answer.
use Rattle.grammar.specs.Row.{lookup_row}
use Rattle.rows.proofs.put_lookup.Goals as goal

pub returns-in-Err : goal.returns-in-Err
unfolding lookup_row
returns-in-Err c =
    rw c.in-Err.is (record { written = c.put_refused.ensures.written; short = c.put_refused.ensures.short })
