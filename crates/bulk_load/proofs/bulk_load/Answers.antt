-- `bulk_load::bulk_load` meets its contract: what `load_words` answers and leaves, and cleared scratch.
use mathlib.Core.Path.{sym, ◌∙◌}
use Rattle.outcome.proofs.Laws.{outcome_of}
use Rattle.bulk.proofs.Laws.{bulk_scratch}
use Rattle.bulk_load.proofs.bulk_load.Goals as goal

pub returns : goal.returns
returns c =
    let e = c.load_words-answer.ensures in
    outcome_of e.0 e.1
    ((rw c.load_words-answer.auto.scratch at c.clear.ensures) ∙ sym (bulk_scratch _ _ _ _))
