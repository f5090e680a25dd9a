-- `dictionary::update` meets its contract: what `change_words` answers and leaves, and cleared scratch.
use mathlib.Core.Path.{sym, ◌∙◌}
use Rattle.outcome.proofs.Laws.{outcome_of, change_scratch}
use borrow.Author.Rules.{rules}
use Rattle.dictionary.proofs.update.Goals as goal

pub returns : goal.returns
returns c =
    let e = c.change_words-answer.ensures in
    outcome_of e.0 e.1
    ((rw c.change_words-answer.auto.scratch at c.clear.ensures)
    ∙ sym (change_scratch _ _ _ c.args.kind c.args.key))
