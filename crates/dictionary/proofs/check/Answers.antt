-- `dictionary::check` meets its contract: what load answers, and cleared scratch.
use Rattle.std.proofs.Common.{sym, ◌∙◌}
use Rattle.refusals.proofs.Answer.{passed_on}
use Rattle.outcome.proofs.Laws.{outcome_of, check_answer, check_words, check_scratch}
use borrow.Author.Rules.{rules}
use Rattle.dictionary.proofs.check.Goals as goal

pub returns-in_err-loaded : goal.returns-in_err-loaded
returns-in_err-loaded c =
    let e = c.in_err-loaded.field-0.0 in
    rw (passed_on c.from_residual.result e c.from_residual.ensures.1)
    (outcome_of (c.in_err-loaded.ensures.numbered ∙ sym (check_answer _ _ _)) (sym (check_words _ _ _))
    ((rw c.load-loaded.auto.scratch at c.clear.ensures) ∙ sym (check_scratch _ _ _)))

pub returns : goal.returns
returns c =
    outcome_of (c.in_ok-loaded.ensures.numbered ∙ sym (check_answer _ _ _)) (sym (check_words _ _ _))
    ((rw c.load-loaded.auto.scratch at c.clear.ensures) ∙ sym (check_scratch _ _ _))
