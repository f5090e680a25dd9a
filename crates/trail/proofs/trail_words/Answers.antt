-- `trail::trail_words` meets its contract: 1 to 4, as load refuses, or what the set that was loaded leads to.
use Rattle.refusals.proofs.Answer.{passed_on}
use Rattle.gateway.specs.Loading.{loaded_set}
use Rattle.trail.specs.Traced.{told_load, told_set}
use borrow.Author.Rules.{rules}
use Rattle.trail.proofs.trail_words.Goals as goal

pub returns-in_err-heading : goal.returns-in_err-heading
returns-in_err-heading c =
    let told = c.load.ensures in
    let e = c.in_err-heading.field-0.0 in
    rw (passed_on c.from_residual.result e c.from_residual.ensures.1)
    (told_load _ _ _ _ _ (told.numbered, (told.valued, told.stands)) c.in_err-heading.was)

pub trace_listed-requires : goal.trace_listed-requires
trace_listed-requires c =
    let a = c.args in
    let told = c.load.ensures in
    loaded_set a.tabulation.now a.words.now a.scratch.now (told.numbered, (told.valued, told.stands)) c.in_ok-heading.was

pub returns : goal.returns
returns c =
    let told = c.load.ensures in
    told_set _ _ _ _ _ (told.numbered, (told.valued, told.stands)) c.in_ok-heading.was c.trace_listed.ensures
