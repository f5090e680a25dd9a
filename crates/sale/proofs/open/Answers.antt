-- `sale::open` meets its contract: what lookup found decides.
use Rattle.std.proofs.Common.{ap, sym, ◌∙◌}
use Rattle.refusals.proofs.Answer.{passed_on}
use Rattle.layout.specs.Answers.{found}
use Rattle.sale.specs.Priced.{refused_answers, absent_answers, listed_answers}
use Rattle.sale.proofs.open.Goals as goal

pub returns-in_err-tier : goal.returns-in_err-tier
returns-in_err-tier c =
    let looked = c.in_err-tier.ensures in
    let all = refused_answers _ _ _ _ _ looked.numbered looked.valued in
    rw (passed_on c.from_residual.result c.in_err-tier.field-0.0 c.from_residual.ensures.1) (
    record { numbered = all.0; valued = all.1 })

pub returns-in_default : goal.returns-in_default
returns-in_default c =
    let all = absent_answers _ _ _ _ _ (sym (ap found c.in_default.is) ∙ c.in_ok-tier.ensures.valued) in
    record { numbered = all.0; valued = all.1 }

pub returns : goal.returns
returns c =
    let all = listed_answers _ _ _ _ _ (sym (ap found c.in-Some.is) ∙ c.in_ok-tier.ensures.valued)
    c.open_at.ensures.numbered c.open_at.ensures.valued in
    record { numbered = all.0; valued = all.1 }
