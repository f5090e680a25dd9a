-- `gateway::load` meets its contract: 1 to 3, then whether the words are the image of their keys.
use Rattle.std.proofs.Common.{arith, refl}
use Rattle.refusals.proofs.Answer.{passed_on}
use Rattle.layout.proofs.Shape.{shape}
use Rattle.gateway.specs.Loading.{early_ready, told_early, told_tampered, told_set}
use borrow.Author.Rules.{rules}
use Rattle.gateway.proofs.load.Goals as goal

pub returns-in_err-early : goal.returns-in_err-early
returns-in_err-early c =
    let a = c.args in
    let e = c.in_err-early.field-0.0 in
    let told = told_early a.tabulation.now a.words.now a.scratch.now e a.scratch.now c.in_err-early.ensures in
    rw (passed_on c.from_residual.result e c.from_residual.ensures.1) (
    record { numbered = told.0; valued = told.1.0; stands = told.1.1 })

pub read_header-header-requires : goal.read_header-header-requires
read_header-header-requires c = omega (arith, shape _ (early_ready _ _ _ c.in_ok-early.ensures refl).shape)

pub is_image-requires : goal.is_image-requires
is_image-requires c = (early_ready _ _ _ c.in_ok-early.ensures refl, c.read_header-header.ensures)

pub returns-then-not-is_image : goal.returns-then-not-is_image
returns-then-not-is_image c =
    let told = told_tampered _ _ _ (early_ready _ _ _ c.in_ok-early.ensures refl) c.is_image.ensures.0 c.is_image.new.scratch
    c.if-not-is_image.true in
    record { numbered = told.0; valued = told.1.0; stands = told.1.1 }

pub returns : goal.returns
returns c =
    let told = told_set _ _ _ (early_ready _ _ _ c.in_ok-early.ensures refl) c.is_image.ensures.0 c.if-not-is_image.false
    c.read_header-header.ensures c.is_image.auto.scratch c.is_image.ensures.1 in
    record { numbered = told.0; valued = told.1.0; stands = told.1.1 }
