-- `salvage::salvage_words` meets its contract: 1 to 3, then what counts decides.
use Rattle.std.proofs.Common.{refl, arith}
use Rattle.refusals.proofs.Answer.{passed_on}
use Rattle.layout.proofs.Shape.{shape}
use Rattle.salvage.specs.Salvaging.{told_early, early_salvable, told_set}
use Rattle.salvage.proofs.salvage_words.Goals as goal

pub returns-in_err-area_refusal : goal.returns-in_err-area_refusal
returns-in_err-area_refusal c =
    let e = c.in_err-area_refusal.field-0.0 in
    rw (passed_on c.from_residual.result e c.from_residual.ensures.1)
    (told_early _ _ _ _ e c.in_err-area_refusal.ensures)

pub read_header-header-requires : goal.read_header-header-requires
read_header-header-requires c =
    omega (arith, shape _ (early_salvable _ _ c.args.target.now c.args.scratch.now c.in_ok-area_refusal.ensures refl).shape)

pub salvage_set-requires : goal.salvage_set-requires
salvage_set-requires c =
    (early_salvable _ _ _ _ c.in_ok-area_refusal.ensures refl, c.read_header-header.ensures)

pub returns : goal.returns
returns c =
    told_set _ _ _ _ (early_salvable _ _ c.args.target.now c.args.scratch.now c.in_ok-area_refusal.ensures refl)
    c.salvage_set.ensures
