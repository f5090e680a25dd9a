-- `bulk_load::load_words` meets its contract: 1 to 3, then what is refused of the input, then what the set decides.
use Rattle.std.proofs.Common.{refl}
use Rattle.refusals.proofs.Answer.{passed_on, refused}
use Rattle.bulk_load.specs.Loading.{loaded_early, early_layable, loaded_input, input_sound, loaded_set}
use Rattle.bulk_load.proofs.load_words.Goals as goal

pub returns-in_err-target_refusal : goal.returns-in_err-target_refusal
returns-in_err-target_refusal c =
    let e = c.in_err-target_refusal.field-0.0 in
    rw (passed_on c.from_residual.result e c.from_residual.ensures.1)
    (loaded_early _ _ _ _ c.in_err-target_refusal.ensures (refused e))

pub returns-in_err-refusal : goal.returns-in_err-refusal
returns-in_err-refusal c =
    let e = c.in_err-refusal.field-0.0 in
    rw (passed_on c.from_residual-in_err-refusal.result e c.from_residual-in_err-refusal.ensures.1)
    (loaded_input _ _ _ _ c.in_ok-target_refusal.ensures refl c.in_err-refusal.ensures (refused e))

pub load_set-requires : goal.load_set-requires
load_set-requires c =
    let a = c.args in (
      early_layable _ a.input.now a.words.now a.scratch.now c.in_ok-target_refusal.ensures refl,
      input_sound a.input.now c.in_ok-refusal.ensures refl,
    )

pub returns : goal.returns
returns c = loaded_set _ _ _ _ c.in_ok-target_refusal.ensures refl c.in_ok-refusal.ensures refl c.load_set.ensures
