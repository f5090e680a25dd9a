-- `sale::price_for` meets its contract: base, number of steps and all steps are tested, then the tier's step is added.
use Rattle.std.proofs.Common.{rules, sym, ◌∙◌}
use Rattle.sale.specs.Priced.{no_base, no_eight, no_step, step_ready, priced}
use Rattle.sale.proofs.price_for.Goals as goal
use Rattle.sale.proofs.price_for.Goals.{then-not-is_base-via-then-not-is_base}
use Rattle.sale.proofs.price_for.Goals.{then-not-is_base-via-else-not-is_base+then-steps-ne-STEPS}
use Rattle.sale.proofs.price_for.Goals.{then-not-is_base-via-else-not-is_base+else-steps-ne-STEPS+then-not-are_steps}

pub returns-then-not-is_base : goal.returns-then-not-is_base
returns-then-not-is_base c = elim c.then-not-is_base.branch [
  | then-not-is_base-via-then-not-is_base w ↦ no_base _ _ _ (sym c.is_base.ensures ∙ w.if-not-is_base.true)
  | then-not-is_base-via-else-not-is_base+then-steps-ne-STEPS w ↦ no_eight _ _ _ w.if-steps-ne-STEPS.true
  | then-not-is_base-via-else-not-is_base+else-steps-ne-STEPS+then-not-are_steps w ↦
      no_step _ _ _ (sym w.are_steps.ensures ∙ w.if-not-are_steps.true)
]

pub litre_price-requires : goal.litre_price-requires
litre_price-requires c =
    let based = sym c.is_base.ensures ∙ c.if-not-is_base.false in (
      based,
      step_ready c.args.base c.args.steps.now c.args.tier based c.if-steps-ne-STEPS.false
          (sym c.are_steps.ensures ∙ c.if-not-are_steps.false) c.requires c.wide.result c.wide.ensures (search rules),
    )

pub returns : goal.returns
returns c =
    priced c.args.base c.args.steps.now c.args.tier (sym c.is_base.ensures ∙ c.if-not-is_base.false)
    c.if-steps-ne-STEPS.false (sym c.are_steps.ensures ∙ c.if-not-are_steps.false) c.requires c.wide.result c.wide.ensures (search rules)
    c.litre_price.ensures
