use Rattle.std.proofs.Common.{rules, sym, ◌∙◌}
use Rattle.sale.specs.Priced.{all_none, all_stops, all_goes}
use Rattle.sale.proofs.are_steps.Goals as goal

pub returns-then-not-is_step : goal.returns-then-not-is_step
returns-then-not-is_step c =
    all_stops c.args.steps.now c.loop-i.i c.loop-i-test.true c.loop-i.invariant (search rules)
    c.is_step.ensures c.if-not-is_step.true

pub loop-i-preserved : goal.loop-i-preserved
loop-i-preserved c =
    all_goes c.args.steps.now c.loop-i.i c.loop-i-test.true c.loop-i.invariant (search rules)
    c.is_step.ensures c.if-not-is_step.false

pub returns : goal.returns
returns c = sym (c.loop-i.invariant ∙ all_none c.args.steps.now c.loop-i.i c.loop-i-test.false)
