use Rattle.std.proofs.Common.{sym, ◌∙◌, arith, rules}
use Rattle.ordered.proofs.Shift.{shifted_out_step, shifted_out_last}
use Rattle.ordered.proofs.shift_out.Goals as goal

pub loop-i-preserved : goal.loop-i-preserved
loop-i-preserved c =
    let l = c.loop-i in
    (search rules, l.invariant.1 ∙ shifted_out_step l.words l.i c.args.n (omega arith) (omega arith))

pub returns : goal.returns
returns c =
    let l = c.loop-i in
    sym (l.invariant.1 ∙ shifted_out_last l.words l.i c.args.n (omega arith))
