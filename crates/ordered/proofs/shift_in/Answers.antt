use Rattle.std.proofs.Common.{sym, ◌∙◌, arith, rules}
use Rattle.ordered.proofs.Shift.{shifted_in_step, shifted_in_last}
use Rattle.ordered.proofs.shift_in.Goals as goal

pub loop-i-preserved : goal.loop-i-preserved
loop-i-preserved c =
    let l = c.loop-i in
    let r = c.replace-carry.ensures in
    (search rules, rw (r.after, r.value) (l.invariant.1 ∙ shifted_in_step l.words l.i c.args.n l.carry (omega arith) (omega arith)))

pub returns : goal.returns
returns c =
    let l = c.loop-i in
    sym (l.invariant.1 ∙ shifted_in_last l.words l.i c.args.n l.carry (omega arith) (omega arith))
