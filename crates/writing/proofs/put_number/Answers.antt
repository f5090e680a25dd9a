use Rattle.grammar.specs.Decimal.{digit}
use Rattle.grammar.proofs.Decimal.{decimal_some}
use Prim.Native.Nat.{◌-◌, ◌%◌}
use mathlib.Core.Path.{◌∙◌}
use native.Mathlib.Omega.{arith}
use lib.ListN.{length-set}
use Rattle.writing.specs.Written.{to_come_step, to_come_last, written_come}
use Rattle.writing.proofs.put_number.Goals as goal

pub overflow_sub-i : goal.overflow_sub-i
overflow_sub-i c = omega (arith, decimal_some c.loop-rest.rest)

pub bounds-out-i : goal.bounds-out-i
bounds-out-i c = omega (arith, decimal_some c.loop-rest.rest)

pub loop-rest-preserved : goal.loop-rest-preserved
loop-rest-preserved c =
    let l = c.loop-rest in
    let a = c.args in
    let (e, f) = to_come_step l.out a.at l.i l.rest l.invariant.0 l.invariant.1 (omega arith) in
    let n = length-set l.out (l.i - 1) (digit (l.rest % 10)) in
    rw c.digit.ensures (f, omega (arith, n), n ∙ l.invariant.2, l.invariant.3 ∙ e)

pub overflow_sub-out : goal.overflow_sub-out
overflow_sub-out c = omega (arith, decimal_some c.loop-rest.rest)

pub bounds-out-i-2 : goal.bounds-out-i-2
bounds-out-i-2 c = omega (arith, decimal_some c.loop-rest.rest)

pub returns : goal.returns
returns c =
    let l = c.loop-rest in
    let a = c.args in
    let p = c.digits.ensures in
    let e = to_come_last l.out a.at l.i l.rest l.invariant.0 l.invariant.1 (omega arith) in
    rw c.digit-2.ensures (written_come a.out.now a.at a.n _ (l.invariant.3 ∙ e) (omega arith) c.requires)
