use Rattle.std.proofs.Common.{◌≡◌, ◌+◌, ◌-◌, refl, sym, ◌∙◌, ap, arith, rules, length, get_or, set, length-set, length-take, eqb-true}
use Rattle.std.proofs.lemmas.Bool.{eqb-false}
use Rattle.ordered.proofs.Distinct.{distinct_none, keeping_step, keeping_last}
use Rattle.ordered.specs.Distinct.{keeping}
use Rattle.ordered.proofs.drop_doubles.Goals as goal

pub returns-then-is_empty : goal.returns-then-is_empty
returns-then-is_empty c =
    let none : length c.args.keys.now ≡ 0 = eqb-true _ _ (sym c.is_empty.ensures ∙ c.if-is_empty.true) in
    let e = distinct_none c.args.keys.now none in
    record { front = sym e; counted = sym (ap length e) }

pub loop-i-init : goal.loop-i-init
unfolding keeping
loop-i-init c = (search rules, refl)

pub loop-i-preserved : goal.loop-i-preserved
loop-i-preserved c =
    let l = c.loop-i in
    (search rules, rw c.differs-n.ensures.0 (l.invariant.1 ∙ keeping_step l.keys l.n l.i (omega arith) (omega arith)))

pub returns : goal.returns
returns c =
    let l = c.loop-i in
    let last = length c.args.keys.now - 1 in
    let some : length c.args.keys.now ≡ 0 → ⊥ = eqb-false _ _ (sym c.is_empty.ensures ∙ c.if-is_empty.false) in
    let at : l.i ≡ last = omega arith in
    let e = rw at at l.invariant.1 ∙ keeping_last l.keys l.n last (omega arith) (omega arith) in
    let s = set l.keys l.n (get_or l.keys last 0) in
    record {
      front = sym e;
      counted = omega (arith, ap length e, length-take (l.n + 1) s, length-set l.keys l.n (get_or l.keys last 0));
    }
