use Rattle.std.proofs.Common.{◌≡◌, ◌+◌, ◌-◌, ◌∙◌, refl, arith}
use Rattle.records.specs.Columns.{picked, left_next}
use Rattle.collect.specs.Collect.{non_blank, gathering, gathering_step, gathering_end, gathered_ends}
use Rattle.collect.proofs.gather.Goals as goal

pub loop-init : goal.loop-init
loop-init c = let e : c.args.count - 0 ≡ c.args.count = omega arith in rw e (omega arith, omega arith, refl)

pub bounds-words-at : goal.bounds-words-at
bounds-words-at c =
    let e = left_next c.args.step (c.args.count - c.loop.counter) (omega arith) in
    omega arith

pub overflow_add-at : goal.overflow_add-at
overflow_add-at c =
    let e = left_next c.args.step (c.args.count - c.loop.counter) (omega arith) in
    omega arith

pub loop-preserved : goal.loop-preserved
loop-preserved c =
    let a = c.args in
    let l = c.loop in
    let left = a.count - l.counter in
    let e = left_next a.step left (omega arith) in
    let next : a.count - (l.counter + 1) ≡ left - 1 = omega arith in
    rw next (
      omega arith,
      omega arith,
      rw c.keeps-end.ensures.0 (l.invariant.2 ∙ gathering_step a.words.now a.step l.at left (omega arith) l.scratch l.end (omega arith)),
    )

pub returns : goal.returns
unfolding gathering
returns c =
    let a = c.args in
    let l = c.loop in
    let e = l.invariant.2 ∙ gathering_end a.words.now a.step l.scratch l.end l.at (a.count - l.counter) (omega arith) in
    let xs = non_blank (picked a.words.now a.from a.step a.count) in
    let all = gathered_ends a.scratch.now l.scratch xs e (omega arith) (omega arith) in record { front = all.0; counted = all.1 }
