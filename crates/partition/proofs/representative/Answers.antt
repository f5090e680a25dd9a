use Rattle.std.proofs.Common.{◌≡◌, ◌∙◌, sym, ◌+◌, ◌-◌, arith, rules}
use Rattle.partition.specs.Words.{rep_of, max_steps}
use Rattle.partition.proofs.Words.{walk_none, walk_stop, walk_step}
use Rattle.partition.proofs.representative.Goals as goal

pub returns-then-n-word : goal.returns-then-n-word
unfolding rep_of
returns-then-n-word c =
    let l = c.loop in
    sym (l.invariant.1 ∙ walk_stop c.args.words.now (max_steps - l.counter) l.v (omega arith))

pub loop-preserved : goal.loop-preserved
loop-preserved c =
    let l = c.loop in
    let e : max_steps - (l.counter + 1) ≡ max_steps - l.counter - 1 = omega arith in
    (search rules, l.invariant.1 ∙ rw e (walk_step c.args.words.now (max_steps - l.counter) l.v (omega arith) (omega arith)))

pub returns : goal.returns
unfolding rep_of
returns c =
    let l = c.loop in
    let z : max_steps - l.counter ≡ 0 = omega arith in
    sym (l.invariant.1 ∙ rw z (walk_none c.args.words.now l.v))
