use Rattle.std.proofs.Common.{◌≡◌, ◌+◌, ◌-◌, ◌∙◌, refl, sym, arith, length}
use Rattle.probe.specs.Turns.{carry_end, carry_swap, carry_on, carry_round}
use Rattle.probe.proofs.carry.Goals as goal

pub loop-init : goal.loop-init
loop-init c = let e : length c.args.words.now - 0 ≡ length c.args.words.now = omega arith in rw e (omega arith, refl)

pub returns-then-word-eq0 : goal.returns-then-word-eq0
returns-then-word-eq0 c =
    let l = c.loop in
    sym (l.invariant.1 ∙ carry_end _ (length c.args.words.now - l.counter) l.words l.carried l.slot (omega arith) c.if-word-eq0.true)

pub loop-preserved : goal.loop-preserved
loop-preserved c =
    let l = c.loop in
    let m = length c.args.words.now in
    let left = m - l.counter in
    let next : m - (l.counter + 1) ≡ left - 1 = omega arith in
    let n = c.next_slot-slot.ensures in
    elim c.if-carried-word.branch [
      | goal.then-carried-word w ↦ (
        n.inside,
        l.invariant.1 ∙ rw (n.at, next, w.words-is, w.carried-is) (carry_swap _ left l.words l.carried l.slot (omega arith) w.if-carried-word.true),
      )
      | goal.else-carried-word w ↦ (
        n.inside,
        l.invariant.1
            ∙ rw (n.at, next, w.words-is, w.carried-is) (carry_on _ left l.words l.carried l.slot (omega arith) c.if-word-eq0.false w.if-carried-word.false),
      )
    ]

pub returns : goal.returns
returns c =
    let l = c.loop in
    sym (l.invariant.1 ∙ carry_round _ (length c.args.words.now - l.counter) l.words l.carried l.slot (omega arith))
