use Rattle.std.proofs.Common.{◌≡◌, ◌+◌, ◌-◌, ◌∙◌, refl, sym, inl, inr, arith, length, get_or, eq-eqb, ne_eqb}
use Rattle.basics.proofs.Tests.{eq?}
use Rattle.probe.specs.Turns.{look_here, look_larger, look_empty, look_on, look_round}
use Rattle.probe.proofs.is_found.Goals as goal

pub loop-init : goal.loop-init
loop-init c = let e : length c.args.words.now - 0 ≡ length c.args.words.now = omega arith in rw e (omega arith, refl)

pub returns-then-key-word : goal.returns-then-key-word
returns-then-key-word c =
    let l = c.loop in
    let a = c.args in
    let ws = a.words.now in
    let left = length ws - l.counter in
    elim (eq? (get_or ws l.slot 0) a.key) [
      | inl e ↦ rw (eq-eqb (get_or ws l.slot 0) a.key e)
          (sym (l.invariant.1 ∙ look_here _ left ws a.key l.slot (omega arith) e))
      | inr n ↦ rw (ne_eqb (get_or ws l.slot 0) a.key n)
          (sym (l.invariant.1 ∙ look_larger _ left ws a.key l.slot (omega arith) (omega (arith, c.if-key-word.true, n))))
    ]

pub returns-then-word-eq0 : goal.returns-then-word-eq0
returns-then-word-eq0 c =
    let l = c.loop in
    let a = c.args in
    sym (l.invariant.1 ∙ look_empty _ (length a.words.now - l.counter) a.words.now a.key l.slot (omega arith) c.requires.1 c.if-word-eq0.true)

pub loop-preserved : goal.loop-preserved
loop-preserved c =
    let l = c.loop in
    let a = c.args in
    let m = length a.words.now in
    let next : m - (l.counter + 1) ≡ m - l.counter - 1 = omega arith in
    let n = c.next_slot-slot.ensures in (
      n.inside,
      l.invariant.1
          ∙ rw (n.at, next) (look_on _ (m - l.counter) a.words.now a.key l.slot (omega arith) c.if-word-eq0.false c.if-key-word.false),
    )

pub returns : goal.returns
returns c =
    let l = c.loop in
    let a = c.args in
    sym (l.invariant.1 ∙ look_round _ (length a.words.now - l.counter) a.words.now a.key l.slot (omega arith))
