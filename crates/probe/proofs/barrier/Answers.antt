use Prim.Native.Nat.{◌<◌}
use mathlib.Core.Logic.{inl, inr}
use native.Mathlib.Omega.{arith}
use lib.ListN.{get_or}
use Rattle.basics.proofs.Tests.{eq?}
use Rattle.probing.specs.Walls.{empty, largest as none-larger}
use Rattle.probe.proofs.barrier.Goals as goal

pub loop-slot-init : goal.loop-slot-init
loop-slot-init c = (c.requires, λ p l. absurd (omega arith))

pub returns-then-word-eq0 : goal.returns-then-word-eq0
returns-then-word-eq0 c = record {
  inside = omega arith;
  unpassed = empty c.if-word-eq0.true;
}

pub loop-slot-preserved : goal.loop-slot-preserved
loop-slot-preserved c =
    let l = c.loop-slot in
    let ws = c.args.words.now in
    let filled : 0 < get_or ws l.slot 0 = let n = c.if-word-eq0.false in omega arith in
    elim c.if-words-largest.branch [
      | goal.then-words-largest w ↦ rw w.largest-is (
        omega arith,
        λ p k. elim (eq? p l.slot) [
          | inl e ↦ rw e (filled, omega arith)
          | inr n ↦ let r = l.invariant.1 p (omega arith) in (r.0, omega (arith, r.1, w.if-words-largest.true))
        ],
      )
      | goal.else-words-largest w ↦ rw w.largest-is (
        l.invariant.0,
        λ p k. elim (eq? p l.slot) [
          | inl e ↦ rw e (filled, w.if-words-largest.false)
          | inr n ↦ l.invariant.1 p (omega arith)
        ],
      )
    ]

pub returns : goal.returns
returns c =
    let l = c.loop-slot in
    record {
      inside = l.invariant.0;
      unpassed = none-larger (λ p k. l.invariant.1 p (omega arith));
    }
