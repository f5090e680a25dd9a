use native.Mathlib.Omega.{arith}
use Prim.Native.Nat.{ℕ, ◌<◌, ◌*◌, ◌-◌, suc, ◌+◌}
use mathlib.Core.Bool.{cond}
use mathlib.Core.Path.{◌≡◌, refl, ◌∙◌, sym, ap}
use lib.Dec.{ltb}
use lib.ListN.{get_or}
use borrow.Author.Tests.{lt-ltb, le-ltb}
use Rattle.forest.specs.Way.{lowest_slot}
use Rattle.forest.proofs.Way.{lowest_none, lowest_stop, lowest_step}
use Rattle.forest.specs.Graph.{held_in, other_slot}
use Rattle.forest.proofs.Graph.{held_word}
use borrow.Author.Rules.{rules}
use Rattle.forest.proofs.lowest_slot.Goals as goal

pub returns-then-rank-eq0 : goal.returns-then-rank-eq0
returns-then-rank-eq0 c =
    let l = c.loop in
    let g = c.args.graph.now in
    let z = sym (held_word c.requires.0 l.at l.invariant.0) ∙ c.if-rank-eq0.true in
    (sym (l.invariant.2 ∙ lowest_stop (other_slot c.args.r g) (2 * c.args.r + 1 - l.counter) (held_in c.args.r g) l.at l.low z), search rules)

pub loop-preserved : goal.loop-preserved
loop-preserved c =
    let l = c.loop in
    let r = c.args.r in
    let g = c.args.graph.now in
    let w = held_word c.requires.0 l.at l.invariant.0 in
    let w' = held_word c.requires.0 l.low l.invariant.1 in
    let x = get_or g l.at 0 in
    let y = get_or g l.low 0 in
    let e : 2 * r + 1 - l.counter ≡ suc (2 * r + 1 - (l.counter + 1)) = omega arith in
    let k : (c.if-rank-graph.low ≡ cond (ltb x y) l.at l.low) × (c.if-rank-graph.low < 2 * r) = elim c.if-rank-graph.branch [
      | goal.then-rank-graph q ↦ (rw (lt-ltb x y q.if-rank-graph.true) q.low-is, omega arith)
      | goal.else-rank-graph q ↦ (rw (le-ltb x y (omega arith)) q.low-is, omega arith)
    ] in (
      c.other_slot-at.ensures.1,
      k.1,
      l.invariant.2 ∙ ap (λ (n : ℕ). lowest_slot (other_slot r g) n (held_in r g) l.at l.low) e
          ∙ lowest_step (other_slot r g) (2 * r + 1 - (l.counter + 1)) (held_in r g) l.at l.low (λ q. c.if-rank-eq0.false (w ∙ q))
          ∙ rw (k.0, c.other_slot-at.ensures.0, w, w') refl,
    )

pub returns : goal.returns
returns c =
    let l = c.loop in
    let z : 2 * c.args.r + 1 - l.counter ≡ 0 = omega arith in
    (sym (l.invariant.2 ∙ rw z (lowest_none (other_slot c.args.r c.args.graph.now) (held_in c.args.r c.args.graph.now) l.at l.low)), search rules)
