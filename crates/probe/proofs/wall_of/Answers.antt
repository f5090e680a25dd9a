use Prim.Native.Nat.{◌≤◌, ◌<◌, ◌-◌}
use mathlib.Core.Path.{◌≡◌, sym, ◌∙◌}
use native.Mathlib.Omega.{arith}
use lib.ListN.{length}
use Rattle.probing.specs.Moves.{turn_word, wall as wall-at}
use Rattle.probing.proofs.Walls.{wall_le}
use Rattle.probe.specs.Turns.{wall_stop, wall_over, wall_end}
use Rattle.probe.proofs.wall_of.Goals as goal

pub returns-then-word-eq0 : goal.returns-then-word-eq0
returns-then-word-eq0 c =
    let a = c.args in
    let l = c.loop-wall in
    let at = c.slot_of.ensures.at in
    let stop : (0 < turn_word (length a.words.now) a.words.now a.base (l.wall - 1) → a.key ≤ turn_word (length a.words.now) a.words.now a.base (l.wall - 1)) =
    elim c.then-word-eq0.branch [
      | goal.then-word-eq0-via-then-word-eq0 w ↦ λ k. let z = rw at at w.if-word-eq0.true in omega arith
      | goal.then-word-eq0-via-else-word-eq0+then-key-word w ↦ λ k. rw at at w.if-key-word.true
    ] in
    record {
      at = sym (l.invariant.1 ∙ wall_stop _ a.words.now a.base a.key l.wall (omega arith) stop);
      inside = l.invariant.0;
    }

pub loop-wall-smaller : goal.loop-wall-smaller
loop-wall-smaller c =
    let jumped : let a = c.args in let ws = a.words.now in let i = c.loop-wall.wall - 1 in c.from-wall.result ≡ wall-at (length ws) ws a.base (turn_word (length ws) ws a.base i) i = let n = rw c.slot_of.ensures.at at c.if-word-eq0.false in
    c.from-wall.ensures ∙ c.requires.3.each (c.loop-wall.wall - 1) (omega arith) (omega (arith, n)) in
    let a = c.args in
    let ws = a.words.now in
    let i = c.loop-wall.wall - 1 in
    omega (arith, jumped, wall_le (length ws) ws a.base (turn_word (length ws) ws a.base i) i)

pub loop-wall-preserved : goal.loop-wall-preserved
loop-wall-preserved c =
    let jumped : let a = c.args in let ws = a.words.now in let i = c.loop-wall.wall - 1 in c.from-wall.result ≡ wall-at (length ws) ws a.base (turn_word (length ws) ws a.base i) i = let n = rw c.slot_of.ensures.at at c.if-word-eq0.false in
    c.from-wall.ensures ∙ c.requires.3.each (c.loop-wall.wall - 1) (omega arith) (omega (arith, n)) in
    let a = c.args in
    let ws = a.words.now in
    let l = c.loop-wall in
    let i = l.wall - 1 in
    let at = c.slot_of.ensures.at in
    let n = rw at at c.if-word-eq0.false in
    let s = rw at at c.if-key-word.false in (
      omega (arith, jumped, wall_le (length ws) ws a.base (turn_word (length ws) ws a.base i) i),
      l.invariant.1 ∙ rw (jumped) (wall_over (length ws) ws a.base a.key l.wall (omega arith) n s),
    )

pub returns : goal.returns
returns c =
    let a = c.args in
    let l = c.loop-wall in
    record {
      at = sym (l.invariant.1 ∙ wall_end _ a.words.now a.base a.key l.wall (omega arith));
      inside = omega arith;
    }
