use Rattle.std.proofs.Common.{ℕ, ◌≡◌, arith, sym, ◌∙◌, length}
use lib.ListN.{length-set, length-replicate}
use Rattle.probing.specs.Moves.{turn_word, wall as wall-at}
use Rattle.stolen_table.specs.Round.{settled_empty, settled_key, settled_on, settled_not, settled_all}
use Rattle.stolen_table.specs.Round.{walled_none, walled_empty, walled_key}
use Rattle.stolen_table.specs.Decided.{settled_canonical}
use Rattle.stolen_table.proofs.is_canonical.Goals as goal
use Rattle.stolen_table.proofs.is_canonical.Goals.{then-key-ne0+else-not-is_right, else-key-ne0}

pub loop-turn-init : goal.loop-turn-init
loop-turn-init c =
    let a = c.args in (
      length-replicate {A = ℕ} 1024 0,
      walled_none (length a.words.now) a.words.now a.base _,
      sym (settled_canonical a.tabulation.now a.words.now a.station c.requires.0 a.base c.requires.1 c.requires.2),
    )

pub returns-then-not-is_right : goal.returns-then-not-is_right
returns-then-not-is_right c =
    let a = c.args in
    let ws = a.words.now in
    let at = c.slot_of.ensures.at in
    let walled : c.wall_of-wall.result ≡ wall-at (length ws) ws a.base (turn_word (length ws) ws a.base c.loop-turn.turn) c.loop-turn.turn =
    rw at at c.wall_of-wall.ensures.at in
    let judged = (rw (at, walled) at c.is_right.ensures)
    ∙ sym (settled_key _ ws a.base _ c.loop-turn.turn (rw at at c.if-key-ne0.true)) in
    sym (c.loop-turn.invariant.2
    ∙ settled_not _ ws a.base _ c.loop-turn.turn c.loop-turn-test.true (sym judged ∙ c.if-not-is_right.true))

pub loop-turn-preserved : goal.loop-turn-preserved
loop-turn-preserved c =
    let a = c.args in
    let ws = a.words.now in
    let l = c.loop-turn in
    let inside = c.loop-turn-test.true in
    let at = c.slot_of.ensures.at in
    elim c.if-key-ne0.branch [
      | then-key-ne0+else-not-is_right w ↦
          let walled : w.wall_of-wall.result ≡ wall-at (length ws) ws a.base (turn_word (length ws) ws a.base l.turn) l.turn =
          rw at at w.wall_of-wall.ensures.at in
          let judged = (rw (at, walled) at w.is_right.ensures)
          ∙ sym (settled_key _ ws a.base _ l.turn (rw at at w.if-key-ne0.true)) in
          rw w.walls-is (
            rw length-set l.invariant.0,
            walled_key _ (omega (arith, l.invariant.0, c.requires.0.slots_bound)) walled l.invariant.1,
            l.invariant.2 ∙ settled_on _ ws a.base _ l.turn inside (sym judged ∙ w.if-not-is_right.false),
          )
      | else-key-ne0 w ↦
          let z = rw at at w.if-key-ne0.false in
          rw w.walls-is (
            l.invariant.0,
            walled_empty z l.invariant.1,
            l.invariant.2 ∙ settled_on _ ws a.base _ l.turn inside (settled_empty _ ws a.base _ l.turn z),
          )
    ]

pub returns : goal.returns
returns c =
    let a = c.args in
    sym (c.loop-turn.invariant.2 ∙ settled_all _ a.words.now a.base _ c.loop-turn.turn (omega arith))
