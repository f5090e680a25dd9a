-- `stolen_table::is_right` meets its contract: each `return` is a case of the definition.
use mathlib.Core.Bool.{◌&&◌}
use mathlib.Core.Path.{◌≡◌, sym, ◌∙◌, ap}
use borrow.Author.Tests.{le-leb, lt-leb}
use lib.Dec.{leb}
use Rattle.hashing.specs.Hash.{tables}
use Rattle.hashing.specs.Slots.{slot_0}
use Rattle.probing.specs.Moves.{right, slot_turn}
use Rattle.stolen_table.specs.Round.{right_blank, right_key}
use Rattle.stolen_table.proofs.is_right.Goals as goal

pub returns-then-is_blank : goal.returns-then-is_blank
returns-then-is_blank c =
    let a = c.args in
    sym (right_blank a.slots a.base _ a.key a.wall a.turn (sym c.is_blank.ensures ∙ c.if-is_blank.true))

pub returns-then-wall-start : goal.returns-then-wall-start
returns-then-wall-start c =
    let keyed : let a = c.args in right a.slots a.base (slot_0 (tables a.tabulation.now a.slots a.station)) 10 a.key a.wall a.turn ≡ (leb a.wall c.turn_of-start.result && leb c.turn_of-start.result a.turn) = let a = c.args in
    right_key a.slots a.base _ a.key a.wall a.turn c.turn_of-start.result
    (sym c.is_blank.ensures ∙ c.if-is_blank.false)
    (c.turn_of-start.ensures.at ∙ ap (slot_turn a.slots a.base) c.start_of.ensures.at) in
    sym (keyed ∙ rw (le-leb _ _ c.if-wall-start.true))

pub returns-else-wall-start : goal.returns-else-wall-start
returns-else-wall-start c =
    let keyed : let a = c.args in right a.slots a.base (slot_0 (tables a.tabulation.now a.slots a.station)) 10 a.key a.wall a.turn ≡ (leb a.wall c.turn_of-start.result && leb c.turn_of-start.result a.turn) = let a = c.args in
    right_key a.slots a.base _ a.key a.wall a.turn c.turn_of-start.result
    (sym c.is_blank.ensures ∙ c.if-is_blank.false)
    (c.turn_of-start.ensures.at ∙ ap (slot_turn a.slots a.base) c.start_of.ensures.at) in
    let t = lt-leb _ _ c.if-wall-start.false in rw t (sym (keyed ∙ rw t))
