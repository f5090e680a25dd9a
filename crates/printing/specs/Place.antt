-- Where a printer puts its next row. Assumes nothing.
use Rattle.std.specs.Prelude.{ℕ, ◌-◌, cond, ltb}
use Rattle.grammar.specs.Row.{row_room}

-- behind the rows that wait; at the front of the buffer, where they leave no room for another: they are written out
-- then, unless rows are lost
abbrev pub place_for : ℕ → ℕ
place_for count = cond (ltb (4096 - row_room) count) 0 count
