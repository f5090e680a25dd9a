-- A line of any length in bounded memory: what a `Line` says of the bytes of the current line, which may be more than it has room for.
-- Assumes nothing.
use Rattle.std.specs.Prelude.{ℕ, suc, ◌≤◌, min, ◌≡◌, List, length, take}
use Rattle.grammar.specs.Command.{longest}
use Rattle.lines.specs.declared.Line.{Line}

-- after the bytes l of a line: how many they are, up to one more than the longest line of a known form, and which, if they are not more than that
pub record Buffers (line : Line) (l : List ℕ) : Type 0 where
  pub counted : line.count ≡ min (length l) (suc longest)
  pub kept : length l ≤ longest → take (length l) line.bytes ≡ l
