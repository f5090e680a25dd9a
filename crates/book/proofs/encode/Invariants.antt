-- `book::encode` meets its contract: after i turns the first 2 * i bytes are those of the first i entries.
use Rattle.std.proofs.Common.{◌*◌, ◌≡◌, take}
use Rattle.book.specs.Bytes.{bytes_of}
use Rattle.book.proofs.encode.Given as goal

abbrev pub invariant-loop-i : goal.invariant-loop-i
invariant-loop-i l = take (2 * l.i) l.bytes ≡ take (2 * l.i) (bytes_of l.entries)
