-- `book::decode` meets its contract: after i turns the first i entries are those of the first 2 * i bytes.
use Rattle.std.proofs.Common.{◌≡◌, take}
use Rattle.book.specs.Bytes.{entries_of}
use Rattle.book.proofs.decode.Given as goal

abbrev pub invariant-loop-i : goal.invariant-loop-i
invariant-loop-i l = take l.i l.entries ≡ take l.i (entries_of l.bytes)
