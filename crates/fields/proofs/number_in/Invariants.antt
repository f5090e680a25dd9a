-- `fields::number_in` meets its contract: the loop reads digits as `read` does.
use Rattle.std.proofs.Common.{◌≡◌, drop}
use Rattle.grammar.specs.Number.{number_of, read}
use Rattle.fields.proofs.number_in.Given as goal

abbrev pub invariant-loop-b : goal.invariant-loop-b
invariant-loop-b l = number_of l.text ≡ read l.n (drop l.b-index l.text)
