-- `writing::put_word` meets its contract: a number of 32 bits has at most 10 digits.
use native.Mathlib.Omega.{arith}
use Rattle.grammar.proofs.Decimal.{digits_32}
use Rattle.writing.proofs.put_word.Goals as goal

pub put_number-requires : goal.put_number-requires
put_number-requires c = omega (arith, digits_32 c.args.n (omega arith))

pub returns : goal.returns
returns c =
    let w = c.put_number.ensures in
    record {
      written = w;
      short = omega (arith, w.moved, digits_32 c.args.n (omega arith));
    }
