-- `writing::put_long` meets its contract: a number of 64 bits has at most 20 digits.
use native.Mathlib.Omega.{arith}
use Rattle.grammar.proofs.Decimal.{digits_64}
use Rattle.writing.proofs.put_long.Goals as goal

pub put_number-requires : goal.put_number-requires
put_number-requires c = omega (arith, digits_64 c.args.n (omega arith))

pub returns : goal.returns
returns c =
    let w = c.put_number.ensures in
    record {
      written = w;
      short = omega (arith, w.moved, digits_64 c.args.n (omega arith));
    }
