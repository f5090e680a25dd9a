use Prim.Native.Nat.{◌/◌, ◌%◌}
use mathlib.Core.Path.{ap}
use native.Mathlib.Omega.{arith}
use lib.ListN.{length, length-append}
use mathlib.Core.List.{[], ◌∷◌}
use Rattle.grammar.specs.Decimal.{decimal, digit}
use Rattle.grammar.proofs.Decimal.{decimal_small, decimal_large}
use Rattle.writing.proofs.digits.Goals as goal

pub loop-rest-preserved : goal.loop-rest-preserved
loop-rest-preserved c =
    let r = c.loop-rest.rest in
    let d = decimal_large r (omega arith) in
    (omega arith, omega (arith, c.loop-rest.invariant.1, ap length d, length-append (decimal (r / 10)) (digit (r % 10) ∷ [])))

pub returns : goal.returns
returns c = omega (arith, c.loop-rest.invariant.1, ap length (decimal_small c.loop-rest.rest (omega arith)))
