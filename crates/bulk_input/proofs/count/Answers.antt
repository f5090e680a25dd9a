-- `bulk_input::count` meets its contract.
use Rattle.std.proofs.Common.{arith}
use Rattle.bulk.proofs.Input.{input_count}
use Rattle.bulk_input.proofs.count.Goals as goal

pub returns : goal.returns
returns c = omega (arith, input_count c.args.input.now)
