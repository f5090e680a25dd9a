-- `writing::put_byte` meets its contract.
use Rattle.writing.specs.Written.{written_byte}
use Rattle.writing.proofs.put_byte.Goals as goal

pub returns : goal.returns
returns c = written_byte _ _ _ c.requires
