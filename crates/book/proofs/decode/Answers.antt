use Rattle.std.proofs.Common.{arith}
use Rattle.book.proofs.Bytes.{decode_step, decode_end}
use Rattle.book.proofs.decode.Goals as goal

pub loop-i-preserved : goal.loop-i-preserved
loop-i-preserved c =
    let l = c.loop-i in
    decode_step c.args.bytes.now l.entries l.i (omega arith) l.invariant (omega arith) (omega (arith, c.from_le_bytes.ensures))

pub returns : goal.returns
returns c = let l = c.loop-i in decode_end c.args.bytes.now l.entries l.i (omega arith) l.invariant (omega arith)
