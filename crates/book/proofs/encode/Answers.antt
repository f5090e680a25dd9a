use Rattle.std.proofs.Common.{◌≡◌, ◌/◌, ◌%◌, get_or, arith}
use Rattle.book.proofs.Bytes.{encode_step, encode_end}
use Rattle.book.proofs.encode.Goals as goal

pub loop-i-preserved : goal.loop-i-preserved
loop-i-preserved c =
    let l = c.loop-i in
    let es = c.args.entries.now in
    let e = get_or es l.i 0 in
    let low : get_or c.to_le_bytes.result 0 0 ≡ e % 256 = rw c.to_le_bytes.ensures (omega arith) in
    let high : get_or c.to_le_bytes.result 1 0 ≡ e / 256 = rw c.to_le_bytes.ensures (omega (arith, c.type_inv.entries l.i)) in
    rw (low, high) (encode_step es l.bytes l.i (omega arith) l.invariant (omega arith))

pub returns : goal.returns
returns c = let l = c.loop-i in encode_end c.args.entries.now l.bytes l.i (omega arith) l.invariant (omega arith)
