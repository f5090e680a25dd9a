use Rattle.std.proofs.Common.{arith}
use Rattle.build.proofs.NextCode.{chain_skip, chain_put, chain_done}
use Rattle.seating.proofs.next.chain_ranks.Goals as goal

pub loop-rank-preserved : goal.loop-rank-preserved
loop-rank-preserved c =
    let l = c.loop-rank in
    let e = c.word-label.ensures in
    elim c.if-label-r.branch [
      | goal.then-label-r t ↦
          rw t.scratch-is (chain_put l.invariant (omega arith) c.word-label.result t.note-last.result e t.if-label-r.true t.note-last.ensures t.put_word.ensures t.put_note.ensures)
      | goal.else-label-r t ↦ rw t.scratch-is (chain_skip l.invariant (omega arith) (rw e at t.if-label-r.false))
    ]

pub returns : goal.returns
returns c =
    chain_done c.loop-rank.invariant (omega arith) c.put_word-2.ensures
