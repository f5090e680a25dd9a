use Rattle.std.proofs.Common.{◌≡◌, ◌∙◌, ap, ℕ, get_or, set, arith}
use Rattle.build.specs.Scratch.{Parts, parts, with_sets}
use Rattle.build.proofs.NotesCode.{lowing_done, lowing_skip, lowing_put}
use Rattle.noting.proofs.note_smallest.Goals as goal

-- the label is the word of the rank
put : {Q : Parts} (P : Parts) (label rank : ℕ) → Q ≡ with_sets P (set P.sets label rank) → label ≡ get_or P.next rank 0
    → Q ≡ with_sets P (set P.sets (get_or P.next rank 0) rank)
put P label rank e l = e ∙ ap (λ (k : ℕ). with_sets P (set P.sets k rank)) l

pub loop-rank-preserved : goal.loop-rank-preserved
loop-rank-preserved c =
    let a = c.args in
    let before : Parts = parts a.r a.s a.n c.loop-rank.scratch in
    let l = c.loop-rank in
    let e = c.word-label.ensures in
    elim c.if-label-r.branch [
      | goal.then-label-r t ↦ lowing_put l.invariant (omega arith) (rw e at t.if-label-r.true) (ap (parts a.r a.s a.n) t.scratch-is ∙ put before _ l.rank t.put_note.ensures e)
      | goal.else-label-r t ↦ rw t.scratch-is (lowing_skip l.invariant (omega arith) (rw e at t.if-label-r.false))
    ]

pub returns : goal.returns
returns c = lowing_done c.loop-rank.invariant (omega arith)
