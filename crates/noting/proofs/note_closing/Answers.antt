use Rattle.std.proofs.Common.{◌≡◌, ◌∙◌, ℕ, suc, ◌<◌, Some, None, arith}
use Rattle.build.specs.Scratch.{Parts}
use Rattle.build.specs.NotesCode.{Closing, with_noting, rank_noted, ranks_noted, answer}
use Rattle.build.proofs.NotesCode.{closing_more, closing_over, closing_done}
use Rattle.noting.proofs.note_closing.Goals as goal

-- one rank more, for which there was room, and one for which there was none
more : {r n i k rank count m : ℕ} {P₀ P Q : Parts} → Closing r n P₀ i count P → i < n → rank ≡ suc i → k ≡ suc i
    → Q ≡ with_noting P (rank_noted r rank count P) → Some m ≡ answer (rank_noted r rank count P) → Closing r n P₀ k m Q
more C l this next is told = rw next (closing_more C l (rw this at is) (rw this at told))

over : {r n i rank count : ℕ} {P₀ P Q : Parts} → Closing r n P₀ i count P → i < n → rank ≡ suc i
    → Q ≡ with_noting P (rank_noted r rank count P) → None ≡ answer (rank_noted r rank count P)
    → (Q ≡ with_noting P₀ (ranks_noted r n 0 0 P₀)) × (None ≡ answer (ranks_noted r n 0 0 P₀))
over C l this is told = closing_over C l (rw this at is) (rw this at told)

pub returns-in_err-count : goal.returns-in_err-count
returns-in_err-count c =
    let e = c.in_err-count.ensures in
    let all = over c.loop-rank.invariant.1 (omega arith) (omega arith) e.noted e.counted in
    record { noted = all.0; counted = c.from_residual.ensures ∙ all.1 }

pub loop-rank-preserved : goal.loop-rank-preserved
loop-rank-preserved c =
    let e = c.in_ok-count.ensures in
    (omega arith, more c.loop-rank.invariant.1 (omega arith) (omega arith) (omega arith) e.noted e.counted)

pub returns : goal.returns
returns c =
    let all = closing_done c.loop-rank.invariant.1 (omega arith) in record { noted = all.0; counted = all.1 }

pub returns-in_ok-count : goal.returns-in_ok-count
returns-in_ok-count c =
    let e = c.in_ok-count.ensures in
    let all = closing_done (more {k = c.loop-rank.rank} c.loop-rank.invariant.1 (omega arith) (omega arith) (omega arith) e.noted e.counted) (omega arith) in
    record { noted = all.0; counted = all.1 }
