-- `seating::finish::finish_rank` meets its contract: the tests are those of the definition.
use Rattle.std.proofs.Common.{◌≡◌, ◌∙◌, ap, ℕ, ◌/◌, ◌%◌, get_or, arith}
use Rattle.forest.specs.Graph.{finished_cycle}
use Rattle.build.specs.Scratch.{Parts, parts, with_graph}
use Rattle.build.specs.Notes.{pair_base}
use Rattle.build.proofs.FinishCode.{rank_aside, rank_other, rank_tree, rank_cycle}
use Rattle.seating.proofs.finish.finish_rank.Goals as goal

-- what is noted at the label of a rank
noted_at : (P : Parts) (rank : ℕ) {label x : ℕ} → x ≡ get_or P.sets label 0 → label ≡ get_or P.next rank 0 → x ≡ get_or P.sets (get_or P.next rank 0) 0
noted_at P rank e l = e ∙ ap (λ (k : ℕ). get_or P.sets k 0) l

pub returns-then-r-label : goal.returns-then-r-label
returns-then-r-label c =
    let a = c.args in
    rank_aside a.r (parts a.r a.s a.n a.scratch.now) a.rank c.requires.2.graph (omega (arith, c.word-label.ensures, c.if-r-label.true))

pub returns-then-noted-rank : goal.returns-then-noted-rank
returns-then-noted-rank c =
    let a = c.args in
    let P = parts a.r a.s a.n a.scratch.now in
    let e = noted_at P a.rank c.note-noted.ensures c.word-label.ensures in
    rank_other a.r P a.rank c.requires.2.graph (rw c.word-label.ensures at c.if-r-label.false) (λ q. c.if-noted-rank.true (ap (λ (x : ℕ). x % pair_base) e ∙ q))

pub returns-then-noted-lt-PAIR_BASE : goal.returns-then-noted-lt-PAIR_BASE
returns-then-noted-lt-PAIR_BASE c =
    let a = c.args in
    let P = parts a.r a.s a.n a.scratch.now in
    let e = noted_at P a.rank c.note-noted.ensures c.word-label.ensures in
    rank_tree a.r P a.rank (rw c.word-label.ensures at c.if-r-label.false) (rw e at c.if-noted-rank.false) (rw e at c.if-noted-lt-PAIR_BASE.true) c.finish_tree.ensures

pub returns-else-noted-lt-PAIR_BASE : goal.returns-else-noted-lt-PAIR_BASE
returns-else-noted-lt-PAIR_BASE c =
    let a = c.args in
    let P = parts a.r a.s a.n a.scratch.now in
    let e = noted_at P a.rank c.note-noted.ensures c.word-label.ensures in
    rank_cycle a.r P a.rank (rw c.word-label.ensures at c.if-r-label.false) (rw e at c.if-noted-rank.false) (rw e at c.if-noted-lt-PAIR_BASE.false)
    (c.finish_cycle.ensures ∙ ap (λ (x : ℕ). with_graph P (finished_cycle a.r P.graph (x / pair_base))) e)
